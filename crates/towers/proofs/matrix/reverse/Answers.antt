use Rattle.std.proofs.Common.{◌^◌, [], ◌∷◌, get_or, refl}
use Rattle.towers.specs.Place.{Solves}
use Rattle.towers.proofs.Columns.{at_eight}
use Rattle.towers.proofs.matrix.reverse.Goals as goal

pub returns : goal.returns
returns c = record {
  size = refl;
  each = at_eight (λ i. Solves c.args.columns.now 256 (2 ^ i) (get_or (c.preimage.result ∷ c.preimage-2.result ∷ c.preimage-3.result ∷ c.preimage-4.result ∷ c.preimage-5.result ∷ c.preimage-6.result ∷ c.preimage-7.result ∷ c.preimage-8.result ∷ []) i 0))
      c.preimage.ensures c.preimage-2.ensures c.preimage-3.ensures c.preimage-4.ensures c.preimage-5.ensures c.preimage-6.ensures c.preimage-7.ensures c.preimage-8.ensures;
}
