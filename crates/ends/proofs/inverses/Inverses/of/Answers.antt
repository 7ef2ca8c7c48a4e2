use Rattle.std.proofs.Common.{get_or, ap, ◌∙◌, arith}
use Rattle.std.proofs.lemmas.List.FromFn.{get_or-map-range_with_len}
use Rattle.boxes.specs.Boxes.{inverse_mod}
use Rattle.ends.specs.Table.{inverses_mod}
use Rattle.ends.proofs.inverses.Inverses.of.Goals as goal

pub returns : goal.returns
unfolding inverses_mod
returns c =
    ap (λ t. get_or t c.args.x 0) c.args.self.now.right
    ∙ get_or-map-range_with_len (inverse_mod c.args.self.now.octic) 0 256 c.args.x c.args.x 0 (omega arith) (omega arith)
