use Rattle.std.proofs.Common.{ℕ, sym, subst, subst₂}
use Rattle.octics.specs.Octics.{Accepted}
use Rattle.towers.specs.Fitted.{Sixteen}
use Rattle.towers.specs.Keeps.{Keeps}
use Rattle.display_ring.proofs.DisplayPairs.{sixteen}
use Rattle.ends.proofs.Known.{accepted_of}
use Rattle.ends.proofs.display.known_fit.Goals as goal

pub inverses_by-inverses-requires : goal.inverses_by-inverses-requires
inverses_by-inverses-requires c =
    let ring = sym c.display_ring.ensures in
    let octic = sym c.octic_of.ensures in
    record {
      field = subst (λ (f : ℕ → ℕ → ℕ). Sixteen 4 f) ring sixteen;
      accepted = subst Accepted octic (accepted_of c.args.cipher);
      kept = subst₂ (λ (f : ℕ → ℕ → ℕ) (o : ℕ). Keeps f o c.known_pair-pair.result) ring octic c.known_pair-pair.ensures;
    }
