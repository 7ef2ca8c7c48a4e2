use Rattle.std.proofs.Common.{ℕ, subst, arith}
use Rattle.rings.specs.Laws.{Laws, Field}
use Rattle.towers.proofs.Swap.{root_any}
use Rattle.towers.proofs.search.root.Goals as goal

pub unreachable-requires : goal.unreachable-requires
unreachable-requires g c =
    let mul : ℕ → ℕ → ℕ = g.R.Ring.mul c.args.ring.now in
    let R : Laws 4 1 mul = subst (λ (w : ℕ). Laws w 1 mul) c.requires.0 (g.met.R.Ring.laws c.args.ring.now) in
    let F : Field 4 1 mul = subst (λ (w : ℕ). Field w 1 mul) c.requires.0 c.requires.1 in
    let k = root_any 1 mul R F in
    c.loop-g.invariant k.0 (omega (arith, k.1)) k.2
