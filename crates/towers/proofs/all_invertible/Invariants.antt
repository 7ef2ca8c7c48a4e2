use Rattle.std.proofs.Common.{ℕ, ◌<◌}
use Rattle.rings.specs.Laws.{Invertible}
use Rattle.towers.proofs.all_invertible.Given as goal

abbrev pub invariant-loop-a : goal.invariant-loop-a
invariant-loop-a g l = (k : ℕ) → 0 < k → k < l.a → Invertible g.R.Ring.WIDTH 1 (g.R.Ring.mul l.ring) k
