use Rattle.std.proofs.Common.{ℕ, ◌<◌}
use Rattle.towers.specs.Place.{IsRoot}
use Rattle.towers.proofs.search.root.Given as goal

abbrev pub invariant-loop-g : goal.invariant-loop-g
invariant-loop-g g l = (k : ℕ) → k < l.g → IsRoot 1 (g.R.Ring.mul l.ring) k → ⊥
