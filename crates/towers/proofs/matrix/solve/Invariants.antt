use Rattle.std.proofs.Common.{◌≡◌, ℕ, ◌<◌}
use Rattle.towers.specs.Matrices.{apply}
use Rattle.towers.proofs.matrix.solve.Given as goal

abbrev pub invariant-loop-v : goal.invariant-loop-v
invariant-loop-v l = (x : ℕ) → x < l.v → apply l.columns x ≡ l.code → ⊥
