use Rattle.std.proofs.Common.{◌≡◌, ◌+◌, ◌*◌, ◌≤◌, drop}
use Rattle.towers.specs.Matrices.{entries}
use Rattle.towers.proofs.matrix.count.Given as goal

abbrev pub invariant-loop-column : goal.invariant-loop-column
invariant-loop-column l = (l.total ≤ 8 * l.column-index) × (l.total + entries (drop l.column-index l.columns) ≡ entries l.columns)
