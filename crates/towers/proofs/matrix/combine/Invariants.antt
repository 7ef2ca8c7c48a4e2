use Rattle.std.proofs.Common.{◌≡◌, drop}
use lib.Bits.{bit_xor}
use Rattle.towers.specs.Matrices.{apply}
use Rattle.towers.proofs.matrix.combine.Given as goal

abbrev pub invariant-loop-column : goal.invariant-loop-column
invariant-loop-column l = bit_xor l.sum (apply (drop l.column-index l.columns) l.rest) ≡ apply l.columns l.v
