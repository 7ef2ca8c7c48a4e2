use Rattle.towers.proofs.Columns.{marked, unmarked, all_marked}
use Rattle.std.proofs.Common.{◌≡◌, ℕ, ◌+◌, ◌/◌, drop, sym, subst, arith}
use lib.Bits.{bit_xor}
use Rattle.towers.specs.Matrices.{apply}
use Rattle.towers.proofs.matrix.combine.Goals as goal
use Rattle.towers.proofs.matrix.combine.Goals.{then-rest-eq1, else-rest-eq1}

pub loop-column-preserved : goal.loop-column-preserved
loop-column-preserved c =
    let P : ℕ → Type 0 = λ s. bit_xor s (apply (drop (c.loop-column.column-index + 1) c.args.columns.now) (c.loop-column.rest / 2)) ≡ apply c.args.columns.now c.args.v in
    elim c.if-rest-eq1.branch [
      | then-rest-eq1 w ↦ subst P (sym w.sum-is) (marked c.args.columns.now c.loop-column.column-index c.loop-column.sum c.loop-column.rest _ (omega arith) w.if-rest-eq1.true c.loop-column.invariant)
      | else-rest-eq1 w ↦ subst P (sym w.sum-is) (unmarked c.args.columns.now c.loop-column.column-index c.loop-column.sum c.loop-column.rest _ (omega arith) w.if-rest-eq1.false c.loop-column.invariant)
    ]

pub returns : goal.returns
returns c = all_marked c.args.columns.now c.loop-column.column-index c.loop-column.sum c.loop-column.rest _ (omega arith) c.loop-column.invariant
