use Rattle.std.proofs.Common.{◌≡◌, ◌+◌, ◌<◌, get_or, drop, arith}
use lib.Count.{ones, ones-le}
use Rattle.std.proofs.lemmas.List.{at_drop_more, at_drop_all}
use Rattle.towers.specs.Matrices.{entries}
use Rattle.towers.proofs.matrix.count.Goals as goal

pub overflow_add-total : goal.overflow_add-total
overflow_add-total c =
    let byte : get_or c.args.columns.now c.loop-column.column-index 0 < 256 = omega arith in
    omega (arith, ones-le 8 _ byte, c.loop-column.invariant.0)

pub loop-column-preserved : goal.loop-column-preserved
loop-column-preserved c =
    let byte : get_or c.args.columns.now c.loop-column.column-index 0 < 256 = omega arith in
    let more : entries (drop c.loop-column.column-index c.args.columns.now) ≡ ones (get_or c.args.columns.now c.loop-column.column-index 0) + entries (drop (c.loop-column.column-index + 1) c.args.columns.now) = at_drop_more entries c.args.columns.now c.loop-column.column-index 0 (omega arith) in
    (omega (arith, ones-le 8 _ byte, c.loop-column.invariant.0), omega (arith, more, c.loop-column.invariant.1))

pub returns : goal.returns
returns c =
    let done : entries (drop c.loop-column.column-index c.args.columns.now) ≡ 0 = at_drop_all entries c.args.columns.now c.loop-column.column-index (omega arith) in
    record { value = omega (arith, done, c.loop-column.invariant.1); few = omega (arith, c.loop-column.invariant.0) }
