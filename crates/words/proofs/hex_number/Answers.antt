use Rattle.std.proofs.Common.{get_or, arith}
use Rattle.words.proofs.Digits.{so_far_more, so_far_bad, so_far_all, fits, digit_short}
use Rattle.words.proofs.hex_number.Goals as goal

pub overflow_mul-value : goal.overflow_mul-value
overflow_mul-value g c = omega (arith, fits c.loop-b.value c.loop-b.b-index (omega arith) c.loop-b.invariant.1)

pub returns-in_err-hex_value-clause-value : goal.returns-in_err-hex_value-clause-value
returns-in_err-hex_value-clause-value g c =
    rw c.from_residual.ensures (so_far_bad c.args.part.now c.loop-b.b-index c.loop-b.value _ (omega arith) (omega arith) c.in_err-hex_value.ensures c.loop-b.invariant)

pub overflow_add-value : goal.overflow_add-value
overflow_add-value g c =
    omega (arith, digit_short (get_or c.args.part.now c.loop-b.b-index 0) c.in_ok-hex_value.field-0 c.in_ok-hex_value.ensures, fits c.loop-b.value c.loop-b.b-index (omega arith) c.loop-b.invariant.1)

pub loop-b-preserved : goal.loop-b-preserved
loop-b-preserved g c =
    rw c.from.ensures (so_far_more c.args.part.now c.loop-b.b-index c.loop-b.value c.in_ok-hex_value.field-0 (omega arith) c.in_ok-hex_value.ensures c.loop-b.invariant)

pub returns-clause-value : goal.returns-clause-value
returns-clause-value g c = so_far_all c.args.part.now c.loop-b.b-index c.loop-b.value _ (omega arith) (omega arith) c.loop-b.invariant
