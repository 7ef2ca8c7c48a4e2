use Rattle.std.proofs.Common.{arith}
use Rattle.sheets.proofs.Decoding.{so_far_more, so_far_bad, so_far_all}
use Rattle.sheets.proofs.digits.decode.Goals as goal

pub returns-in_err-byte : goal.returns-in_err-byte
returns-in_err-byte c =
    rw c.from_residual.ensures (so_far_bad c.args.digits.now c.loop-i.i c.loop-i.bytes (omega arith) c.in_err-byte.ensures c.loop-i.invariant)

pub loop-i-preserved : goal.loop-i-preserved
loop-i-preserved c = so_far_more c.args.digits.now c.loop-i.i c.loop-i.bytes c.in_ok-byte.field-0 (omega arith) (omega arith) c.in_ok-byte.ensures c.loop-i.invariant

pub returns : goal.returns
returns c = so_far_all _ c.loop-i.i _ (omega arith) (omega arith) c.loop-i.invariant
