use Rattle.sheets.proofs.Decoding.{SoFar}
use Rattle.sheets.proofs.digits.decode.Given as goal

abbrev pub invariant-loop-i : goal.invariant-loop-i
invariant-loop-i l = SoFar l.digits l.i l.bytes
