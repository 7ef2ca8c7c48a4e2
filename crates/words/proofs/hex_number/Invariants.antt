use Rattle.words.proofs.Digits.{SoFar}
use Rattle.words.proofs.hex_number.Given as goal

abbrev pub invariant-loop-b : goal.invariant-loop-b
invariant-loop-b g l = SoFar l.part l.b-index l.value
