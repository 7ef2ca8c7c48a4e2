use Rattle.ciphers.proofs.Sm4Steps.{Sofar}
use Rattle.ciphers.proofs.sm4.expand.Given as goal

abbrev pub invariant-loop-i : goal.invariant-loop-i
invariant-loop-i g l = Sofar (g.B.Substitute.boxed l.boxes) l.initial.x l.x l.work l.i l.initial.work
