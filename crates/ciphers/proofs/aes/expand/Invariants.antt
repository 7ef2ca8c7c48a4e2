use Rattle.ciphers.proofs.Schedule.{Sofar}
use Rattle.ciphers.proofs.aes.expand.Given as goal

abbrev pub invariant-loop-n : goal.invariant-loop-n
invariant-loop-n g l = Sofar (g.B.Substitute.boxed l.boxes) l.key l.work l.n
