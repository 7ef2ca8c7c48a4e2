use Rattle.std.proofs.Common.{◌≡◌, drop}
use Rattle.ciphers.specs.Sm4.{rounds_s}
use Rattle.ciphers.proofs.sm4.encrypt.Given as goal

abbrev pub invariant-loop-k : goal.invariant-loop-k
invariant-loop-k g l = rounds_s (g.B.Substitute.boxed l.boxes) (drop l.k-index l.keys) l.x ≡ rounds_s (g.B.Substitute.boxed l.boxes) l.keys l.initial.x
