use Rattle.std.proofs.Common.{get_or}
use Rattle.ciphers.proofs.Padding.{Sofar}
use Rattle.ciphers.proofs.counter.cover.Given as goal

abbrev pub invariant-loop-k : goal.invariant-loop-k
invariant-loop-k l = Sofar (λ k. get_or l.fn.pad k 0) l.bytes l.k l.initial.bytes
