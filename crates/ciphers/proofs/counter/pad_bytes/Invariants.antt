use Rattle.std.proofs.Common.{ℕ, ◌*◌, List}
use Rattle.ciphers.specs.Counter.{Gives, pad_byte}
use Rattle.ciphers.specs.Keys.{cipher_of}
use Rattle.ciphers.proofs.Padding.{Sofar}
use Rattle.ciphers.proofs.counter.pad_bytes.Given as goal

abbrev pub invariant-loop-i : goal.invariant-loop-i
invariant-loop-i g l =
    (blocks : ℕ → List ℕ) → Gives (goal.F-post g l.fn.block) blocks
    → Sofar (pad_byte (λ i. cipher_of (g.B.Substitute.boxed l.boxes) l.keys (blocks i))) l.bytes (16 * l.i) l.initial.bytes
