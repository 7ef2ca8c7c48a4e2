use Rattle.std.proofs.Common.{◌≡◌, ℕ, ◌%◌, ◌^◌, ◌<◌}
use Rattle.rings.proofs.Ring.inverse.Given as goal

abbrev pub invariant-loop-b : goal.invariant-loop-b
invariant-loop-b g l = let s = g.Self.Ring in (k : ℕ) → k < l.b → s.mul l.self (l.a % 2 ^ s.WIDTH) k ≡ 1 → ⊥
