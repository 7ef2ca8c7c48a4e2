-- Two maps that agree on every byte, by one test over all bytes, which antt computes. Assumes nothing.
use Rattle.std.proofs.Common.{◌≡◌, ℕ, ◌<◌, T, eqb, eqb→eq}
use Rattle.rings.proofs.Finite.{each, at}

-- the test is `tt`
pub same_on_bytes : (f g : ℕ → ℕ) → T (each 256 (λ x. eqb (f x) (g x))) → (b : ℕ) → b < 256 → f b ≡ g b
same_on_bytes f g t b h = eqb→eq (f b) (g b) (at 256 (λ x. eqb (f x) (g x)) t b h)
