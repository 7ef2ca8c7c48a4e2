-- Lawful pairs: a constant and a map of bytes that carries a tower field into a ring of width 8. Assumes nothing.
use Rattle.std.specs.Prelude.{◌≡◌, ℕ, ◌<◌, bit_xor}
use Rattle.rings.specs.Pairing.{pair_mul}

-- c and m are a lawful pair for the ring of width 4 with product `mul` and the ring of width 8 with product `oct`:
-- m takes bytes to bytes, one to one, and keeps sums and products, those of the pairing with constant c going to those of `oct`
pub record Lawful (mul oct : ℕ → ℕ → ℕ) (c : ℕ) (m : ℕ → ℕ) : Type 0 where
  pub const : c < 16
  pub byte : (a : ℕ) → a < 256 → m a < 256
  pub adds : (a b : ℕ) → a < 256 → b < 256 → m (bit_xor a b) ≡ bit_xor (m a) (m b)
  pub keeps : (a b : ℕ) → a < 256 → b < 256 → m (pair_mul 4 mul c a b) ≡ oct (m a) (m b)
  pub once : (a b : ℕ) → a < 256 → b < 256 → m a ≡ m b → a ≡ b

-- n is the reverse map of m: it takes bytes to bytes, and either undoes the other
pub record Reverse (m n : ℕ → ℕ) : Type 0 where
  pub byte : (b : ℕ) → b < 256 → n b < 256
  pub there : (b : ℕ) → b < 256 → m (n b) ≡ b
  pub back : (a : ℕ) → a < 256 → n (m a) ≡ a
