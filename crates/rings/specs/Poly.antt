-- Polynomials over the field of two elements, as numbers: bit i stands for the power i. Assumes nothing.
use Rattle.std.specs.Prelude.{◌≡◌, ℕ, zero, suc, ◌*◌, ◌/◌, ◌%◌, ◌^◌, ◌<◌, bit_xor}

-- v, or 0 where the digit d is 0
abbrev pub pick : ℕ → ℕ → ℕ
pick zero v = 0
pick (suc d) v = v

-- The k low bits of p, as a polynomial in the map X, at v: the sum of X ^ i (v) over the bits i of p, by Horner's rule.
abbrev pub act : (ℕ → ℕ) → ℕ → ℕ → ℕ → ℕ
act X zero p v = 0
act X (suc k) p v = bit_xor (pick (p % 2) v) (X (act X k (p / 2) v))

-- the product of polynomials, of the first of which the k low bits count
abbrev pub carryless : ℕ → ℕ → ℕ → ℕ
carryless k a b = act (λ v. v * 2) k a b

-- times the indeterminate, modulo m, which is of degree w
abbrev pub times_x : ℕ → ℕ → ℕ → ℕ
times_x w m v = bit_xor (v * 2) (pick (v * 2 / 2 ^ w % 2) m)

-- the product modulo m, which is of degree w
unfoldable pub mul_mod : ℕ → ℕ → ℕ → ℕ → ℕ
mul_mod w m a b = act (times_x w m) w a b

-- x and y differ by a multiple of m, whose other factor has at most w bits
abbrev pub Congruent : ℕ → ℕ → ℕ → ℕ → Type 0
Congruent w m x y = (q : ℕ) × (bit_xor x y ≡ carryless w q m)

-- r is the remainder of the product of a and b: the one code that differs from it by a multiple of m, which is of degree w
pub record Remainder (w m a b r : ℕ) : Type 0 where
  pub code : r < 2 ^ w
  pub congruent : Congruent w m (carryless w a b) r
  pub only : (s : ℕ) → s < 2 ^ w → Congruent w m (carryless w a b) s → s ≡ r
