-- Octics: polynomials of degree 8 over the field of two elements, as the numbers from 256 to 511; bit i stands for the power i.
-- Assumes nothing.
use Rattle.std.specs.Prelude.{◌≡◌, ℕ, ◌<◌, ◌≤◌, ◌⊎◌, Ok, Err, Result}
use Rattle.refusals.specs.declared.Refusal.{Refusal}
use Rattle.refusals.specs.declared.Refusal.TheVariants.{NotOctic, Divisible}
use Rattle.rings.specs.Poly.{carryless}

-- d divides n: some polynomial times d is n (one of degree at most 7 where n is an octic and d of degree 1 or more)
abbrev pub Divides : ℕ → ℕ → Type 0
Divides d n = (q : ℕ) × (carryless 8 q d ≡ n)

-- an octic is accepted if it has no divisor of degree 1 to 4
pub record Accepted (o : ℕ) : Type 0 where
  pub least : 256 ≤ o
  pub most : o < 512
  pub whole : (d : ℕ) → 2 ≤ d → d < 32 → Divides d o → ⊥

-- the number is no octic
abbrev pub Outside : ℕ → Type 0
Outside o = (o < 256) ⊎ (512 ≤ o)

-- the number is an octic, and some polynomial of degree 1 to 4 divides it
pub record Divided (o : ℕ) : Type 0 where
  pub least : 256 ≤ o
  pub most : o < 512
  pub divisor : ℕ
  pub from : 2 ≤ divisor
  pub below : divisor < 32
  pub divides : Divides divisor o

-- what a test of the number o answers
abbrev pub Checked : ℕ → Result Unit Refusal → Type 0
Checked o (Ok u) = Accepted o
Checked o (Err e) = ((e ≡ NotOctic) × Outside o) ⊎ ((e ≡ Divisible) × Divided o)
