-- Division of polynomials over the field of two elements, as the test for divisors takes it. Assumes nothing.
use Rattle.std.specs.Prelude.{ℕ, zero, suc, ◌+◌, ◌-◌, ◌*◌, ◌^◌, ◌<◌, ◌≤◌, cond, Some, None, Option, bit_xor, nat_le}
use Rattle.octics.specs.Octics.{Divides}

-- one step of a division by d, of degree k: the multiple of d by the power i is taken off where the rest reaches it
abbrev pub cut : ℕ → ℕ → ℕ → ℕ → ℕ
cut k d i n = cond (nat_le (2 ^ (k + i)) n) (bit_xor n (d * 2 ^ i)) n

-- the steps at i - 1 down to 0
abbrev pub rest_from : ℕ → ℕ → ℕ → ℕ → ℕ
rest_from k d zero n = n
rest_from k d (suc i) n = rest_from k d i (cut k d i n)

-- the remainder of n, of degree at most 8, at division by d, of degree k
unfoldable pub remainder : ℕ → ℕ → ℕ → ℕ
remainder k d n = rest_from k d (9 - k) n

-- d has degree k, from 1 to 4
pub record Degree (k d : ℕ) : Type 0 where
  pub low : 1 ≤ k
  pub high : k ≤ 4
  pub from : 2 ^ k ≤ d
  pub below : d < 2 ^ (k + 1)

-- d is a divisor of degree 1 to 4
abbrev pub Divisor : ℕ → ℕ → Type 0
Divisor d n = (2 ≤ d) × (d < 32) × Divides d n

-- no divisor of degree 1 to 4 below d
abbrev pub NoneBelow : ℕ → ℕ → Type 0
NoneBelow d n = (e : ℕ) → e < d → Divisor e n → ⊥

-- the least divisor of degree 1 to 4, or none
abbrev pub First : ℕ → Option ℕ → Type 0
First n None = (d : ℕ) → 2 ≤ d → d < 32 → Divides d n → ⊥
First n (Some d) = Divisor d n × NoneBelow d n
