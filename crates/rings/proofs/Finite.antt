-- Tests over all numbers below a bound, which antt computes, and what a passed test says. Assumes nothing.
use Rattle.std.proofs.Common.{ℕ, zero, suc, ◌<◌, Bool, true, false, T, sym, subst, not-suc-le-zero, arith}
use native.Mathlib.Decide.{ℕ_discrete}

abbrev pub both : Bool → Bool → Bool
both true b = b
both false b = false

pub both_left : (a b : Bool) → T (both a b) → T a
both_left true b t = tt
both_left false b t = t

pub both_right : (a b : Bool) → T (both a b) → T b
both_right true b t = t
both_right false b t = absurd t

-- the test passes at each number below the bound
abbrev pub each : ℕ → (ℕ → Bool) → Bool
each zero f = true
each (suc n) f = both (f n) (each n f)

pub at : (n : ℕ) (f : ℕ → Bool) → T (each n f) → (k : ℕ) → k < n → T (f k)
at zero f t k h = absurd (not-suc-le-zero h)
at (suc n) f t k h = elim (ℕ_discrete k n) [
  | yes e ↦ subst (λ (m : ℕ). T (f m)) (sym e) (both_left (f n) (each n f) t)
  | no ne ↦ at n f (both_right (f n) (each n f) t) k (omega arith)
]

pub at2 : (m n : ℕ) (f : ℕ → ℕ → Bool) → T (each m (λ a. each n (f a))) → (a b : ℕ) → a < m → b < n → T (f a b)
at2 m n f t a b ha hb = at n (f a) (at m (λ a. each n (f a)) t a ha) b hb
