-- Steps of the test whether a ring is a field of width 4. Assumes nothing.
use Rattle.std.proofs.Common.{◌≡◌, ℕ, ◌+◌, ◌%◌, ◌^◌, ◌<◌, ◌≤◌, true, false, T, is_some, Some, None, Option, sym, ◌∙◌, subst, mod-eq_of_lt, arith}
use native.Mathlib.Decide.{ℕ_discrete}
use Rattle.rings.specs.Laws.{Inverse, Invertible, NoInverse, Inverts, Field}

module _ (w : ℕ) (mul : ℕ → ℕ → ℕ) (four : w ≡ 4) where
  code : (a : ℕ) → a < 16 → a < 2 ^ w
  code a h = subst (λ (v : ℕ). a < 2 ^ v) (sym four) h

  whole : (a : ℕ) → a < 16 → a % 2 ^ w ≡ a
  whole a h = mod-eq_of_lt (code a h)

  -- the codes below a have inverses, and a has one
  pub one_more : (a : ℕ) → a < 16 → (r : Option ℕ) → Inverts w 1 mul (a % 2 ^ w) r → is_some r ≡ true
      → ((k : ℕ) → 0 < k → k < a → Invertible w 1 mul k) → (k : ℕ) → 0 < k → k < a + 1 → Invertible w 1 mul k
  one_more a h None i e below k pos l = absurd (subst T (sym e) tt)
  one_more a h (Some b) i e below k pos l = elim (ℕ_discrete k a) [
    | yes q ↦ (b, subst (λ (x : ℕ). Inverse w 1 mul x b) (whole a h ∙ sym q) i)
    | no n ↦ below k pos (omega arith)
  ]

  pub not_field : (a : ℕ) → 1 ≤ a → a < 16 → (r : Option ℕ) → Inverts w 1 mul (a % 2 ^ w) r → is_some r ≡ false → Field w 1 mul → ⊥
  not_field a pos h None i e K =
      let b = K a (code a h) (omega arith) in
      subst (λ (x : ℕ). NoInverse w 1 mul x) (whole a h) i b.0 b.1.code b.1.product
  not_field a pos h (Some b) i e K = subst T e tt

  pub a_field : (a : ℕ) → 16 ≤ a → ((k : ℕ) → 0 < k → k < a → Invertible w 1 mul k) → Field w 1 mul
  a_field a h below k l pos = below k pos (wide k (subst (λ (v : ℕ). k < 2 ^ v) four l))
    where
      wide : (k : ℕ) → k < 16 → k < a
      wide k l = omega arith
