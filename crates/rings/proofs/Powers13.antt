-- The product and the inverse of ring 13 through stored powers, by one test over all codes, which antt computes. Assumes nothing.
use Rattle.std.proofs.Common.{◌≡◌, ℕ, zero, suc, ◌+◌, ◌-◌, ◌%◌, ◌<◌, min, Bool, eqb, ltb, ◌⊎◌, get_or, refl, ◌∙◌, inl, inr, arith, lit<, eqb→eq, ltb→lt}
use Rattle.rings.specs.Poly.{mul_mod}
use Rattle.rings.specs.Powers.{powers, logs}
use Rattle.rings.specs.Laws.{Inverse, NoInverse}
use Rattle.rings.proofs.Finite.{both, both_left, both_right, at, at2}
use Rattle.rings.specs.Commuting.{the_inverse}
use Rattle.rings.specs.PolyLaws.{mul_mod_laws}

abbrev through_powers : ℕ → ℕ → ℕ
through_powers zero b = 0
through_powers (suc a) zero = 0
through_powers (suc a) (suc b) = get_or powers ((get_or logs (suc a) 0 + get_or logs (suc b) 0) % 15) 0

agree : (a b : ℕ) → a < 16 → b < 16 → through_powers a b ≡ mul_mod 4 0x13 a b
unfolding mul_mod
agree a b ha hb =
    let test : ℕ → ℕ → Bool = λ x y. eqb (through_powers x y) (mul_mod 4 0x13 x y) in
    eqb→eq _ _ (at2 16 16 test tt a b ha hb)

pub zero_product : (a b : ℕ) → a < 16 → b < 16 → (a ≡ 0) ⊎ ((a ≡ 0 → ⊥) × (b ≡ 0)) → 0 ≡ mul_mod 4 0x13 a b
zero_product a b ha hb z = none a b z ∙ agree a b ha hb
  where
    none : (a b : ℕ) → (a ≡ 0) ⊎ ((a ≡ 0 → ⊥) × (b ≡ 0)) → 0 ≡ through_powers a b
    none zero b z = refl
    none (suc a) zero z = refl
    none (suc a) (suc b) z = absurd (elim z [ inl e ↦ omega arith | inr e ↦ omega (arith, e.1) ])

pub power_product : (a b : ℕ) → a < 16 → b < 16 → (a ≡ 0 → ⊥) → (b ≡ 0 → ⊥)
    → get_or powers ((get_or logs a 0 + get_or logs b 0) % 15) 0 ≡ mul_mod 4 0x13 a b
power_product a b ha hb na nb = some a b na nb ∙ agree a b ha hb
  where
    some : (a b : ℕ) → (a ≡ 0 → ⊥) → (b ≡ 0 → ⊥) → get_or powers ((get_or logs a 0 + get_or logs b 0) % 15) 0 ≡ through_powers a b
    some zero b na nb = absurd (na refl)
    some (suc a) zero na nb = absurd (nb refl)
    some (suc a) (suc b) na nb = refl

-- the inverse, by the same test
abbrev through_inverse : ℕ → ℕ
through_inverse a = get_or powers ((15 - get_or logs a 0) % 15) 0

pub power_inverse : (a : ℕ) → a < 16 → (a ≡ 0 → ⊥) → Inverse 4 1 (mul_mod 4 0x13) a (get_or powers ((15 - get_or logs a 0) % 15) 0)
unfolding mul_mod
power_inverse a ha na =
    let test : ℕ → Bool = λ x. both (ltb (through_inverse x) 16) (eqb (mul_mod 4 0x13 x (through_inverse x)) (min x 1)) in
    let code = ltb (through_inverse a) 16 in
    let one = eqb (mul_mod 4 0x13 a (through_inverse a)) (min a 1) in
    let passed = at 16 test tt a ha in
    the_inverse 4 1 (mul_mod 4 0x13) (mul_mod_laws 4 0x13 refl (lit< tt)) a (through_inverse a) ha (ltb→lt _ _ (both_left code one passed))
    (eqb→eq _ _ (both_right code one passed) ∙ some a na)
  where
    some : (a : ℕ) → (a ≡ 0 → ⊥) → min a 1 ≡ 1
    some zero na = absurd (na refl)
    some (suc a) na = omega arith

pub no_inverse_of_0 : (a : ℕ) → a ≡ 0 → NoInverse 4 1 (mul_mod 4 0x13) a
unfolding mul_mod
no_inverse_of_0 zero e b hb p = let z : ◌≡◌ {A = ℕ} 0 1 = p in omega arith
no_inverse_of_0 (suc a) e b hb p = absurd (omega arith)
