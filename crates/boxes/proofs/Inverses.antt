-- What `inverse_mod` is: the inverse that a ring answers, or any byte whose product is 1. Assumes nothing.
use Rattle.std.proofs.Common.{◌≡◌, ℕ, zero, suc, ◌+◌, ◌/◌, ◌^◌, ◌<◌, ◌≤◌, Bool, true, false, cond, eqb, Some, None, Option, unwrap_or, sym, refl, ap, ◌∙◌, arith, lit<, eq-eqb, eqb-true}
use Rattle.std.specs.List.{range_with_len}
use Rattle.rings.specs.Laws.{Inverse, NoInverse, Inverts}
use Rattle.rings.specs.Poly.{mul_mod}
use Rattle.rings.specs.Commuting.{the_inverse}
use Rattle.rings.specs.PolyLaws.{mul_mod_laws}
use Rattle.boxes.specs.Boxes.{first, inverse_mod}

-- ---- the first number that passes

module _ (p : ℕ → Bool) where
  -- the only number that passes is the first
  first_only : (n i b : ℕ) → i ≤ b → b < i + n → p b ≡ true → ((c : ℕ) → c < i + n → p c ≡ true → c ≡ b) → first p (range_with_len i n) ≡ b
  first_only zero i b le lt hit only = absurd (omega arith)
  first_only (suc n) i b le lt hit only =
      let rest : p i ≡ false → first p (range_with_len (i + 1) n) ≡ b =
      λ e. let ne : i ≡ b → ⊥ = λ q. let z : true ≡ false = sym hit ∙ ap p (sym q) ∙ e in let o : ◌≡◌ {A = ℕ} 0 1 = cc in omega arith in
      first_only n (i + 1) b (omega arith) (omega arith) hit (λ c h. only c (omega arith)) in
      let cases : (v : Bool) → p i ≡ v → cond v i (first p (range_with_len (i + 1) n)) ≡ b =
      λ v. elim v as (λ v. p i ≡ v → cond v i (first p (range_with_len (i + 1) n)) ≡ b) [ true ↦ (λ e. only i (omega arith) e) | false ↦ rest ] in
      cases (p i) refl

  -- where none passes, the answer is 0
  first_none : (n i : ℕ) → ((c : ℕ) → c < i + n → p c ≡ true → ⊥) → first p (range_with_len i n) ≡ 0
  first_none zero i none = refl
  first_none (suc n) i none =
      let cases : (v : Bool) → p i ≡ v → cond v i (first p (range_with_len (i + 1) n)) ≡ 0 =
      λ v. elim v as (λ v. p i ≡ v → cond v i (first p (range_with_len (i + 1) n)) ≡ 0)
      [ true ↦ (λ e. absurd (none i (omega arith) e)) | false ↦ (λ e. first_none n (i + 1) (λ c h. none c (omega arith))) ] in
      cases (p i) refl

-- ---- what the inverse is

-- the inverse, as the ring states it
pub inverse_is : (m a b : ℕ) → Inverse 8 1 (mul_mod 8 m) a b → inverse_mod m a ≡ b
unfolding inverse_mod
inverse_is m a b i =
    let code : b < 256 = i.code in
    first_only (λ b. eqb (mul_mod 8 m a b) 1) 256 0 b (omega arith) (omega arith) (eq-eqb _ 1 i.product)
    (λ c h e. i.only c (omega arith) (eqb-true _ 1 e))

-- 0 where the ring has none
pub inverse_none : (m a : ℕ) → NoInverse 8 1 (mul_mod 8 m) a → inverse_mod m a ≡ 0
unfolding inverse_mod
inverse_none m a none = first_none (λ b. eqb (mul_mod 8 m a b) 1) 256 0 (λ c h e. none c (omega arith) (eqb-true _ 1 e))

-- what a ring's `inverse` answers
pub inverse_answers : (m a : ℕ) (r : Option ℕ) → Inverts 8 1 (mul_mod 8 m) a r → inverse_mod m a ≡ unwrap_or r 0
inverse_answers m a None none = inverse_none m a none
inverse_answers m a (Some b) i = inverse_is m a b i

-- a byte whose product with a is 1, modulo an m of degree 8
pub inverse_by_product : (m a b : ℕ) → m / 2 ^ 8 ≡ 1 → a < 2 ^ 8 → b < 2 ^ 8 → mul_mod 8 m a b ≡ 1 → inverse_mod m a ≡ b
inverse_by_product m a b degree ha hb e =
    inverse_is m a b (the_inverse 8 1 (mul_mod 8 m) (mul_mod_laws 8 m degree (lit< tt)) a b ha hb e)

product_zero : (m b : ℕ) → mul_mod 8 m 0 b ≡ 0
unfolding mul_mod
product_zero m b = refl

-- 0 has no inverse
pub inverse_zero : (m : ℕ) → inverse_mod m 0 ≡ 0
inverse_zero m =
    inverse_none m 0 (λ b h e. let z : ◌≡◌ {A = ℕ} 0 1 = sym (product_zero m b) ∙ e in omega arith)
