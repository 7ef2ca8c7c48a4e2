-- The pairing as the code works it out: the ring below reads the low bits of what it is handed. Assumes nothing.
use Rattle.std.specs.Prelude.{◌≡◌, ℕ, ◌+◌, ◌*◌, ◌/◌, ◌%◌, ◌^◌, ◌<◌, ◌≤◌, Bool, true, false, cond, ◌⊎◌, bit_xor, nat_lt, refl}
use Rattle.std.proofs.Common.{sym, ap, ap₂, ◌∙◌, subst, subst₂, inl, inr, mod-lt, arith, lt-ltb, le-ltb, pow_pos}
use Rattle.std.proofs.Math.Nat.{mod-mod}
use Rattle.std.proofs.lemmas.Nat.{xor_mod}
use Rattle.std.proofs.Math.Pow.{field, mod-mod-pow}
use Rattle.rings.specs.Laws.{Narrow, Laws, Invertible}
use Rattle.rings.specs.Pairing.{lows, schoolbook, pair_mul, form, norm, by_norm, pair_inverse, pairing_bits, pairing_mul, pairing_norm, Decides, Normed}
use Rattle.rings.specs.PairLaws.{pair_laws, norm_invertible, invertible_norm}

-- the low half and the high half of a code, which the low bits of a number are
high_half : (w a : ℕ) → a % 2 ^ (w + w) / 2 ^ w % 2 ^ w ≡ a / 2 ^ w % 2 ^ w
high_half w a = ap (λ (x : ℕ). x % 2 ^ w) (field a w w) ∙ mod-mod (a / 2 ^ w) (2 ^ w)

low_half : (w a : ℕ) → a % 2 ^ (w + w) % 2 ^ w % 2 ^ w ≡ a % 2 ^ w
low_half w a = mod-mod (a % 2 ^ (w + w)) (2 ^ w) ∙ mod-mod-pow a w w

pub pair_mul_low : (w : ℕ) (mul : ℕ → ℕ → ℕ) (c a b : ℕ)
    → pair_mul w mul c (a % 2 ^ (w + w)) (b % 2 ^ (w + w)) ≡ schoolbook w (lows w mul) c (a / 2 ^ w) a (b / 2 ^ w) b
unfolding pair_mul
pair_mul_low w mul c a b i =
    let a1 = high_half w a i in
    let a0 = low_half w a i in
    let b1 = high_half w b i in
    let b0 = low_half w b i in
    bit_xor (bit_xor (mul a1 b1) (mul a1 b0)) (mul a0 b1) * 2 ^ w + bit_xor (mul a0 b0) (mul (c % 2 ^ w) (mul a1 b1 % 2 ^ w))

pub norm_low : (w : ℕ) (mul : ℕ → ℕ → ℕ) (c a : ℕ) → norm w mul c (a % 2 ^ (w + w)) ≡ form (lows w mul) c (a / 2 ^ w) a
unfolding norm
norm_low w mul c a i =
    let a1 = high_half w a i in
    let a0 = low_half w a i in
    bit_xor (bit_xor (mul a0 a0) (mul a0 a1)) (mul (c % 2 ^ w) (mul a1 a1 % 2 ^ w))

pub pair_inverse_low : (w : ℕ) (mul : ℕ → ℕ → ℕ) (a k : ℕ)
    → pair_inverse w mul (a % 2 ^ (w + w)) k ≡ by_norm w (lows w mul) (a / 2 ^ w) a k
unfolding pair_inverse
pair_inverse_low w mul a k =
    ap₂ (λ (x y : ℕ). mul x (k % 2 ^ w) * 2 ^ w + mul y (k % 2 ^ w)) (high_half w a)
    (xor_mod (a % 2 ^ (w + w) % 2 ^ w) (a % 2 ^ (w + w) / 2 ^ w) w ∙ ap₂ bit_xor (low_half w a) (high_half w a) ∙ sym (xor_mod a (a / 2 ^ w) w))

-- a product of the ring below is a code, at the width that the code has read
pub code_below : {v w one r : ℕ} {mul : ℕ → ℕ → ℕ} (a b : ℕ) → Laws w one mul → v ≡ w → r ≡ lows w mul a b → r < 2 ^ v
code_below {v} {w} {one} {r} {mul} a b laws e p =
    subst₂ (λ (x y : ℕ). x < 2 ^ y) (sym p) (sym e) (laws.closed _ _ (mod-lt a (pow_pos w)) (mod-lt b (pow_pos w)))

-- ---- the pairing over any width

pub pairing_laws : (w one : ℕ) (mul : ℕ → ℕ → ℕ) (c : ℕ) → Narrow w → Laws w one mul → Laws (pairing_bits w) one (pairing_mul w mul c)
unfolding pairing_mul
pairing_laws w one mul c n =
    let P : ℕ → Type 0 = λ v. Laws v one mul → Laws (pairing_bits v) one (pairing_mul v mul c) in
    elim n [
      | inl e ↦ subst P (sym e) (λ l. pair_laws 2 one mul l c)
      | inr (inl e) ↦ subst P (sym e) (λ l. pair_laws 4 one mul l c)
      | inr (inr e) ↦ subst P (sym e) (λ l. l)
    ]

pub narrow_half : (w : ℕ) → Narrow w → w < 8 → w ≤ 4
narrow_half w n h = elim n [ inl e ↦ omega arith | inr (inl e) ↦ omega arith | inr (inr e) ↦ omega arith ]

-- what the pairing is below width 8, and there
halved_bits : (w : ℕ) → Narrow w → w < 8 → w + w ≡ pairing_bits w
halved_bits w n h =
    let P : ℕ → Type 0 = λ v. v + v ≡ pairing_bits v in
    elim n [ inl e ↦ subst P (sym e) refl | inr (inl e) ↦ subst P (sym e) refl | inr (inr e) ↦ absurd (omega arith) ]

same_bits : (w : ℕ) → Narrow w → 8 ≤ w → w ≡ pairing_bits w
same_bits w n h =
    let P : ℕ → Type 0 = λ v. v ≡ pairing_bits v in
    elim n [ inl e ↦ absurd (omega arith) | inr (inl e) ↦ absurd (omega arith) | inr (inr e) ↦ subst P (sym e) refl ]

chosen : (w : ℕ) (mul : ℕ → ℕ → ℕ) (c : ℕ) (t : Bool) → nat_lt w 8 ≡ t → (λ a b. cond t (pair_mul w mul c a b) (mul a b)) ≡ pairing_mul w mul c
unfolding pairing_mul
chosen w mul c t e i a b = cond (sym e i) (pair_mul w mul c a b) (mul a b)

chosen_norm : (w : ℕ) (mul : ℕ → ℕ → ℕ) (c : ℕ) (t : Bool) → nat_lt w 8 ≡ t → (λ a. cond t (norm w mul c a) a) ≡ pairing_norm w mul c
unfolding pairing_norm
chosen_norm w mul c t e i a = cond (sym e i) (norm w mul c a) a

module _ (w : ℕ) (mul : ℕ → ℕ → ℕ) (c : ℕ) (n : Narrow w) (a : ℕ) where
  pub product_halved : (b : ℕ) → w < 8 → pair_mul w mul c (a % 2 ^ (w + w)) (b % 2 ^ (w + w)) ≡ pairing_mul w mul c (a % 2 ^ pairing_bits w) (b % 2 ^ pairing_bits w)
  product_halved b h i =
      let v = halved_bits w n h i in chosen w mul c true (lt-ltb w 8 h) i (a % 2 ^ v) (b % 2 ^ v)

  pub product_same : (b : ℕ) → 8 ≤ w → mul (a % 2 ^ w) (b % 2 ^ w) ≡ pairing_mul w mul c (a % 2 ^ pairing_bits w) (b % 2 ^ pairing_bits w)
  product_same b h i =
      let v = same_bits w n h i in chosen w mul c false (le-ltb w 8 h) i (a % 2 ^ v) (b % 2 ^ v)

  pub norm_halved : w < 8 → norm w mul c (a % 2 ^ (w + w)) ≡ pairing_norm w mul c (a % 2 ^ pairing_bits w)
  norm_halved h i = chosen_norm w mul c true (lt-ltb w 8 h) i (a % 2 ^ halved_bits w n h i)

  pub norm_same : 8 ≤ w → a % 2 ^ w ≡ pairing_norm w mul c (a % 2 ^ pairing_bits w)
  norm_same h i = chosen_norm w mul c false (le-ltb w 8 h) i (a % 2 ^ same_bits w n h i)

  -- what holds of the halves' width and product, or of the ring below, holds of the pairing's
  pub at_halved : (P : ℕ → (ℕ → ℕ → ℕ) → Type 0) → w < 8 → P (w + w) (pair_mul w mul c) → P (pairing_bits w) (pairing_mul w mul c)
  at_halved P h = subst₂ P (halved_bits w n h) (chosen w mul c true (lt-ltb w 8 h))

  pub at_same : (P : ℕ → (ℕ → ℕ → ℕ) → Type 0) → 8 ≤ w → P w mul → P (pairing_bits w) (pairing_mul w mul c)
  at_same P h = subst₂ P (same_bits w n h) (chosen w mul c false (le-ltb w 8 h))

  decides : (one : ℕ) → Laws w one mul → (w < 8) ⊎ (8 ≤ w)
      → Decides w one mul c (a % 2 ^ pairing_bits w) (pairing_norm w mul c (a % 2 ^ pairing_bits w))
  decides one laws which = elim which [
    | inl h ↦
        let small : a % 2 ^ (w + w) < 2 ^ (w + w) = mod-lt a (pow_pos (w + w)) in
        record {
          below =
              at_halved (λ v f. Invertible v one f (a % 2 ^ v) → Invertible w one mul (pairing_norm w mul c (a % 2 ^ pairing_bits w))) h
              (subst (λ (x : ℕ). Invertible (w + w) one (pair_mul w mul c) (a % 2 ^ (w + w)) → Invertible w one mul x) (norm_halved h)
              (norm_invertible w one mul laws c (a % 2 ^ (w + w)) small));
          above =
              at_halved (λ v f. Invertible w one mul (pairing_norm w mul c (a % 2 ^ pairing_bits w)) → Invertible v one f (a % 2 ^ v)) h
              (subst (λ (x : ℕ). Invertible w one mul x → Invertible (w + w) one (pair_mul w mul c) (a % 2 ^ (w + w))) (norm_halved h)
              (invertible_norm w one mul laws c (a % 2 ^ (w + w)) small));
        }
    | inr h ↦ record {
      below =
          at_same (λ v f. Invertible v one f (a % 2 ^ v) → Invertible w one mul (pairing_norm w mul c (a % 2 ^ pairing_bits w))) h
          (subst (λ (x : ℕ). Invertible w one mul (a % 2 ^ w) → Invertible w one mul x) (norm_same h) (λ i. i));
      above =
          at_same (λ v f. Invertible w one mul (pairing_norm w mul c (a % 2 ^ pairing_bits w)) → Invertible v one f (a % 2 ^ v)) h
          (subst (λ (x : ℕ). Invertible w one mul x → Invertible w one mul (a % 2 ^ w)) (norm_same h) (λ i. i));
    }
  ]

  pub normed : (one r : ℕ) → Laws w one mul → (w < 8) ⊎ (8 ≤ w) → r ≡ pairing_norm w mul c (a % 2 ^ pairing_bits w)
      → Normed w one mul c (a % 2 ^ pairing_bits w) r
  normed one r laws which e = record {
    value = e;
    decides = subst (Decides w one mul c (a % 2 ^ pairing_bits w)) (sym e) (decides one laws which);
  }
