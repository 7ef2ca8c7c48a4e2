-- A root of z⁴ + z + 1 in any ring carries ring 13 into it. Assumes nothing.
use Rattle.std.proofs.Common.{◌≡◌, ℕ, zero, suc, ◌*◌, ◌/◌, ◌%◌, ◌^◌, ◌<◌, eqb, [], ◌∷◌, sym, refl, ap, ◌∙◌, ap₂, inl, inr, mul-zero, mul-one, arith, lit<, eqb→eq, pow_pos}
use lib.Bits.{bit_xor, xor_lt, xor_zero_r, xor_self}
use Rattle.towers.specs.Place.{image}
use Rattle.rings.specs.PolyLaws.{xor_equal}
use Rattle.rings.specs.Laws.{Laws}
use Rattle.towers.specs.Place.{IsRoot}
use Rattle.rings.proofs.Finite.{at}
use Rattle.towers.proofs.Finite.{some, at3, found}
use Rattle.towers.specs.Matrices.{apply}
use Rattle.towers.proofs.Linear.{apply_add, by_values, adds_zero, digit, Adds}
use Rattle.towers.proofs.Enum.{poly}

-- ring 13: times Z, and the product
unfoldable pub times_z : ℕ → ℕ
times_z = apply (2 ∷ 4 ∷ 8 ∷ 3 ∷ [])

unfoldable pub mul13 : ℕ → ℕ → ℕ
mul13 a b = poly 4 (2 ∷ 4 ∷ 8 ∷ 3 ∷ []) b a

laws13_spreads : (a b c : ℕ) → a < 16 → b < 16 → c < 16 → mul13 a (bit_xor b c) ≡ bit_xor (mul13 a b) (mul13 a c)
unfolding apply poly mul13
laws13_spreads a b c ha hb hc = eqb→eq (mul13 a (bit_xor b c)) (bit_xor (mul13 a b) (mul13 a c))
    (at3 16 16 16 (λ a b c. eqb (mul13 a (bit_xor b c)) (bit_xor (mul13 a b) (mul13 a c))) tt a b c ha hb hc)

inverse13 : (a : ℕ) → a < 16 → 0 < a → (b : ℕ) × (b < 16) × (mul13 a b ≡ 1)
unfolding apply poly mul13
inverse13 zero h pos = absurd (omega arith)
inverse13 (suc a) h pos =
    let f = found 16 (λ b. eqb (mul13 (suc a) b) 1) (at 15 (λ a. some 16 (λ b. eqb (mul13 (suc a) b) 1)) tt a (omega arith)) in
    (f.0, f.1, eqb→eq (mul13 (suc a) f.0) 1 f.2)

-- two maps that keep sums and agree at 1, 2, 4 and 8
pub agree : (f h : ℕ → ℕ) → Adds 4 f → Adds 4 h → f 1 ≡ h 1 → f 2 ≡ h 2 → f 4 ≡ h 4 → f 8 ≡ h 8 → (v : ℕ) → v < 16 → f v ≡ h v
agree f h F H e1 e2 e4 e8 v hv =
    by_values 4 f F v hv
    ∙ (λ i. apply (e1 i ∷ e2 i ∷ e4 i ∷ e8 i ∷ []) v)
    ∙ sym (by_values 4 h H v hv)

pub apply4_1 : (a b c d : ℕ) → apply (a ∷ b ∷ c ∷ d ∷ []) 1 ≡ a
unfolding apply
apply4_1 a b c d = simp (mul-zero, mul-one, xor_zero_r)

pub apply4_2 : (a b c d : ℕ) → apply (a ∷ b ∷ c ∷ d ∷ []) 2 ≡ b
unfolding apply
apply4_2 a b c d = simp (mul-zero, mul-one, xor_zero_r)

pub apply4_4 : (a b c d : ℕ) → apply (a ∷ b ∷ c ∷ d ∷ []) 4 ≡ c
unfolding apply
apply4_4 a b c d = simp (mul-zero, mul-one, xor_zero_r)

pub apply4_8 : (a b c d : ℕ) → apply (a ∷ b ∷ c ∷ d ∷ []) 8 ≡ d
unfolding apply
apply4_8 a b c d = simp (mul-zero, mul-one, xor_zero_r)

scale_lt : (w c v : ℕ) → c < 2 ^ w → c * (v % 2) < 2 ^ w
scale_lt w c v h = elim (digit (v % 2) (omega arith)) [ inl p ↦ rw (p, mul-zero) (pow_pos w) | inr p ↦ rw (p, mul-one) h ]

pub apply4_lt : (w a b c d v : ℕ) → a < 2 ^ w → b < 2 ^ w → c < 2 ^ w → d < 2 ^ w → apply (a ∷ b ∷ c ∷ d ∷ []) v < 2 ^ w
unfolding apply
apply4_lt w a b c d v ha hb hc hd =
    xor_lt w _ _ (scale_lt w a v ha) (xor_lt w _ _ (scale_lt w b (v / 2) hb)
    (xor_lt w _ _ (scale_lt w c (v / 2 / 2) hc) (xor_lt w _ _ (scale_lt w d (v / 2 / 2 / 2) hd) (pow_pos w))))

-- times Z at the codes of Z's powers, and the product by those codes
z1 : times_z 1 ≡ 2
unfolding apply times_z
z1 = refl

z2 : times_z 2 ≡ 4
unfolding apply times_z
z2 = refl

z4 : times_z 4 ≡ 8
unfolding apply times_z
z4 = refl

z8 : times_z 8 ≡ 3
unfolding apply times_z
z8 = refl

times_z_adds : (a b : ℕ) → times_z (bit_xor a b) ≡ bit_xor (times_z a) (times_z b)
unfolding times_z
times_z_adds = apply_add (2 ∷ 4 ∷ 8 ∷ 3 ∷ [])

times_z_lt : (a : ℕ) → times_z a < 16
unfolding times_z
times_z_lt a = apply4_lt 4 2 4 8 3 a (lit< tt) (lit< tt) (lit< tt) (lit< tt)

by1 : (a : ℕ) → a < 16 → mul13 a 1 ≡ a
unfolding apply poly mul13
by1 a h = eqb→eq (mul13 a 1) a (at 16 (λ a. eqb (mul13 a 1) a) tt a h)

by2 : (a : ℕ) → a < 16 → mul13 a 2 ≡ times_z a
unfolding apply poly mul13 times_z
by2 a h = eqb→eq (mul13 a 2) (times_z a) (at 16 (λ a. eqb (mul13 a 2) (times_z a)) tt a h)

by4 : (a : ℕ) → a < 16 → mul13 a 4 ≡ times_z (times_z a)
unfolding apply poly mul13 times_z
by4 a h = eqb→eq (mul13 a 4) (times_z (times_z a)) (at 16 (λ a. eqb (mul13 a 4) (times_z (times_z a))) tt a h)

by8 : (a : ℕ) → a < 16 → mul13 a 8 ≡ times_z (times_z (times_z a))
unfolding apply poly mul13 times_z
by8 a h = eqb→eq (mul13 a 8) (times_z (times_z (times_z a))) (at 16 (λ a. eqb (mul13 a 8) (times_z (times_z (times_z a)))) tt a h)

module _ (w one : ℕ) (mul : ℕ → ℕ → ℕ) (R : Laws w one mul) (g : ℕ) (hg : g < 2 ^ w) (isRoot : IsRoot one mul g) where
  g2 : mul g g < 2 ^ w
  g2 = R.closed g g hg hg

  g3 : mul g (mul g g) < 2 ^ w
  g3 = R.closed g (mul g g) hg g2

  pub image_lt : (v : ℕ) → image one mul g v < 2 ^ w
  unfolding image
  image_lt v = apply4_lt w one g (mul g g) (mul g (mul g g)) v R.one_code hg g2 g3

  pub image_adds : (a b : ℕ) → image one mul g (bit_xor a b) ≡ bit_xor (image one mul g a) (image one mul g b)
  unfolding image
  image_adds a b = apply_add (one ∷ g ∷ mul g g ∷ mul g (mul g g) ∷ []) a b

  pub image_one : image one mul g 1 ≡ one
  unfolding image
  image_one = apply4_1 one g (mul g g) (mul g (mul g g))

  pub image_2 : image one mul g 2 ≡ g
  unfolding image
  image_2 = apply4_2 one g (mul g g) (mul g (mul g g))

  pub image_4 : image one mul g 4 ≡ mul g g
  unfolding image
  image_4 = apply4_4 one g (mul g g) (mul g (mul g g))

  pub image_8 : image one mul g 8 ≡ mul g (mul g g)
  unfolding image
  image_8 = apply4_8 one g (mul g g) (mul g (mul g g))

  image_z : (v : ℕ) → v < 16 → image one mul g (times_z v) ≡ mul g (image one mul g v)
  image_z = agree (λ v. image one mul g (times_z v)) (λ v. mul g (image one mul g v))
      (λ a b ha hb. ap (image one mul g) (times_z_adds a b) ∙ image_adds (times_z a) (times_z b))
      (λ a b ha hb. ap (mul g) (image_adds a b) ∙ R.distrib g (image one mul g a) (image one mul g b) hg (image_lt a) (image_lt b))
      (ap (image one mul g) z1 ∙ image_2 ∙ sym (ap (mul g) image_one ∙ R.comm g one hg R.one_code ∙ R.unit g hg))
      (ap (image one mul g) z2 ∙ image_4 ∙ sym (ap (mul g) image_2))
      (ap (image one mul g) z4 ∙ image_8 ∙ sym (ap (mul g) image_4))
      (ap (image one mul g) z8 ∙ image_adds 2 1 ∙ ap₂ bit_xor image_2 image_one
      ∙ sym (ap (mul g) image_8 ∙ sym (R.assoc g g (mul g g) hg hg g2) ∙ isRoot))

  pub image_keeps : (a b : ℕ) → a < 16 → b < 16 → image one mul g (mul13 a b) ≡ mul (image one mul g a) (image one mul g b)
  image_keeps a b ha hb = agree (λ b. image one mul g (mul13 a b)) (λ b. mul A (image one mul g b))
      (λ b c hb hc. ap (image one mul g) (laws13_spreads a b c ha hb hc) ∙ image_adds (mul13 a b) (mul13 a c))
      (λ b c hb hc. ap (mul A) (image_adds b c) ∙ R.distrib A (image one mul g b) (image one mul g c) hA (image_lt b) (image_lt c))
      (ap (image one mul g) (by1 a ha) ∙ sym (ap (mul A) image_one ∙ R.comm A one hA R.one_code ∙ R.unit A hA))
      (ap (image one mul g) (by2 a ha) ∙ image_z a ha ∙ sym (ap (mul A) image_2 ∙ R.comm A g hA hg))
      (ap (image one mul g) (by4 a ha) ∙ image_z (times_z a) (times_z_lt a) ∙ ap (mul g) (image_z a ha)
      ∙ sym (ap (mul A) image_4 ∙ R.comm A (mul g g) hA g2 ∙ R.assoc g g A hg hg hA))
      (ap (image one mul g) (by8 a ha) ∙ image_z (times_z (times_z a)) (times_z_lt (times_z a)) ∙ ap (mul g) (image_z (times_z a) (times_z_lt a) ∙ ap (mul g) (image_z a ha))
      ∙ sym (ap (mul A) image_8 ∙ R.comm A (mul g (mul g g)) hA g3 ∙ R.assoc g (mul g g) A hg g2 hA ∙ ap (mul g) (R.assoc g g A hg hg hA)))
      b hb
    where
      A : ℕ
      A = image one mul g a

      hA : A < 2 ^ w
      hA = image_lt a

  pub image_0 : image one mul g 0 ≡ 0
  image_0 = adds_zero 4 (image one mul g) (λ a b ha hb. image_adds a b)

  pub image_zero : 0 < one → (v : ℕ) → v < 16 → image one mul g v ≡ 0 → v ≡ 0
  image_zero pos zero hv e = refl
  image_zero pos (suc v) hv e =
      let i = inverse13 (suc v) hv (omega arith) in
      let U : ℕ = image one mul g i.0 in
      let z : one ≡ 0 = sym (ap (image one mul g) i.2 ∙ image_one) ∙ image_keeps (suc v) i.0 hv i.1
      ∙ ap (λ (x : ℕ). mul x U) e ∙ R.comm 0 U (pow_pos w) (image_lt i.0)
      ∙ adds_zero w (mul U) (λ a b ha hb. R.distrib U a b (image_lt i.0) ha hb) in
      absurd (omega arith)

  pub image_once : 0 < one → (a b : ℕ) → a < 16 → b < 16 → image one mul g a ≡ image one mul g b → a ≡ b
  image_once pos a b ha hb e =
      xor_equal a b (image_zero pos (bit_xor a b) (xor_lt 4 a b ha hb) (image_adds a b ∙ ap (λ (x : ℕ). bit_xor x (image one mul g b)) e ∙ xor_self (image one mul g b)))
