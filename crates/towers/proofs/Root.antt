-- A field of sixteen codes has a code whose fourth power is itself plus the one. Assumes nothing.
use Rattle.std.proofs.Common.{◌≡◌, ℕ, zero, suc, ◌*◌, ◌/◌, ◌%◌, ◌<◌, T, eqb, ltb, ◌⊎◌, List, [], ◌∷◌, sym, ap, ◌∙◌, ap₂, inl, inr, mul-zero, mul-one, arith, lit<, eqb→eq, ltb→lt}
use lib.Bits.{bit_xor, xor_lt}
use Rattle.rings.specs.Laws.{Laws, Field}
use Rattle.towers.specs.Place.{IsRoot}
use Rattle.rings.proofs.Finite.{both, both_left, both_right, at}
use Rattle.towers.proofs.Finite.{either, either_split, some, found}
use Rattle.towers.specs.Matrices.{apply}
use Rattle.towers.proofs.Linear.{by_values, adds_zero, digit}
use Rattle.towers.proofs.Enum.{poly, splits, roots, any, picked, decided, tests, tested, test2, test4}

-- what holds for any one
module _ (one : ℕ) (mul : ℕ → ℕ → ℕ) (R : Laws 4 one mul) where
  pub times_zero : (a : ℕ) → a < 16 → mul a 0 ≡ 0
  times_zero a h = adds_zero 4 (mul a) (λ b c hb hc. R.distrib a b c h hb hc)

  pub spreads_left : (a b c : ℕ) → a < 16 → b < 16 → c < 16 → mul (bit_xor a b) c ≡ bit_xor (mul a c) (mul b c)
  spreads_left a b c ha hb hc =
      R.comm (bit_xor a b) c (xor_lt 4 a b ha hb) hc ∙ R.distrib c a b hc ha hb ∙ ap₂ bit_xor (R.comm c a hc ha) (R.comm c b hc hb)

  pub times_digit : (u w d : ℕ) → u < 16 → w < 16 → d < 2 → mul u w * d ≡ mul (u * d) w
  times_digit u w d hu hw hd = elim (digit d hd) [
    | inl p ↦ rw (p, mul-zero (mul u w), mul-zero u) (sym (R.comm 0 w (lit< tt) hw ∙ times_zero w hw))
    | inr p ↦ rw (p, mul-one (mul u w), mul-one u)
  ]

  pub no_divisors : Field 4 one mul → (a b : ℕ) → a < 16 → b < 16 → 0 < a → mul a b ≡ 0 → b ≡ 0
  no_divisors inv a b ha hb pos e =
      let i = inv a ha pos in
      let hi : i.0 < 16 = i.1.code in
      sym (R.unit b hb) ∙ ap (λ (x : ℕ). mul x b) (sym (R.comm i.0 a hi ha ∙ i.1.product))
      ∙ R.assoc i.0 a b hi ha hb ∙ ap (mul i.0) e ∙ times_zero i.0 hi

  -- the map with columns cs is the product with x
  module _ (x : ℕ) (hx : x < 16) (cs : List ℕ) (is : (v : ℕ) → v < 16 → apply cs v ≡ mul x v) where
    digit_lt : (v d : ℕ) → v < 16 → d < 2 → v * d < 16
    digit_lt v d hv hd = elim (digit d hd) [ inl p ↦ rw (p, mul-zero) (lit< tt) | inr p ↦ rw (p, mul-one) hv ]

    lin_lt : (v : ℕ) → v < 16 → apply cs v < 16
    lin_lt v hv = rw (is v hv) (R.closed x v hx hv)

    pub poly_lt : (n q v : ℕ) → v < 16 → poly n cs q v < 16
    unfolding poly
    poly_lt zero q v hv = lit< tt
    poly_lt (suc n) q v hv = xor_lt 4 _ _ (digit_lt v (q % 2) hv (omega arith)) (poly_lt n (q / 2) (apply cs v) (lin_lt v hv))

    pub poly_times : (n q u w : ℕ) → u < 16 → w < 16 → poly n cs q (mul u w) ≡ mul (poly n cs q u) w
    unfolding poly
    poly_times zero q u w hu hw = sym (R.comm 0 w (lit< tt) hw ∙ times_zero w hw)
    poly_times (suc n) q u w hu hw =
        ap₂ bit_xor (times_digit u w (q % 2) hu hw (omega arith))
        (ap (poly n cs (q / 2)) (is (mul u w) (R.closed u w hu hw) ∙ sym (R.assoc x u w hx hu hw) ∙ ap (λ (z : ℕ). mul z w) (sym (is u hu)))
        ∙ poly_times n (q / 2) (apply cs u) w (lin_lt u hu) hw)
        ∙ sym (spreads_left (u * (q % 2)) (poly n cs (q / 2) (apply cs u)) w (digit_lt u (q % 2) hu (omega arith)) (poly_lt n (q / 2) (apply cs u) (lin_lt u hu)) hw)

-- with code 1 as the one
module _ (mul : ℕ → ℕ → ℕ) (R : Laws 4 1 mul) (inv : Field 4 1 mul) where
  abbrev Answer : Type 0
  Answer = (g : ℕ) × (g < 16) × IsRoot 1 mul g

  module _ (x : ℕ) (hx : x < 16) (cs : List ℕ) (is : (v : ℕ) → v < 16 → apply cs v ≡ mul x v) where
    poly_is : (q v : ℕ) → v < 16 → poly 4 cs q v ≡ mul (poly 4 cs q 1) v
    poly_is q v hv = ap (poly 4 cs q) (sym (R.unit v hv)) ∙ poly_times 1 mul R x hx cs is 4 q 1 v (lit< tt) hv

    no_split : (q : ℕ) → T (splits cs q) → ⊥
    no_split q t =
        let a : ℕ = poly 4 cs q 1 in
        let pos : 0 < a = ltb→lt 0 a (both_left (ltb 0 a) (some 16 (λ v. both (ltb 0 v) (eqb (poly 4 cs q v) 0))) t) in
        let f = found 16 (λ v. both (ltb 0 v) (eqb (poly 4 cs q v) 0)) (both_right (ltb 0 a) (some 16 (λ v. both (ltb 0 v) (eqb (poly 4 cs q v) 0))) t) in
        let v : ℕ = f.0 in
        let nz : 0 < v = ltb→lt 0 v (both_left (ltb 0 v) (eqb (poly 4 cs q v) 0) f.2) in
        let e : poly 4 cs q v ≡ 0 = eqb→eq (poly 4 cs q v) 0 (both_right (ltb 0 v) (eqb (poly 4 cs q v) 0) f.2) in
        let z : v ≡ 0 = no_divisors 1 mul R inv a v (poly_lt 1 mul R x hx cs is 4 q 1 (lit< tt)) f.1 pos (sym (poly_is q v f.1) ∙ e) in
        omega arith

    has_root : (q : ℕ) → T (roots cs q) → Answer
    has_root q t = (
      g,
      hg,
      R.assoc g g (mul g g) hg hg h2
          ∙ sym (poly_is q (poly 4 cs q (poly 4 cs q g)) (lt (poly 4 cs q g) (lt g hg))
          ∙ ap (mul g) (poly_is q (poly 4 cs q g) (lt g hg) ∙ ap (mul g) (poly_is q g hg)))
          ∙ eqb→eq (poly 4 cs q (poly 4 cs q (poly 4 cs q g))) (bit_xor g 1) t,
    )
      where
        g : ℕ
        g = poly 4 cs q 1

        lt : (v : ℕ) → v < 16 → poly 4 cs q v < 16
        lt v hv = poly_lt 1 mul R x hx cs is 4 q v hv

        hg : g < 16
        hg = lt 1 (lit< tt)

        h2 : mul g g < 16
        h2 = R.closed g g hg hg

    case : T (decided x cs) → Answer ⊎ (mul x x ≡ bit_xor x 1)
    case t = elim (either_split (any (2 ∷ 3 ∷ 7 ∷ []) (splits cs)) (either (eqb (apply cs x) (bit_xor x 1)) (any (2 ∷ 12 ∷ 10 ∷ []) (roots cs))) t) [
      | inl s ↦ (let r = picked (2 ∷ 3 ∷ 7 ∷ []) (splits cs) s in absurd (no_split r.0 r.1))
      | inr o ↦ elim (either_split (eqb (apply cs x) (bit_xor x 1)) (any (2 ∷ 12 ∷ 10 ∷ []) (roots cs)) o) [
        | inl e ↦ inr (sym (is x hx) ∙ eqb→eq (apply cs x) (bit_xor x 1) e)
        | inr s ↦ (let r = picked (2 ∷ 12 ∷ 10 ∷ []) (roots cs) s in inl (has_root r.0 r.1))
      ]
    ]

  of_code : (x : ℕ) → x < 16 → T (tests x) → Answer ⊎ (mul x x ≡ bit_xor x 1)
  of_code x hx t =
      case x hx (x ∷ mul x 2 ∷ mul x 4 ∷ mul x 8 ∷ [])
      (λ v hv. sym (by_values 4 (mul x) (λ b c hb hc. R.distrib x b c hx hb hc) v hv ∙ ap (λ (u : ℕ). apply (u ∷ mul x 2 ∷ mul x 4 ∷ mul x 8 ∷ []) v) (R.comm x 1 hx (lit< tt) ∙ R.unit x hx)))
      (tested x t (mul x 2) (mul x 4) (mul x 8) (R.closed x 2 hx (lit< tt)) (R.closed x 4 hx (lit< tt)) (R.closed x 8 hx (lit< tt)))

  not_both : mul 2 2 ≡ 3 → mul 4 4 ≡ 5 → ⊥
  not_both p q =
      let m : ℕ = mul 4 2 in
      let a : mul 6 4 ≡ bit_xor 5 m = R.comm 6 4 (lit< tt) (lit< tt) ∙ R.distrib 4 4 2 (lit< tt) (lit< tt) (lit< tt) ∙ ap (λ (u : ℕ). bit_xor u m) q in
      let one4 : mul 4 1 ≡ 4 = R.comm 4 1 (lit< tt) (lit< tt) ∙ R.unit 4 (lit< tt) in
      let one2 : mul 2 1 ≡ 2 = R.comm 2 1 (lit< tt) (lit< tt) ∙ R.unit 2 (lit< tt) in
      let b : mul 3 4 ≡ bit_xor m 4 = R.comm 3 4 (lit< tt) (lit< tt) ∙ R.distrib 4 2 1 (lit< tt) (lit< tt) (lit< tt) ∙ ap (bit_xor m) one4 in
      let d : mul 3 2 ≡ 1 = R.comm 3 2 (lit< tt) (lit< tt) ∙ R.distrib 2 2 1 (lit< tt) (lit< tt) (lit< tt) ∙ ap₂ bit_xor p one2 in
      let e : mul 6 3 ≡ bit_xor (bit_xor m 4) 1 = R.comm 6 3 (lit< tt) (lit< tt) ∙ R.distrib 3 4 2 (lit< tt) (lit< tt) (lit< tt) ∙ ap₂ bit_xor b d in
      let z : mul 6 7 ≡ 0 = R.distrib 6 4 3 (lit< tt) (lit< tt) (lit< tt) ∙ ap₂ bit_xor a e
      ∙ eqb→eq _ 0 (at 16 (λ m. eqb (bit_xor (bit_xor 5 m) (bit_xor (bit_xor m 4) 1)) 0) tt m (R.closed 4 2 (lit< tt) (lit< tt))) in
      let n : ◌≡◌ {A = ℕ} 7 0 = no_divisors 1 mul R inv 6 7 (lit< tt) (lit< tt) (lit< tt) z in
      omega arith

  pub root : Answer
  root = elim (of_code 2 (lit< tt) test2) [
    | inl a ↦ a
    | inr p ↦ elim (of_code 4 (lit< tt) test4) [ inl a ↦ a | inr q ↦ absurd (not_both p q) ]
  ]
