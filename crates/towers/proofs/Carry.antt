-- A map of a field of width 4 into a ring of width 8, and a fitting byte for Y, make a lawful pair. Assumes nothing.
use Rattle.std.proofs.Common.{◌≡◌, ℕ, zero, suc, ◌+◌, ◌*◌, ◌/◌, ◌%◌, ◌^◌, ◌<◌, sym, refl, ap, ◌∙◌, ap₂, arith, lit<}
use lib.Bits.{bit_xor, xor_lt, xor_comm, xor_self, xor_assoc, xor_shr, xor_mod}
use Rattle.rings.specs.Laws.{Laws, Field}
use Rattle.towers.specs.Lawful.{Lawful}
use Rattle.towers.proofs.Linear.{adds_zero}
use Rattle.rings.specs.PolyLaws.{xor4, xor_equal}
use Rattle.towers.proofs.Halves.{tower_is}

pub spreads_left : (w one : ℕ) (mul : ℕ → ℕ → ℕ) → Laws w one mul → (a b c : ℕ) → a < 2 ^ w → b < 2 ^ w → c < 2 ^ w → mul (bit_xor a b) c ≡ bit_xor (mul a c) (mul b c)
spreads_left w one mul R a b c ha hb hc =
    R.comm (bit_xor a b) c (xor_lt w a b ha hb) hc ∙ R.distrib c a b hc ha hb ∙ ap₂ bit_xor (R.comm c a hc ha) (R.comm c b hc hb)

-- m carries the ring of width 4 into the ring of width 8
pub record Carries (one : ℕ) (mul oct : ℕ → ℕ → ℕ) (m : ℕ → ℕ) : Type 0 where
  pub byte : (a : ℕ) → a < 16 → m a < 256
  pub adds : (a b : ℕ) → a < 16 → b < 16 → m (bit_xor a b) ≡ bit_xor (m a) (m b)
  pub keeps : (a b : ℕ) → a < 16 → b < 16 → m (mul a b) ≡ oct (m a) (m b)
  pub ones : m one ≡ 1
  pub nonzero : (a : ℕ) → a < 16 → m a ≡ 0 → a ≡ 0

shuffle : (p q r s t : ℕ) → bit_xor (bit_xor p q) (bit_xor r (bit_xor s t)) ≡ bit_xor (bit_xor p t) (bit_xor s (bit_xor r q))
shuffle p q r s t =
    xor_assoc p q (bit_xor r (bit_xor s t))
    ∙ ap (bit_xor p) (xor_comm q (bit_xor r (bit_xor s t)) ∙ ap (λ (x : ℕ). bit_xor x q) (xor_comm r (bit_xor s t)) ∙ xor_assoc (bit_xor s t) r q
    ∙ ap (λ (x : ℕ). bit_xor x (bit_xor r q)) (xor_comm s t) ∙ xor_assoc t s (bit_xor r q))
    ∙ sym (xor_assoc p t (bit_xor s (bit_xor r q)))

-- (A0 + y·A1)·(B0 + y·B1), where the square of y is y + C
module _ (oct : ℕ → ℕ → ℕ) (E : Laws 8 1 oct) (y C : ℕ) (hy : y < 256) (hC : C < 256) (square : oct y y ≡ bit_xor y C) where
  cross : (a b : ℕ) → a < 256 → b < 256 → oct a (oct y b) ≡ oct y (oct a b)
  cross a b ha hb = sym (E.assoc a y b ha hy hb) ∙ ap (λ (x : ℕ). oct x b) (E.comm a y ha hy) ∙ E.assoc y a b hy ha hb

  squares : (a b : ℕ) → a < 256 → b < 256 → oct (oct y a) (oct y b) ≡ bit_xor (oct y (oct a b)) (oct C (oct a b))
  squares a b ha hb =
      E.assoc y a (oct y b) hy ha (E.closed y b hy hb) ∙ ap (oct y) (cross a b ha hb)
      ∙ sym (E.assoc y y (oct a b) hy hy (E.closed a b ha hb)) ∙ ap (λ (x : ℕ). oct x (oct a b)) square
      ∙ spreads_left 8 1 oct E y C (oct a b) hy hC (E.closed a b ha hb)

  expand : (A1 A0 B1 B0 : ℕ) → A1 < 256 → A0 < 256 → B1 < 256 → B0 < 256 → oct (bit_xor A0 (oct y A1)) (bit_xor B0 (oct y B1))
      ≡ bit_xor (bit_xor (oct A0 B0) (oct y (oct A0 B1))) (bit_xor (oct y (oct A1 B0)) (bit_xor (oct y (oct A1 B1)) (oct C (oct A1 B1))))
  expand A1 A0 B1 B0 h1 h0 k1 k0 =
      spreads_left 8 1 oct E A0 (oct y A1) (bit_xor B0 (oct y B1)) h0 (E.closed y A1 hy h1) (xor_lt 8 B0 (oct y B1) k0 (E.closed y B1 hy k1))
      ∙ ap₂ bit_xor
      (E.distrib A0 B0 (oct y B1) h0 k0 (E.closed y B1 hy k1) ∙ ap (bit_xor (oct A0 B0)) (cross A0 B1 h0 k1))
      (E.distrib (oct y A1) B0 (oct y B1) (E.closed y A1 hy h1) k0 (E.closed y B1 hy k1) ∙ ap₂ bit_xor (E.assoc y A1 B0 hy h1 k0) (squares A1 B1 h1 k1))

module _ (one : ℕ) (mul : ℕ → ℕ → ℕ) (R : Laws 4 one mul) (inv : Field 4 one mul)
    (oct : ℕ → ℕ → ℕ) (E : Laws 8 1 oct) (m : ℕ → ℕ) (H : Carries one mul oct m)
    (c : ℕ) (hc : c < 16) (y : ℕ) (hy : y < 256) (square : oct y y ≡ bit_xor y (m c)) (new : (a : ℕ) → a < 16 → m a ≡ y → ⊥) where
  abbrev whole : ℕ → ℕ
  whole a = bit_xor (m (a % 16)) (oct y (m (a / 16)))

  hi : (a : ℕ) → a < 256 → a / 16 < 16
  hi a h = omega arith

  lo : (a : ℕ) → a % 16 < 16
  lo a = omega arith

  mb : (a : ℕ) → a < 16 → m a < 256
  mb = H.byte

  yb : (a : ℕ) → a < 16 → oct y (m a) < 256
  yb a h = E.closed y (m a) hy (mb a h)

  whole_byte : (a : ℕ) → a < 256 → whole a < 256
  whole_byte a h = xor_lt 8 (m (a % 16)) (oct y (m (a / 16))) (mb (a % 16) (lo a)) (yb (a / 16) (hi a h))

  whole_adds : (a b : ℕ) → a < 256 → b < 256 → whole (bit_xor a b) ≡ bit_xor (whole a) (whole b)
  whole_adds a b ha hb =
      ap₂ bit_xor
      (ap m (xor_mod a b 4) ∙ H.adds (a % 16) (b % 16) (lo a) (lo b))
      (ap (λ (x : ℕ). oct y (m x)) (xor_shr a b 4) ∙ ap (oct y) (H.adds (a / 16) (b / 16) (hi a ha) (hi b hb))
      ∙ E.distrib y (m (a / 16)) (m (b / 16)) hy (mb (a / 16) (hi a ha)) (mb (b / 16) (hi b hb)))
      ∙ xor4 (m (a % 16)) (m (b % 16)) (oct y (m (a / 16))) (oct y (m (b / 16)))

  -- at the halves
  halves : (h l : ℕ) → l < 16 → whole (h * 16 + l) ≡ bit_xor (m l) (oct y (m h))
  halves h l k = let p : (h * 16 + l) % 16 ≡ l = omega arith in let q : (h * 16 + l) / 16 ≡ h = omega arith in
      ap₂ (λ (u v : ℕ). bit_xor (m u) (oct y (m v))) p q

  product : (a1 a0 b1 b0 : ℕ) → a1 < 16 → a0 < 16 → b1 < 16 → b0 < 16 →
      bit_xor (m (bit_xor (mul a0 b0) (mul c (mul a1 b1)))) (oct y (m (bit_xor (mul a1 b1) (bit_xor (mul a1 b0) (mul a0 b1)))))
      ≡ oct (bit_xor (m a0) (oct y (m a1))) (bit_xor (m b0) (oct y (m b1)))
  product a1 a0 b1 b0 h1 h0 k1 k0 =
      ap₂ bit_xor low high
      ∙ shuffle (oct (m a0) (m b0)) (oct (m c) (oct (m a1) (m b1))) (oct y (oct (m a1) (m b1))) (oct y (oct (m a1) (m b0))) (oct y (oct (m a0) (m b1)))
      ∙ sym (expand oct E y (m c) hy (mb c hc) square (m a1) (m a0) (m b1) (m b0) (mb a1 h1) (mb a0 h0) (mb b1 k1) (mb b0 k0))
    where
      kp : (a b : ℕ) → a < 16 → b < 16 → mul a b < 16
      kp a b ha hb = R.closed a b ha hb

      ob : (a b : ℕ) → a < 16 → b < 16 → oct (m a) (m b) < 256
      ob a b ha hb = E.closed (m a) (m b) (mb a ha) (mb b hb)

      low : m (bit_xor (mul a0 b0) (mul c (mul a1 b1))) ≡ bit_xor (oct (m a0) (m b0)) (oct (m c) (oct (m a1) (m b1)))
      low = H.adds (mul a0 b0) (mul c (mul a1 b1)) (kp a0 b0 h0 k0) (kp c (mul a1 b1) hc (kp a1 b1 h1 k1))
          ∙ ap₂ bit_xor (H.keeps a0 b0 h0 k0) (H.keeps c (mul a1 b1) hc (kp a1 b1 h1 k1) ∙ ap (oct (m c)) (H.keeps a1 b1 h1 k1))

      high : oct y (m (bit_xor (mul a1 b1) (bit_xor (mul a1 b0) (mul a0 b1)))) ≡ bit_xor (oct y (oct (m a1) (m b1))) (bit_xor (oct y (oct (m a1) (m b0))) (oct y (oct (m a0) (m b1))))
      high = ap (oct y) (H.adds (mul a1 b1) (bit_xor (mul a1 b0) (mul a0 b1)) (kp a1 b1 h1 k1) (xor_lt 4 (mul a1 b0) (mul a0 b1) (kp a1 b0 h1 k0) (kp a0 b1 h0 k1))
          ∙ ap₂ bit_xor (H.keeps a1 b1 h1 k1) (H.adds (mul a1 b0) (mul a0 b1) (kp a1 b0 h1 k0) (kp a0 b1 h0 k1) ∙ ap₂ bit_xor (H.keeps a1 b0 h1 k0) (H.keeps a0 b1 h0 k1)))
          ∙ E.distrib y (oct (m a1) (m b1)) (bit_xor (oct (m a1) (m b0)) (oct (m a0) (m b1))) hy (ob a1 b1 h1 k1) (xor_lt 8 (oct (m a1) (m b0)) (oct (m a0) (m b1)) (ob a1 b0 h1 k0) (ob a0 b1 h0 k1))
          ∙ ap (bit_xor (oct y (oct (m a1) (m b1)))) (E.distrib y (oct (m a1) (m b0)) (oct (m a0) (m b1)) hy (ob a1 b0 h1 k0) (ob a0 b1 h0 k1))

  low_lt : (a b : ℕ) → a < 256 → b < 256 → bit_xor (mul (a % 16) (b % 16)) (mul c (mul (a / 16) (b / 16))) < 16
  low_lt a b ha hb = xor_lt 4 (mul (a % 16) (b % 16)) (mul c (mul (a / 16) (b / 16))) (R.closed (a % 16) (b % 16) (lo a) (lo b))
      (R.closed c (mul (a / 16) (b / 16)) hc (R.closed (a / 16) (b / 16) (hi a ha) (hi b hb)))

  -- only 0 goes to 0: else y were the image of a code
  whole_zero : (h l : ℕ) → h < 16 → l < 16 → bit_xor (m l) (oct y (m h)) ≡ 0 → (h ≡ 0) × (l ≡ 0)
  whole_zero zero l hh hl e =
      let z : oct y (m 0) ≡ 0 = ap (oct y) (adds_zero 4 m H.adds) ∙ adds_zero 8 (oct y) (λ a b ha hb. E.distrib y a b hy ha hb) in
      (refl, H.nonzero l hl (xor_equal (m l) (oct y (m 0)) e ∙ z))
  whole_zero (suc h) l hh hl e =
      let i = inv (suc h) hh (omega arith) in
      let p : m l ≡ oct y (m (suc h)) = xor_equal (m l) (oct y (m (suc h))) e in
      absurd (new (mul l i.0) (R.closed l i.0 hl i.1.code)
      (H.keeps l i.0 hl i.1.code ∙ ap (λ (x : ℕ). oct x (m i.0)) p ∙ E.assoc y (m (suc h)) (m i.0) hy (mb (suc h) hh) (mb i.0 i.1.code)
      ∙ ap (oct y) (sym (H.keeps (suc h) i.0 hh i.1.code) ∙ ap m i.1.product ∙ H.ones) ∙ E.comm y 1 hy (lit< tt) ∙ E.unit y hy))

  pub lawful : Lawful mul oct c whole
  lawful = record {
    const = hc;
    byte = whole_byte;
    adds = whole_adds;
    keeps = λ a b ha hb.
        ap whole (tower_is one mul R c hc a b ha hb)
        ∙ halves (bit_xor (mul (a / 16) (b / 16)) (bit_xor (mul (a / 16) (b % 16)) (mul (a % 16) (b / 16)))) (bit_xor (mul (a % 16) (b % 16)) (mul c (mul (a / 16) (b / 16)))) (low_lt a b ha hb)
        ∙ product (a / 16) (a % 16) (b / 16) (b % 16) (hi a ha) (lo a) (hi b hb) (lo b);
    once = λ a b ha hb e.
        let x : ℕ = bit_xor a b in
        let hx : x < 256 = xor_lt 8 a b ha hb in
        let z : whole x ≡ 0 = whole_adds a b ha hb ∙ ap (λ (u : ℕ). bit_xor u (whole b)) e ∙ xor_self (whole b) in
        let r = whole_zero (x / 16) (x % 16) (hi x hx) (lo x) z in
        let q : x ≡ 0 = omega (arith, r.0, r.1) in
        xor_equal a b q;
  }
