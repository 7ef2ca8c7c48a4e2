-- The trail of a byte by a lawful pair comes to the inverse in the octic's ring. Assumes nothing.
use Rattle.std.proofs.Common.{◌≡◌, ℕ, ◌/◌, ◌^◌, ◌<◌, sym, refl, ap, ◌∙◌, subst, inl, inr, lit<}
use lib.Bits.{bit_xor, xor_lt}
use Rattle.rings.specs.Laws.{Laws}
use Rattle.rings.specs.Pairing.{pair_mul}
use Rattle.rings.specs.Poly.{mul_mod}
use Rattle.rings.specs.Commuting.{the_inverse}
use Rattle.rings.specs.PairLaws.{pair_laws}
use Rattle.rings.specs.PolyLaws.{mul_mod_laws}
use Rattle.towers.specs.declared.pair.Pair.{Pair}
use Rattle.towers.specs.declared.trail.Trail.{Trail}
use Rattle.towers.specs.Keeps.{Tells}
use Rattle.towers.specs.Lawful.{Lawful, Reverse}
use Rattle.towers.specs.Matrices.{apply}
use Rattle.towers.specs.Trails.{OrZero, Trails, Through}
use Rattle.towers.proofs.Linear.{Adds, adds_zero, by_columns}

module _ (mul oct : ℕ → ℕ → ℕ) (c : ℕ) (m n : ℕ → ℕ) (L : Lawful mul oct c m) (R : Reverse m n) (tower : Laws 8 1 (pair_mul 4 mul c)) (field : Laws 8 1 oct) where
  -- the reverse map keeps sums
  back_adds : Adds 8 n
  back_adds a b ha hb =
      let na = R.byte a ha in
      let nb = R.byte b hb in
      let lt : bit_xor (n a) (n b) < 2 ^ 8 = xor_lt 8 (n a) (n b) na nb in
      let sum : m (bit_xor (n a) (n b)) ≡ bit_xor a b = L.adds (n a) (n b) na nb ∙ (λ i. bit_xor (R.there a ha i) (R.there b hb i)) in
      sym (ap n sum) ∙ R.back (bit_xor (n a) (n b)) lt

  -- the map takes 1 to 1
  one : m 1 ≡ 1
  one =
      let n1 = R.byte 1 (lit< tt) in
      let m1 = L.byte 1 (lit< tt) in
      let at = R.there 1 (lit< tt) in
      sym (sym at ∙ ap m (sym (tower.unit (n 1) n1)) ∙ L.keeps 1 (n 1) (lit< tt) n1 ∙ ap (oct (m 1)) at ∙ field.comm (m 1) 1 m1 (lit< tt) ∙ field.unit (m 1) m1)

  -- the map of the tower inverse of a byte's code is the byte's inverse
  across : (x i : ℕ) → x < 256 → OrZero 8 (pair_mul 4 mul c) (n x) i → OrZero 8 oct x (m i)
  across x i hx (inl v) =
      let product : oct x (m i) ≡ 1 = ap (λ y. oct y (m i)) (sym (R.there x hx)) ∙ sym (L.keeps (n x) i (R.byte x hx) v.code) ∙ ap m v.product ∙ one in
      inl (the_inverse 8 1 oct field x (m i) hx (L.byte i v.code) product)
  across x i hx (inr v) =
      inr (
        λ b hb e.
            let nx = R.byte x hx in
            let nb = R.byte b hb in
            let q : m (pair_mul 4 mul c (n x) (n b)) ≡ m 1 = L.keeps (n x) (n b) nx nb ∙ (λ j. oct (R.there x hx j) (R.there b hb j)) ∙ e ∙ sym one in
            v.0 (n b) nb (L.once _ 1 (tower.closed (n x) (n b) nx nb) (lit< tt) q),
        ap m v.1 ∙ adds_zero 8 m L.adds,
      )

through_4 : (mul : ℕ → ℕ → ℕ) (p : Pair) (x : ℕ) (t : Trail) → Laws 4 1 mul → x < 256 → t.inverse < 256 → Trails 4 mul p x t → (octic : ℕ) → octic / 2 ^ 8 ≡ 1 → Tells mul (mul_mod 8 octic) p → OrZero 8 (mul_mod 8 octic) x t.byte
through_4 mul p x t laws hx hi trails octic degree T =
    let m : ℕ → ℕ = T.map in
    let n : ℕ → ℕ = T.back in
    let L = T.lawful in
    let R = T.reversed in
    let oct : ℕ → ℕ → ℕ = mul_mod 8 octic in
    let tower = pair_laws 4 1 mul laws p.constant in
    let field = mul_mod_laws 8 octic degree (lit< tt) in
    let code : t.code ≡ n x = trails.code ∙ ap (λ cs. apply cs x) T.reverse ∙ sym (by_columns n (back_adds mul oct p.constant m n L R tower field) x hx) in
    let inverse : OrZero 8 (pair_mul 4 mul p.constant) (n x) t.inverse = subst (λ y. OrZero 8 (pair_mul 4 mul p.constant) y t.inverse) code (trails.inverse.tower refl) in
    let byte : t.byte ≡ m t.inverse = trails.byte ∙ ap (λ cs. apply cs t.inverse) T.columns ∙ sym (by_columns m L.adds t.inverse hi) in
    subst (OrZero 8 oct x) (sym byte) (across mul oct p.constant m n L R tower field x t.inverse hx inverse)

pub through : (w : ℕ) (mul : ℕ → ℕ → ℕ) (p : Pair) (x : ℕ) (t : Trail) → Laws w 1 mul → x < 256 → t.inverse < 256 → Trails w mul p x t → Through w mul p x t.byte
through w mul p x t laws hx hi trails octic degree four T =
    through_4 mul p x t (subst (λ v. Laws v 1 mul) four laws) hx hi (subst (λ v. Trails v mul p x t) four trails) octic degree T
