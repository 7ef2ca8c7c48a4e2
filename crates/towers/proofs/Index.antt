-- The lawful pairs of a field of width 4 with a root g, each by the bytes of g and of Y. Assumes nothing.
use Rattle.std.proofs.Common.{◌≡◌, ℕ, ◌/◌, ◌%◌, ◌<◌, ltb, [], ◌∷◌, sym, refl, ap, ◌∙◌, ap₂, lit<, ltb→lt}
use lib.Bits.{bit_xor}
use Rattle.rings.specs.Laws.{Laws, Field}
use Rattle.towers.specs.Lawful.{Lawful}
use Rattle.towers.specs.Place.{IsRoot, image}
use Rattle.rings.proofs.Finite.{at2}
use Rattle.towers.proofs.Finite.{onto}
use Rattle.towers.specs.Matrices.{apply}
use Rattle.towers.proofs.Linear.{apply_add}
use Rattle.towers.proofs.Enum.{poly}
use Rattle.towers.proofs.Iso.{image_lt, image_adds, image_one, image_keeps, image_zero, image_once, image_0, mul13, agree, apply4_1, apply4_2, apply4_4, apply4_8, apply4_lt}
use Rattle.towers.proofs.Swap.{one_pos}
use Rattle.towers.proofs.Carry.{Carries, lawful}

-- u1, u2, u4 and u8 are the numbers that go to 1, 2, 4 and 8
pub record Coords (phi : ℕ → ℕ) (u1 u2 u4 u8 : ℕ) : Type 0 where
  pub l1 : u1 < 16
  pub l2 : u2 < 16
  pub l4 : u4 < 16
  pub l8 : u8 < 16
  pub e1 : phi u1 ≡ 1
  pub e2 : phi u2 ≡ 2
  pub e4 : phi u4 ≡ 4
  pub e8 : phi u8 ≡ 8

mul13_lt : (a b : ℕ) → a < 16 → b < 16 → mul13 a b < 16
unfolding apply poly mul13
mul13_lt a b ha hb = ltb→lt (mul13 a b) 16 (at2 16 16 (λ a b. ltb (mul13 a b) 16) tt a b ha hb)

module _ (one : ℕ) (mul : ℕ → ℕ → ℕ) (R : Laws 4 one mul) (g : ℕ) (hg : g < 16) (root : IsRoot one mul g) where
  abbrev pub phi : ℕ → ℕ
  phi = image one mul g

  pub reached : (t : ℕ) → t < 16 → (u : ℕ) × (u < 16) × (image one mul g u ≡ t)
  reached = onto 16 (image one mul g) (λ k h. image_lt 4 one mul R g hg root k) (image_once 4 one mul R g hg root (one_pos one mul R))

  module _ (u1 u2 u4 u8 : ℕ) (U : Coords (image one mul g) u1 u2 u4 u8) where
    abbrev pub back : ℕ → ℕ
    back v = apply (u1 ∷ u2 ∷ u4 ∷ u8 ∷ []) v

    pub back_lt : (v : ℕ) → back v < 16
    back_lt v = apply4_lt 4 u1 u2 u4 u8 v U.l1 U.l2 U.l4 U.l8

    pub phi_back : (v : ℕ) → v < 16 → phi (back v) ≡ v
    phi_back = agree (λ v. phi (back v)) (λ v. v)
        (λ a b ha hb. ap phi (apply_add (u1 ∷ u2 ∷ u4 ∷ u8 ∷ []) a b) ∙ image_adds 4 one mul R g hg root (back a) (back b))
        (λ a b ha hb. refl)
        (ap phi (apply4_1 u1 u2 u4 u8) ∙ U.e1) (ap phi (apply4_2 u1 u2 u4 u8) ∙ U.e2) (ap phi (apply4_4 u1 u2 u4 u8) ∙ U.e4) (ap phi (apply4_8 u1 u2 u4 u8) ∙ U.e8)

    pub back_phi : (u : ℕ) → u < 16 → back (phi u) ≡ u
    back_phi u hu = image_once 4 one mul R g hg root (one_pos one mul R) (back (phi u)) u (back_lt (phi u)) hu (phi_back (phi u) (image_lt 4 one mul R g hg root u))

    back_keeps : (a b : ℕ) → a < 16 → b < 16 → back (mul a b) ≡ mul13 (back a) (back b)
    back_keeps a b ha hb =
        image_once 4 one mul R g hg root (one_pos one mul R) (back (mul a b)) (mul13 (back a) (back b)) (back_lt (mul a b)) (mul13_lt (back a) (back b) (back_lt a) (back_lt b))
        (phi_back (mul a b) (R.closed a b ha hb) ∙ sym (image_keeps 4 one mul R g hg root (back a) (back b) (back_lt a) (back_lt b) ∙ ap₂ mul (phi_back a ha) (phi_back b hb)))

    -- a byte r whose fourth power is r + 1 carries the field into the ring of width 8
    module _ (oct : ℕ → ℕ → ℕ) (E : Laws 8 1 oct) (r : ℕ) (hr : r < 256) (rootE : IsRoot 1 oct r) where
      abbrev pub small : ℕ → ℕ
      small v = image 1 oct r (back v)

      pub carries : Carries one mul oct small
      carries = record {
        byte = λ a h. image_lt 8 1 oct E r hr rootE (back a);
        adds = λ a b ha hb. ap (image 1 oct r) (apply_add (u1 ∷ u2 ∷ u4 ∷ u8 ∷ []) a b) ∙ image_adds 8 1 oct E r hr rootE (back a) (back b);
        keeps = λ a b ha hb. ap (image 1 oct r) (back_keeps a b ha hb) ∙ image_keeps 8 1 oct E r hr rootE (back a) (back b) (back_lt a) (back_lt b);
        ones = ap (λ (x : ℕ). image 1 oct r (back x)) (sym (image_one 4 one mul R g hg root)) ∙ ap (image 1 oct r) (back_phi 1 (lit< tt)) ∙ image_one 8 1 oct E r hr rootE;
        nonzero = λ a ha e. sym (phi_back a ha) ∙ ap phi (image_zero 8 1 oct E r hr rootE (lit< tt) (back a) (back_lt a) e) ∙ image_0 4 one mul R g hg root;
      }

      -- and a byte y outside, with y·y + y inside, makes a lawful pair
      pub pair_at : Field 4 one mul → (y : ℕ) → y < 256 → (u : ℕ) → u < 16 → oct y y ≡ bit_xor y (image 1 oct r u) → ((v : ℕ) → v < 16 → image 1 oct r v ≡ y → ⊥)
          → Lawful mul oct (phi u) (λ a. bit_xor (small (a % 16)) (oct y (small (a / 16))))
      pair_at inv y hy u hu sq new =
          lawful one mul R inv oct E small carries (phi u) (image_lt 4 one mul R g hg root u) y hy
          (sq ∙ ap (λ (x : ℕ). bit_xor y (image 1 oct r x)) (sym (back_phi u hu)))
          (λ a ha e. new (back a) (back_lt a) e)
