-- The way of a byte through the tower over ring 13, by a pair. Assumes nothing.
use Rattle.std.specs.Prelude.{◌≡◌, ℕ, ◌%◌, ◌^◌}
use Rattle.rings.specs.Laws.{Inverts}
use Rattle.rings.specs.Pairing.{Normed}
use Rattle.rings.specs.Poly.{mul_mod}
use Rattle.boxes.specs.Boxes.{affine_a, box_a}
use Rattle.towers.specs.Boxed.{Boxed}
use Rattle.towers.specs.Trails.{Trails, Arrives}
use Rattle.towers.specs.declared.pair.Pair.{Pair}
use Rattle.trail.specs.declared.steps.Steps.{Steps}

-- the product of ring 13
abbrev pub mul_13 : ℕ → ℕ → ℕ
mul_13 = mul_mod 4 0x13

-- The byte's trail by the pair, its code's norm with the norm's inverse, and box A's byte. Where the pair is kept for an accepted
-- octic, the last byte of the trail is the byte's inverse in the octic's field; where it is lawful for 11B, the box is box A.
pub record Way (p : Pair) (byte : ℕ) (s : Steps) : Type 0 where
  pub start : s.byte ≡ byte
  pub walks : Trails 4 mul_13 p byte s.trail
  pub arrives : Arrives 4 mul_13 p byte s.trail.byte
  pub norm : Normed 4 1 mul_13 p.constant (s.trail.code % 2 ^ 8) s.norm
  pub inverse_below : Inverts 4 1 mul_13 (s.norm % 2 ^ 4) s.norm_inverse
  pub boxed : Boxed 0x11b (λ y. y) affine_a box_a 4 mul_13 p byte s.boxed
