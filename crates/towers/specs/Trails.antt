-- The way of a byte through a fitted tower: its code, the code's inverse there, and the byte of that. Assumes nothing.
use Rattle.std.specs.Prelude.{◌≡◌, ℕ, ◌/◌, ◌^◌, ◌<◌, ◌⊎◌, ◌≢◌}
use Rattle.rings.specs.Laws.{Inverse, NoInverse}
use Rattle.rings.specs.Pairing.{pair_mul}
use Rattle.rings.specs.Poly.{mul_mod}
use Rattle.towers.specs.Matrices.{apply}
use Rattle.octics.specs.Octics.{Accepted}
use Rattle.towers.specs.Fitted.{Sixteen}
use Rattle.towers.specs.Keeps.{Tells, Keeps}
use Rattle.towers.specs.declared.pair.Pair.{Pair}
use Rattle.towers.specs.declared.trail.Trail.{Trail}

-- b is the inverse of a, or 0 where a has none
abbrev pub OrZero : ℕ → (ℕ → ℕ → ℕ) → ℕ → ℕ → Type 0
OrZero w mul a b = Inverse w 1 mul a b ⊎ (NoInverse w 1 mul a × (b ≡ 0))

-- i is the inverse of a code in the tower over a ring of width 4, or 0 where the code has none; over a ring of another width there is no tower, and i is 0
pub record TowerInverse (w : ℕ) (mul : ℕ → ℕ → ℕ) (c code i : ℕ) : Type 0 where
  pub tower : w ≡ 4 → OrZero 8 (pair_mul 4 mul c) code i
  pub other : (w ≢ 4) → i ≡ 0

-- the trail of a byte over a ring of width w with product `mul`, by the pair p: the reverse map gives the byte's tower code, and
-- the map takes that code's tower inverse back
pub record Trails (w : ℕ) (mul : ℕ → ℕ → ℕ) (p : Pair) (x : ℕ) (t : Trail) : Type 0 where
  pub code : t.code ≡ apply p.reverse x
  pub inverse : TowerInverse w mul p.constant t.code t.inverse
  pub byte : t.byte ≡ apply p.columns t.inverse

-- b is what the trail of x must come to: for each octic to which p tells a lawful pair of the ring, the inverse of x in the octic's ring
abbrev pub Through : ℕ → (ℕ → ℕ → ℕ) → Pair → ℕ → ℕ → Type 0
Through w mul p x b = (octic : ℕ) → octic / 2 ^ 8 ≡ 1 → w ≡ 4 → Tells mul (mul_mod 8 octic) p → OrZero 8 (mul_mod 8 octic) x b

-- b is what the trail of x comes to where the ring is a field of sixteen codes and p is kept for an accepted octic: 0 for 0, and
-- else the inverse of x in the octic's field
abbrev pub Arrives : ℕ → (ℕ → ℕ → ℕ) → Pair → ℕ → ℕ → Type 0
Arrives w mul p x b =
    (octic : ℕ) → Sixteen w mul → Accepted octic → Keeps mul octic p → (x ≡ 0 → b ≡ 0) × (0 < x → Inverse 8 1 (mul_mod 8 octic) x b)
