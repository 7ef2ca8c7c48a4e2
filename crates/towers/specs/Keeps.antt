-- The pair that a fit keeps. Assumes nothing.
use Rattle.std.specs.Prelude.{◌≡◌, ℕ, ◌⊎◌}
use Rattle.rings.specs.Poly.{mul_mod}
use Rattle.towers.specs.Lawful.{Lawful, Reverse}
use Rattle.towers.specs.Matrices.{columns as columns_of, both_ones, Inverses}
use Rattle.towers.specs.Order.{Before}
use Rattle.towers.specs.declared.pair.Pair.{Pair}

-- p tells a lawful pair: its constant, the columns of its map and of the reverse map, and the ones of both
pub record Tells (mul oct : ℕ → ℕ → ℕ) (p : Pair) : Type 0 where
  pub map : ℕ → ℕ
  pub back : ℕ → ℕ
  pub lawful : Lawful mul oct p.constant map
  pub reversed : Reverse map back
  pub columns : p.columns ≡ columns_of map
  pub reverse : p.reverse ≡ columns_of back
  pub ones : p.ones ≡ both_ones map back

-- p tells the constant d and the map m with its reverse map n
abbrev pub Is : Pair → ℕ → (ℕ → ℕ) → (ℕ → ℕ) → Type 0
Is p d m n = (p.ones ≡ both_ones m n) × (p.constant ≡ d) × (p.columns ≡ columns_of m)

-- the constant d and the map m with its reverse map n are told by p, or stand behind it in the order
abbrev pub Stands : Pair → ℕ → (ℕ → ℕ) → (ℕ → ℕ) → Type 0
Stands p d m n = Is p d m n ⊎ Before p.ones p.constant p.columns (both_ones m n) d (columns_of m)

-- p is kept for the ring of width 4 with product `mul` and for the octic: it tells a lawful pair, and every other lawful pair
-- stands behind it; every lawful pair has a reverse map, and its two matrices multiply to the unit matrix, in either order
pub record Keeps (mul : ℕ → ℕ → ℕ) (octic : ℕ) (p : Pair) : Type 0 where
  pub tells : Tells mul (mul_mod 8 octic) p
  pub least : (d : ℕ) (m n : ℕ → ℕ) → Lawful mul (mul_mod 8 octic) d m → Reverse m n → Stands p d m n
  pub reverses : (d : ℕ) (m : ℕ → ℕ) → Lawful mul (mul_mod 8 octic) d m → (n : ℕ → ℕ) × Reverse m n
  pub inverses : (d : ℕ) (m n : ℕ → ℕ) → Lawful mul (mul_mod 8 octic) d m → Reverse m n → Inverses (columns_of m) (columns_of n)
