-- What a worked case says, and that each case of a list holds. Assumes nothing.
use Rattle.std.specs.Prelude.{◌≡◌, ℕ, ◌+◌, List, [], ◌∷◌, Some}
use Rattle.rings.specs.Laws.{Inverts}
use Rattle.rings.specs.Poly.{mul_mod}
use Rattle.refusals.specs.Numbers.{number_of}
use Rattle.refusals.specs.declared.Refusal.{Refusal}
use Rattle.octics.specs.Octics.{Accepted}
use Rattle.boxes.specs.Boxes.{box_a, box_s}
use Rattle.runs.specs.Bearings.{bearing_of}
use Rattle.towers.specs.Fitted.{Refuses}
use Rattle.towers.specs.Keeps.{Tells}
use Rattle.towers.specs.Matrices.{entries}
use Rattle.towers.specs.declared.pair.Pair.{Pair}
use Rattle.facts.specs.declared.Case.{Case}
use Rattle.facts.specs.declared.Case.TheVariants.{Inverses, AcceptedOctic, RefusedOctic, BoxA, BoxS, Lawful, Bearing}

-- the product of ring 13, of width 4
abbrev pub ring_13 : ℕ → ℕ → ℕ
ring_13 = mul_mod 4 0x13

-- a fit of ring 13 to o is refused, by the refusal of number n
pub record Refused13 (o n : ℕ) : Type 0 where
  pub refusal : Refusal
  pub refuses : Refuses 4 ring_13 o refusal
  pub number : number_of refusal ≡ n

-- the pair p is lawful for ring 13 and the octic o, and its matrices have m and n ones
pub record Lawful13 (o : ℕ) (p : Pair) (m n : ℕ) : Type 0 where
  pub tells : Tells ring_13 (mul_mod 8 o) p
  pub map_ones : entries p.columns ≡ m
  pub reverse_ones : entries p.reverse ≡ n
  pub both_ones : p.ones ≡ m + n

-- what a case says
abbrev pub Holds : Case → Type 0
-- in ring 13 `inverse` answers b of a, and a of b
Holds (Inverses a b) = Inverts 4 1 ring_13 a (Some b) × Inverts 4 1 ring_13 b (Some a)
-- the octic o is accepted
Holds (AcceptedOctic o) = Accepted o
-- a fit of ring 13 to the octic o is refused, by the refusal of number n
Holds (RefusedOctic o n) = Refused13 o n
-- box A makes y of x
Holds (BoxA x y) = box_a x ≡ y
-- box S makes y of x
Holds (BoxS x y) = box_s x ≡ y
-- for ring 13 and the octic o the pair p is lawful, with m ones in its map and n in the reverse
Holds (Lawful o p m n) = Lawful13 o p m n
-- the number n has the bearing b, in tenths of a degree
Holds (Bearing n b) = bearing_of n ≡ b

-- each case of a list holds
abbrev pub AllHold : List Case → Type 0
AllHold [] = Unit {0}
AllHold (c ∷ cs) = Holds c × AllHold cs
