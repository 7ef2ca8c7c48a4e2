-- The display's ring is a field of sixteen codes, and two known pairs are those that a fit keeps over it. Assumes nothing.
use Rattle.std.proofs.Common.{◌≡◌, ℕ, ◌+◌, ◌%◌, ◌<◌, Bool, T, eqb, List, [], ◌∷◌, refl, inl, inr, arith, lit<, eqb→eq}
use lib.Count.{ones}
use Rattle.rings.specs.Laws.{Laws, Field}
use Rattle.rings.specs.Pairing.{pair_mul, pairing_mul}
use Rattle.rings.specs.Poly.{mul_mod}
use Rattle.rings.specs.Commuting.{the_inverse}
use Rattle.rings.proofs.Finite.{each, at}
use Rattle.rings.specs.PairCode.{pairing_laws}
use Rattle.rings.specs.PolyLaws.{mul_mod_laws}
use Rattle.octics.specs.Octics.{Accepted}
use Rattle.octics.proofs.Accepts.{accepted_11b, accepted_1f5}
use Rattle.display_ring.specs.Display.{display_mul, pair_11b, pair_1f5}
use Rattle.towers.specs.Fitted.{Sixteen}
use Rattle.towers.specs.Keeps.{Keeps}
use Rattle.towers.specs.Matrices.{apply}
use Rattle.towers.specs.Place.{powers_of, Based}
use Rattle.towers.specs.declared.pair.Pair.{Pair}
use Rattle.towers.proofs.Finite.{either, either_split, some, found}
use Rattle.display_ring.proofs.Fewest.{turns, turned, pair_at, fewest, serving, served, first_of_all}
use Rattle.towers.proofs.Kept.{kept}

laws : Laws 4 1 display_mul
laws = pairing_laws 2 1 (mul_mod 2 7) 2 (inl refl) (mul_mod_laws 2 7 refl (lit< tt))

-- each code but 0 has a code whose product with it is 1
abbrev invertible : ℕ → Bool
invertible a = either (eqb a 0) (some 16 (λ b. eqb (display_mul a b) 1))

all_invertible : T (each 16 invertible)
unfolding pairing_mul pair_mul mul_mod
all_invertible = tt

field : Field 4 1 display_mul
field a h pos = elim (either_split (eqb a 0) (some 16 (λ b. eqb (display_mul a b) 1)) (at 16 invertible all_invertible a h)) [
  | inl z ↦ absurd (let e : a ≡ 0 = eqb→eq a 0 z in omega arith)
  | inr s ↦ (let b = found 16 (λ b. eqb (display_mul a b) 1) s in
      (b.0, the_inverse 4 1 display_mul laws a b.0 h b.1 (eqb→eq (display_mul a b.0) 1 b.2)))
]

pub sixteen : Sixteen 4 display_mul
sixteen = (refl, field)

-- code 4 is a root; its powers, and the codes 1, 2, 4 and 8 as polynomials in it
abbrev gs : List ℕ
gs = 1 ∷ 4 ∷ 6 ∷ 14 ∷ []

abbrev us : List ℕ
us = 1 ∷ 6 ∷ 2 ∷ 12 ∷ []

turned_back : T (turns 4 gs us)
unfolding apply
turned_back = tt

based : Based display_mul gs us
unfolding pairing_mul pair_mul mul_mod
based = record { root = 4; code = lit< tt; is_root = refl; powers = refl; reverse = turned 4 gs us refl turned_back }

-- a pair that is the first of all is kept
known : (o : ℕ) → Accepted o → (k : o ≡ 256 + o % 256) → (p : Pair) → T (fewest gs us (mul_mod 8 o) p)
    → (r y u : ℕ) → r < 256 → y < 256 → u < 16 → T (serving (mul_mod 8 o) r y u)
    → p ≡ pair_at gs us (mul_mod 8 o) (powers_of 1 (mul_mod 8 o) r) y u → Keeps display_mul o p
known o A k p t r y u lr ly lu s e =
    kept 4 display_mul laws sixteen o A gs us based o k p
    (first_of_all gs us (mul_mod 8 o) p t r y u (served (mul_mod 8 o) r y u lr ly lu s) e)

-- the pair for 11B stands at the bytes 5C and A2
pub kept_11b : Keeps display_mul 0x11b pair_11b
unfolding mul_mod apply ones
kept_11b = known 0x11b accepted_11b refl pair_11b tt 0x5c 0xa2 8 (lit< tt) (lit< tt) (lit< tt) tt refl

-- the pair for 1F5 stands at the bytes 0C and 98
pub kept_1f5 : Keeps display_mul 0x1f5 pair_1f5
unfolding mul_mod apply ones
kept_1f5 = known 0x1f5 accepted_1f5 refl pair_1f5 tt 0x0c 0x98 11 (lit< tt) (lit< tt) (lit< tt) tt refl
