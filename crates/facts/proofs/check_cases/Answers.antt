use Rattle.std.proofs.Common.{◌≡◌, ℕ, ◌+◌, ◌/◌, ◌^◌, ◌<◌, Some, drop, refl, ◌∙◌, inl, inr, arith, lit<, lit≤}
use lib.Count.{ones}
use Rattle.rings.specs.Laws.{Laws, Inverts}
use Rattle.rings.specs.Pairing.{pair_mul}
use Rattle.rings.specs.Poly.{mul_mod}
use Rattle.rings.specs.PolyLaws.{mul_mod_laws}
use Rattle.rings.specs.Commuting.{the_inverse}
use Rattle.rings.proofs.Powers13.{power_inverse}
use Rattle.refusals.specs.declared.Refusal.TheVariants.{NotOctic, Divisible}
use Rattle.octics.specs.Division.{remainder}
use Rattle.octics.specs.Octics.{Outside, Divided}
use Rattle.octics.proofs.Accepts.{accepts}
use Rattle.boxes.specs.Boxes.{inverse_mod, linear_a, linear_s}
use Rattle.towers.specs.Fitted.{Sixteen}
use Rattle.towers.specs.Matrices.{apply, entries}
use Rattle.towers.specs.declared.pair.Pair.{Pair}
use Rattle.towers.proofs.Known.{Stated, told}
use Rattle.facts.specs.Cases.{ring_13, Refused13, Lawful13, AllHold}
use Rattle.facts.specs.declared.TheConstants.{CASES}
use Rattle.facts.proofs.check_cases.Goals as goal

laws : Laws 4 1 ring_13
laws = mul_mod_laws 4 0x13 refl (lit< tt)

sixteen : Sixteen 4 ring_13
sixteen = (refl, λ a h pos. (_, power_inverse a h (λ e. omega arith)))

-- a product that is 1 makes each the inverse of the other
both_ways : (a b : ℕ) → a < 2 ^ 4 → b < 2 ^ 4 → ring_13 a b ≡ 1 → Inverts 4 1 ring_13 a (Some b) × Inverts 4 1 ring_13 b (Some a)
both_ways a b ha hb e = (the_inverse 4 1 ring_13 laws a b ha hb e, the_inverse 4 1 ring_13 laws b a hb ha (laws.comm b a hb ha ∙ e))

outside : (o : ℕ) → Outside o → Refused13 o 2
outside o out = record { refusal = NotOctic; refuses = inr (inl (refl, sixteen, out)); number = refl }

divided : (o : ℕ) → Divided o → Refused13 o 3
divided o has = record { refusal = Divisible; refuses = inr (inr (refl, sixteen, has)); number = refl }

lawful : (o : ℕ) (p : Pair) (m n : ℕ) → o / 2 ^ 8 ≡ 1 → Stated ring_13 (mul_mod 8 o) p
    → entries p.columns ≡ m → entries p.reverse ≡ n → p.ones ≡ m + n → Lawful13 o p m n
lawful o p m n octic stated map_ones reverse_ones both_ones = record {
  tells = told ring_13 laws (mul_mod 8 o) (mul_mod_laws 8 o octic (lit< tt)) p stated;
  map_ones = map_ones;
  reverse_ones = reverse_ones;
  both_ones = both_ones;
}

-- ---- the cases of each kind: the list has the values, and antt computes what is asked of them

bearings_hold : AllHold (drop 18 CASES)
bearings_hold = (refl, (refl, (refl, (refl, tt))))

pairs_hold : AllHold (drop 16 CASES)
unfolding mul_mod pair_mul apply ones
pairs_hold = (
  lawful _ _ _ _ refl
      (record { const = lit< tt; eight = refl; small = tt; keep = tt; back = refl; eight_back = refl; small_back = tt; there = tt; ones = refl })
      refl refl refl,
  (
    lawful _ _ _ _ refl
        (record { const = lit< tt; eight = refl; small = tt; keep = tt; back = refl; eight_back = refl; small_back = tt; there = tt; ones = refl })
        refl refl refl,
    bearings_hold,
  ),
)

boxes_hold : AllHold (drop 12 CASES)
unfolding inverse_mod mul_mod linear_a linear_s
boxes_hold = (refl, (refl, (refl, (refl, pairs_hold))))

-- 100 is x times its seventh power
refused_hold : AllHold (drop 9 CASES)
refused_hold = (
  outside _ (inl (lit< tt)),
  (
    outside _ (inr (lit≤ tt)),
    (divided _ (record { least = lit≤ tt; most = lit< tt; divisor = 2; from = lit≤ tt; below = lit< tt; divides = (0x80, refl) }), boxes_hold),
  ),
)

accepted_hold : AllHold (drop 7 CASES)
unfolding remainder
accepted_hold = (accepts _ (lit≤ tt) (lit< tt) refl, (accepts _ (lit≤ tt) (lit< tt) refl, refused_hold))

pub returns : goal.returns
unfolding mul_mod
returns c = (
  both_ways _ _ (lit< tt) (lit< tt) refl,
  (
    both_ways _ _ (lit< tt) (lit< tt) refl,
    (
      both_ways _ _ (lit< tt) (lit< tt) refl,
      (
        both_ways _ _ (lit< tt) (lit< tt) refl,
        (
          both_ways _ _ (lit< tt) (lit< tt) refl,
          (
            both_ways _ _ (lit< tt) (lit< tt) refl,
            (both_ways _ _ (lit< tt) (lit< tt) refl, accepted_hold),
          ),
        ),
      ),
    ),
  ),
)
