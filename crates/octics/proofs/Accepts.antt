-- An octic that leaves a rest at every divisor of degree 1 to 4 is accepted: a test that antt computes. So 11B and 1F5 are.
-- Assumes nothing.
use Rattle.std.proofs.Common.{◌≡◌, ℕ, ◌+◌, ◌-◌, ◌^◌, ◌<◌, ◌≤◌, Bool, true, ltb, refl, sym, ap, ◌∙◌, subst, arith, lit<, lit≤, pow-add, ltb-true}
use native.Mathlib.Decide.{dec_lt}
use Rattle.octics.specs.Division.{remainder, Degree}
use Rattle.octics.specs.Octics.{Divides, Accepted}
use Rattle.octics.proofs.Tested.{below, below_at, leaves}

-- each number of degree k leaves a rest of o
abbrev rests : ℕ → ℕ → Bool
rests o k = below (λ j. ltb 0 (remainder k (2 ^ k + j) o)) (2 ^ k)

-- so does each number of degree 1 to 4
abbrev pub all_rest : ℕ → Bool
all_rest o = below (λ k. rests o (k + 1)) 4

degree_of : (d : ℕ) → 2 ≤ d → d < 32 → (k : ℕ) × (k < 4) × Degree (k + 1) d
degree_of d h l = elim (dec_lt d 4) [
  | yes a ↦ (0, lit< tt, record { low = lit≤ tt; high = lit≤ tt; from = h; below = a })
  | no a ↦ elim (dec_lt d 8) [
    | yes b ↦ (1, lit< tt, record { low = lit≤ tt; high = lit≤ tt; from = omega arith; below = b })
    | no b ↦ elim (dec_lt d 16) [
      | yes c ↦ (2, lit< tt, record { low = lit≤ tt; high = lit≤ tt; from = omega arith; below = c })
      | no c ↦ (3, lit< tt, record { low = lit≤ tt; high = lit≤ tt; from = omega arith; below = l })
    ]
  ]
]

some_rest : (o k d : ℕ) → rests o k ≡ true → Degree k d → 0 < remainder k d o
some_rest o k d t g =
    let j : d - 2 ^ k < 2 ^ k = omega (arith, g.from, g.below, pow-add 2 k 1) in
    let e : 2 ^ k + (d - 2 ^ k) ≡ d = omega (arith, g.from) in
    subst (λ (x : ℕ). 0 < remainder k x o) e (ltb-true _ _ (below_at (λ i. ltb 0 (remainder k (2 ^ k + i) o)) (2 ^ k) t (d - 2 ^ k) j))

pub accepts : (o : ℕ) → 256 ≤ o → o < 512 → all_rest o ≡ true → Accepted o
accepts o least most t = record { least = least; most = most; whole = whole }
  where
    whole : (d : ℕ) → 2 ≤ d → d < 32 → Divides d o → ⊥
    whole d h l v =
        let g = degree_of d h l in
        let k : ℕ = g.0 in
        let some = some_rest o (k + 1) d (below_at (λ k. rests o (k + 1)) 4 t k g.1) g.2 in
        let none : remainder (k + 1) d o ≡ 0 =
        ap (remainder (k + 1) d) (sym v.1) ∙ leaves (k + 1) d v.0 g.2 (subst (λ (x : ℕ). x < 512) (sym v.1) most) in
        omega arith

pub accepted_11b : Accepted 0x11b
unfolding remainder
accepted_11b = accepts 0x11b (lit≤ tt) (lit< tt) refl

pub accepted_1f5 : Accepted 0x1f5
unfolding remainder
accepted_1f5 = accepts 0x1f5 (lit≤ tt) (lit< tt) refl
