-- The comparison of two tuples is the order among pairs. Assumes nothing.
use Rattle.std.proofs.Common.{◌≡◌, ℕ, ◌<◌, ◌⊎◌, Bool, true, false, Option, Some, List, [], ◌∷◌, length, refl, subst, inl, inr, arith}
use Rattle.std.specs.Ordering.{nat_cmp, is_some_and, is_lt, partial_ordering_then, MatchOrdering}
use Rattle.std.specs.declared.cmp.Ordering.{Ordering}
use Rattle.std.specs.declared.cmp.Ordering.TheVariants.{Less, Equal, Greater}
use Rattle.std.specs.Cmp.Lexicographic.{slice_partial_cmp}
use Rattle.std.proofs.lemmas.Cmp.{ranked}
use Rattle.towers.specs.Order.{Lex, Before}
use Rattle.towers.specs.Tests.{Whether}

module _ (x y : ℕ) (P : Type 0) where
  tied : x ≡ y → (b : Bool) → Whether P b → Whether ((x < y) ⊎ ((x ≡ y) × P)) b
  tied e true p = inr (e, p)
  tied e false f = λ s. elim s [ inl h ↦ omega arith | inr q ↦ f q.1 ]

  by_first : (r : Ordering) → MatchOrdering r (x < y) (x ≡ y) (y < x) → (o : Option Ordering) → Whether P (is_some_and is_lt o)
      → Whether ((x < y) ⊎ ((x ≡ y) × P)) (is_some_and is_lt (partial_ordering_then (Some r) o))
  by_first Less m o w = inl m
  by_first Equal m o w = tied m (is_some_and is_lt o) w
  by_first Greater m o w = λ s. elim s [ inl h ↦ omega arith | inr q ↦ omega (arith, q.0) ]

  -- the first parts decide, and where they are the same the rest does
  first : (o : Option Ordering) → Whether P (is_some_and is_lt o)
      → Whether ((x < y) ⊎ ((x ≡ y) × P)) (is_some_and is_lt (partial_ordering_then (Some (nat_cmp x y)) o))
  first = by_first (nat_cmp x y) (ranked x y (nat_cmp x y) refl)

lex_tests : (xs ys : List ℕ) → length xs ≡ length ys → Whether (Lex xs ys) (is_some_and is_lt (slice_partial_cmp (λ x y. Some (nat_cmp x y)) xs ys))
lex_tests [] [] e = λ l. l
lex_tests [] (y ∷ ys) e = absurd (omega arith)
lex_tests (x ∷ xs) [] e = absurd (omega arith)
lex_tests (x ∷ xs) (y ∷ ys) e = first x y (Lex xs ys) (slice_partial_cmp (λ x y. Some (nat_cmp x y)) xs ys) (lex_tests xs ys (omega arith))

grouped : (r : Ordering) (b o : Option Ordering)
    → partial_ordering_then (Some r) (partial_ordering_then b o) ≡ partial_ordering_then (partial_ordering_then (Some r) b) o
grouped Less b o = refl
grouped Equal b o = refl
grouped Greater b o = refl

pub before_tests : (n c : ℕ) (xs : List ℕ) (k d : ℕ) (ys : List ℕ) → length xs ≡ length ys
    → Whether (Before n c xs k d ys)
    (is_some_and is_lt (partial_ordering_then (partial_ordering_then (Some (nat_cmp n k)) (Some (nat_cmp c d))) (slice_partial_cmp (λ x y. Some (nat_cmp x y)) xs ys)))
before_tests n c xs k d ys e =
    subst (λ (o : Option Ordering). Whether (Before n c xs k d ys) (is_some_and is_lt o)) (grouped (nat_cmp n k) _ _)
    (first n k _ _ (first c d (Lex xs ys) _ (lex_tests xs ys e)))
