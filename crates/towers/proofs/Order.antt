-- The order among pairs: it is one of before, the same and behind, and it carries over. Assumes nothing.
use Rattle.std.proofs.Common.{◌≡◌, ℕ, ◌⊎◌, List, [], ◌∷◌, length, sym, refl, ◌∙◌, ap₂, inl, inr, arith}
use mathlib.Core.Path.{subst₃}
use native.Mathlib.Decide.{dec_lt, ℕ_discrete}
use Rattle.towers.specs.Order.{Lex, Before}

lex_never : (xs : List ℕ) → Lex xs xs → ⊥
lex_never [] l = l
lex_never (x ∷ xs) l = elim l [ inl h ↦ omega arith | inr p ↦ lex_never xs p.1 ]

lex_then : (xs ys zs : List ℕ) → Lex xs ys → Lex ys zs → Lex xs zs
lex_then [] ys zs l k = l
lex_then (x ∷ xs) [] zs l k = absurd l
lex_then (x ∷ xs) (y ∷ ys) [] l k = k
lex_then (x ∷ xs) (y ∷ ys) (z ∷ zs) l k = elim l [
  | inl h ↦ elim k [ inl j ↦ inl (omega arith) | inr q ↦ inl (omega (arith, q.0)) ]
  | inr p ↦ elim k [ inl j ↦ inl (omega (arith, p.0)) | inr q ↦ inr (p.0 ∙ q.0, lex_then xs ys zs p.1 q.1) ]
]

pub before_never : (n c : ℕ) (xs : List ℕ) → Before n c xs n c xs → ⊥
before_never n c xs b = elim b [
  | inl h ↦ omega arith
  | inr p ↦ elim p.1 [ inl h ↦ omega arith | inr q ↦ lex_never xs q.1 ]
]

pub before_then : (n c : ℕ) (xs : List ℕ) (k d : ℕ) (ys : List ℕ) (l e : ℕ) (zs : List ℕ)
    → Before n c xs k d ys → Before k d ys l e zs → Before n c xs l e zs
before_then n c xs k d ys l e zs a b = elim a [
  | inl h ↦ elim b [ inl j ↦ inl (omega arith) | inr q ↦ inl (omega (arith, q.0)) ]
  | inr p ↦ elim b [
    | inl j ↦ inl (omega (arith, p.0))
    | inr q ↦ inr (
      p.0 ∙ q.0,
      elim p.1 [
        | inl h ↦ elim q.1 [ inl j ↦ inl (omega arith) | inr r ↦ inl (omega (arith, r.0)) ]
        | inr s ↦ elim q.1 [ inl j ↦ inl (omega (arith, s.0)) | inr r ↦ inr (s.0 ∙ r.0, lex_then xs ys zs s.1 r.1) ]
      ],
    )
  ]
]

lex_cases : (xs ys : List ℕ) → length xs ≡ length ys → Lex xs ys ⊎ ((xs ≡ ys) ⊎ Lex ys xs)
lex_cases [] [] e = inr (inl refl)
lex_cases [] (y ∷ ys) e = absurd (omega arith)
lex_cases (x ∷ xs) [] e = absurd (omega arith)
lex_cases (x ∷ xs) (y ∷ ys) e = elim (dec_lt x y) [
  | yes h ↦ inl (inl h)
  | no nh ↦ elim (ℕ_discrete x y) [
    | no ne ↦ inr (inr (inl (omega arith)))
    | yes q ↦ elim (lex_cases xs ys (omega arith)) [
      | inl l ↦ inl (inr (q, l))
      | inr o ↦ elim o [ inl p ↦ inr (inl (ap₂ ◌∷◌ q p)) | inr l ↦ inr (inr (inr (sym q, l))) ]
    ]
  ]
]

-- what is not before is the same, or behind
pub not_before : (n c : ℕ) (xs : List ℕ) (k d : ℕ) (ys : List ℕ) → length xs ≡ length ys → (Before n c xs k d ys → ⊥)
    → ((k ≡ n) × (d ≡ c) × (ys ≡ xs)) ⊎ Before k d ys n c xs
not_before n c xs k d ys e no-b = elim (dec_lt k n) [
  | yes h ↦ inr (inl h)
  | no nh ↦ elim (ℕ_discrete n k) [
    | no ne ↦ absurd (no-b (inl (omega arith)))
    | yes q ↦ elim (dec_lt d c) [
      | yes h ↦ inr (inr (sym q, inl h))
      | no nd ↦ elim (ℕ_discrete c d) [
        | no ne ↦ absurd (no-b (inr (q, inl (omega arith))))
        | yes r ↦ elim (lex_cases xs ys e) [
          | inl l ↦ absurd (no-b (inr (q, inr (r, l))))
          | inr o ↦ elim o [ inl s ↦ inl (sym q, sym r, sym s) | inr l ↦ inr (inr (sym q, inr (sym r, l))) ]
        ]
      ]
    ]
  ]
]

-- the order, where the second pair is told by other words
pub moved : (n c : ℕ) (xs : List ℕ) {k l d e : ℕ} {ys zs : List ℕ} → k ≡ l → d ≡ e → ys ≡ zs → Before n c xs k d ys → Before n c xs l e zs
moved n c xs p q r b = subst₃ (λ (k d : ℕ) (ys : List ℕ). Before n c xs k d ys) p q r b
