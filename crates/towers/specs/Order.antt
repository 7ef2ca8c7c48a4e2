-- The order among lawful pairs: fewer ones, then the smaller constant, then the smaller column at the first place where the
-- columns differ. Assumes nothing.
use Rattle.std.specs.Prelude.{◌≡◌, ℕ, ◌<◌, ◌⊎◌, List, [], ◌∷◌}

-- the smaller column comes first, at the first place where they differ
abbrev pub Lex : List ℕ → List ℕ → Type 0
Lex [] ys = ⊥
Lex (x ∷ xs) [] = ⊥
Lex (x ∷ xs) (y ∷ ys) = (x < y) ⊎ ((x ≡ y) × Lex xs ys)

-- n ones, the constant c and the columns xs come before k ones, the constant d and the columns ys
abbrev pub Before : ℕ → ℕ → List ℕ → ℕ → ℕ → List ℕ → Type 0
Before n c xs k d ys = (n < k) ⊎ ((n ≡ k) × ((c < d) ⊎ ((c ≡ d) × Lex xs ys)))
