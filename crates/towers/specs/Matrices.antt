-- Matrices of eight rows and columns over the field of two elements: column j is a byte whose bit i is the entry in row i.
-- Assumes nothing.
use Rattle.std.specs.Prelude.{◌≡◌, ℕ, ◌+◌, ◌*◌, ◌/◌, ◌%◌, List, [], ◌∷◌, map, bit_xor, count_ones}

-- the matrix of a map of bytes that keeps sums: its values at 1, 2, 4 and so on
abbrev pub columns : (ℕ → ℕ) → List ℕ
columns m = m 1 ∷ m 2 ∷ m 4 ∷ m 8 ∷ m 16 ∷ m 32 ∷ m 64 ∷ m 128 ∷ []

-- a matrix times a byte as a column: the sum of the columns that the bits of v mark
unfoldable pub apply : List ℕ → ℕ → ℕ
apply [] v = 0
apply (c ∷ cs) v = bit_xor (c * (v % 2)) (apply cs (v / 2))

-- the product of two matrices
abbrev pub product : List ℕ → List ℕ → List ℕ
product a b = map (apply a) b

-- the unit matrix
abbrev pub unit : List ℕ
unit = 1 ∷ 2 ∷ 4 ∷ 8 ∷ 16 ∷ 32 ∷ 64 ∷ 128 ∷ []

-- the entries 1 of a matrix
abbrev pub entries : List ℕ → ℕ
entries [] = 0
entries (c ∷ cs) = count_ones c + entries cs

-- the entries 1 in the matrices of m and of its reverse map n together
abbrev pub both_ones : (ℕ → ℕ) → (ℕ → ℕ) → ℕ
both_ones m n = entries (columns m) + entries (columns n)

-- two matrices are inverse to each other: they multiply to the unit matrix, in either order
pub record Inverses (a b : List ℕ) : Type 0 where
  pub left : product a b ≡ unit
  pub right : product b a ≡ unit
