-- Reading from a list of words: a value and the words left, or the place of the first bad word. Assumes nothing.
use Rattle.std.specs.Prelude.{ℕ, zero, suc, List, [], ◌∷◌, Some, None, Option}
use Rattle.sheets.specs.Spots.{Spot}
use Rattle.sheets.specs.Forms.{count_of}

-- what a reading comes to
pub data Reading (A : Type 0) : Type 0 where
  got : (value : A) (rest : List Spot) → Reading A
  bad : (place : ℕ) → Reading A

-- a word that stands for v, or for nothing
abbrev pub as_word : {A : Type 0} → Spot → List Spot → Option A → Reading A
as_word w ws (Some v) = got v ws
as_word w ws None = bad w.place

-- the first word, by f; where there is none, the place is the end
abbrev pub word_as : {A : Type 0} → (List ℕ → Option A) → ℕ → List Spot → Reading A
word_as f end [] = bad end
word_as f end (w ∷ ws) = as_word w ws (f w.bytes)

-- one reading, and then another from the words left
abbrev pub then : {A B : Type 0} → Reading A → (A → List Spot → Reading B) → Reading B
then (got v ws) f = f v ws
then (bad p) f = bad p

-- n entries, one after the other
unfoldable pub times : {A : Type 0} → ℕ → (List Spot → Reading A) → List Spot → Reading (List A)
times zero one ws = got [] ws
times (suc n) one ws = then (one ws) (λ x vs. then (times n one vs) (λ xs us. got (x ∷ xs) us))

-- a section: its count, and that many entries
abbrev pub section : {A : Type 0} → (ℕ → List Spot → Reading A) → ℕ → List Spot → Reading (List A)
section one end ws = then (word_as count_of end ws) (λ n. times n (one end))
