-- The words of a string of bytes, as plain values. Assumes nothing.
use Rattle.std.specs.Prelude.{ℕ, ◌+◌, Bool, true, cond, List, [], ◌∷◌, ◌==◌}

-- a word: the place of its first byte, and its bytes
pub record Spot : Type 0 where
  pub place : ℕ
  pub bytes : List ℕ

-- the word of the bytes bs at place k
abbrev pub spot : ℕ → List ℕ → Spot
spot k bs = record { place = k; bytes = bs }

-- a space or a newline; nothing else parts words
abbrev pub blank : ℕ → Bool
blank b = cond (b == 32) true (b == 10)

-- a byte b that is no blank, at place k: it joins the word that begins right after it, else it is a word of its own
abbrev pub joined : ℕ → ℕ → List Spot → List Spot
joined k b [] = spot k (b ∷ []) ∷ []
joined k b (w ∷ ws) = cond (w.place == k + 1) (spot k (b ∷ w.bytes) ∷ ws) (spot k (b ∷ []) ∷ w ∷ ws)

-- the words of a string of bytes whose first byte has place k: a blank is skipped, any other byte begins a word
unfoldable pub spots : ℕ → List ℕ → List Spot
spots k [] = []
spots k (b ∷ bs) = cond (blank b) (spots (k + 1) bs) (joined k b (spots (k + 1) bs))
