-- Words of a text of bytes: the longest parts without a space or a newline, with their places. Assumes nothing.
use Rattle.std.specs.Prelude.{◌≡◌, ℕ, ◌<◌, ◌≤◌, ◌⊎◌, List, length, Some, None, Option, slice_index, slice_range}
use Rattle.words.specs.declared.Word.{Word}

-- a space or a newline; nothing else parts words
abbrev pub Blank : ℕ → Type 0
Blank b = (b ≡ 32) ⊎ (b ≡ 10)

-- each byte from a up to b is a blank
abbrev pub Blanks : List ℕ → ℕ → ℕ → Type 0
Blanks s a b = (k : ℕ) → a ≤ k → k < b → Blank (slice_index s k)

-- no byte from a up to b is a blank
abbrev pub NoBlanks : List ℕ → ℕ → ℕ → Type 0
NoBlanks s a b = (k : ℕ) → a ≤ k → k < b → Blank (slice_index s k) → ⊥

-- the bytes of s from a up to b
abbrev pub stretch : List ℕ → ℕ → ℕ → List ℕ
stretch s a b = slice_range s a b

-- w is the word of s from its place up to b, the first from a on
pub record First (s : List ℕ) (a : ℕ) (w : Word) (b : ℕ) : Type 0 where
  pub from : a ≤ w.place
  pub skipped : Blanks s a w.place
  pub begun : w.place < b
  pub within : b ≤ length s
  pub part : w.part.now ≡ stretch s w.place b
  pub whole : NoBlanks s w.place b
  pub ended : b < length s → Blank (slice_index s b)

-- the next word from a on, or none; the reader then stands at b
abbrev pub Next : List ℕ → ℕ → Option Word → ℕ → Type 0
Next s a None b = Blanks s a (length s) × (b ≡ length s)
Next s a (Some w) b = First s a w b
