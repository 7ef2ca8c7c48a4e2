-- Bytes and words as text for a report, byte for byte. Assumes nothing.
use Rattle.std.specs.Prelude.{ℕ, ◌+◌, ◌/◌, ◌%◌, cond, ◌&&◌, List, [], ◌∷◌, ◌++◌, codes, decimal, flat_map, nat_le, nat_lt}
use Rattle.words.specs.declared.shown.Misread.{Misread}

-- a hexadecimal digit in ASCII: 0 to 9 from 48 on, A to F from 65 on
abbrev pub digit : ℕ → ℕ
digit n = cond (nat_lt n 10) (48 + n) (55 + n)

-- the two digits of a byte, the higher one first
abbrev pub digits_of : ℕ → List ℕ
digits_of b = digit (b / 16) ∷ digit (b % 16) ∷ []

-- the two digits of a byte after a space
abbrev pub space_and_digits : ℕ → List ℕ
space_and_digits b = codes " " ++ digits_of b

-- a printable character of ASCII, ! to ~, as itself, and any other byte as its two digits in angle brackets
abbrev pub shown : ℕ → List ℕ
shown b = cond (nat_le 33 b && nat_le b 126) (b ∷ []) (codes "<" ++ (digits_of b ++ codes ">"))

-- WORD at PLACE is no WHAT: the word as it is shown, its place in decimal, and what it should be
abbrev pub misread : Misread → List ℕ
misread m = flat_map shown m.word.part.now ++ (codes " at " ++ (decimal m.word.place ++ (codes " is no " ++ m.what.now)))
