-- Sums of turned bytes. Assumes nothing.
use Rattle.std.specs.Prelude.{ℕ, bit_xor}
use Rattle.std.specs.Int.{w8, rotate_right}

-- a byte, added to its turns to the right by four counts of places
abbrev pub turned : ℕ → ℕ → ℕ → ℕ → ℕ → ℕ
turned i j k l b =
    bit_xor (bit_xor (bit_xor (bit_xor b (rotate_right w8 b i)) (rotate_right w8 b j)) (rotate_right w8 b k)) (rotate_right w8 b l)
