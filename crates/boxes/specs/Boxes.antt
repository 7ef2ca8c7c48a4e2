-- The boxes of the two ciphers: an inverse in an octic's ring and affine maps of bits. Bit 0 is the lowest. Assumes nothing.
use Rattle.std.specs.Prelude.{ℕ, ◌+◌, ◌-◌, ◌*◌, ◌/◌, ◌%◌, ◌^◌, Bool, cond, List, [], ◌∷◌, map, bit_xor, nat_eq, slice_index}
use Rattle.std.specs.List.{range_with_len}
use Rattle.rings.specs.Poly.{mul_mod}

-- the first of some numbers that passes a test, or 0
abbrev pub first : (ℕ → Bool) → List ℕ → ℕ
first p [] = 0
first p (x ∷ xs) = cond (p x) x (first p xs)

-- the byte whose product with a is 1 modulo the octic m, or 0 where there is none
unfoldable pub inverse_mod : ℕ → ℕ → ℕ
inverse_mod m a = first (λ b. nat_eq (mul_mod 8 m a b) 1) (range_with_len 0 256)

-- bit i of a number
abbrev pub bit : ℕ → ℕ → ℕ
bit x i = x / 2 ^ i % 2

-- the exclusive or of some numbers
abbrev pub xor_all : List ℕ → ℕ
xor_all [] = 0
xor_all (x ∷ xs) = bit_xor x (xor_all xs)

-- the byte whose bit i is f i
abbrev pub of_bits : (ℕ → ℕ) → ℕ
of_bits f = xor_all (map (λ i. f i * 2 ^ i) (range_with_len 0 8))

-- box A's sums: bit i is that of the bits i, i + 4, i + 5, i + 6 and i + 7, modulo 8
unfoldable pub linear_a : ℕ → ℕ
linear_a b =
    of_bits (λ i. xor_all (bit b i ∷ bit b ((i + 4) % 8) ∷ bit b ((i + 5) % 8) ∷ bit b ((i + 6) % 8) ∷ bit b ((i + 7) % 8) ∷ []))

-- box A's map: the sums, and bit for bit the constant 63
abbrev pub affine_a : ℕ → ℕ
affine_a b = bit_xor (linear_a b) 0x63

-- box A: the map after the inverse modulo 11B
abbrev pub box_a : ℕ → ℕ
box_a x = affine_a (inverse_mod 0x11b x)

-- row 0 of box S's map, its first entry for bit 0
abbrev pub row_s : List ℕ
row_s = 1 ∷ 1 ∷ 1 ∷ 0 ∷ 0 ∷ 1 ∷ 0 ∷ 1 ∷ []

-- entry j of row i, which is row 0 turned i places to the right
abbrev pub entry_s : ℕ → ℕ → ℕ
entry_s i j = slice_index row_s ((j + (8 - i)) % 8)

-- box S's sums: bit i is that of the bits that row i marks
unfoldable pub linear_s : ℕ → ℕ
linear_s b = of_bits (λ i. xor_all (map (λ j. entry_s i j * bit b j) (range_with_len 0 8)))

-- box S's map: the sums, and bit for bit the constant D3
abbrev pub affine_s : ℕ → ℕ
affine_s b = bit_xor (linear_s b) 0xd3

-- box S: the map before and after the inverse modulo 1F5
abbrev pub box_s : ℕ → ℕ
box_s x = affine_s (inverse_mod 0x1f5 (affine_s x))
