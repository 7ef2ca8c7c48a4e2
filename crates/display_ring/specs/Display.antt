-- The display's ring, the pairing over the field of four with constant 2, and the pairs that a fit keeps over it.
-- Assumes nothing.
use Rattle.std.specs.Prelude.{ℕ, [], ◌∷◌}
use Rattle.rings.specs.Pairing.{pairing_mul}
use Rattle.rings.specs.Poly.{mul_mod}
use Rattle.towers.specs.declared.pair.Pair.{Pair}

-- the product of the pairing over the field of four with constant c
abbrev pub four_mul : ℕ → ℕ → ℕ → ℕ
four_mul c = pairing_mul 2 (mul_mod 2 7) c

-- the product of the display's ring
abbrev pub display_mul : ℕ → ℕ → ℕ
display_mul = four_mul 2

-- the numbers of the pair for the octic 11B
abbrev pub pair_11b : Pair
pair_11b = record {
  constant = 14;
  ones = 51;
  columns = 0x01 ∷ 0xbc ∷ 0x5c ∷ 0xb0 ∷ 0xa2 ∷ 0xba ∷ 0x02 ∷ 0x63 ∷ [];
  reverse = 0x01 ∷ 0x40 ∷ 0x62 ∷ 0x68 ∷ 0x58 ∷ 0x97 ∷ 0x56 ∷ 0xc7 ∷ [];
}

-- the numbers of the pair for the octic 1F5
abbrev pub pair_1f5 : Pair
pair_1f5 = record {
  constant = 11;
  ones = 49;
  columns = 0x01 ∷ 0x5c ∷ 0x0c ∷ 0x7a ∷ 0x98 ∷ 0xac ∷ 0x81 ∷ 0x04 ∷ [];
  reverse = 0x01 ∷ 0xef ∷ 0x80 ∷ 0x84 ∷ 0xd5 ∷ 0x65 ∷ 0xd3 ∷ 0x41 ∷ [];
}
