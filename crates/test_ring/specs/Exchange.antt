-- The field of ring 13 in another basis: the bits 1 and 3 of each code are exchanged. Assumes nothing.
use Rattle.std.specs.Prelude.{[], ◌∷◌, ℕ, get_or}
use Rattle.rings.specs.Poly.{mul_mod}

-- each code below 16 with its bits 1 and 3 exchanged
abbrev pub exchange : ℕ → ℕ
exchange a = get_or (0 ∷ 1 ∷ 8 ∷ 9 ∷ 4 ∷ 5 ∷ 12 ∷ 13 ∷ 2 ∷ 3 ∷ 10 ∷ 11 ∷ 6 ∷ 7 ∷ 14 ∷ 15 ∷ []) a 0

-- the product of ring 13 on the exchanged codes, exchanged again
unfoldable pub exchanged_mul : ℕ → ℕ → ℕ
exchanged_mul a b = exchange (mul_mod 4 0x13 (exchange a) (exchange b))
