-- Products with 2 and 3 modulo the polynomial 11B, as the code works them out. Assumes nothing.
use Rattle.std.proofs.Common.{◌≡◌, ℕ, ◌*◌, ◌/◌, ◌%◌, ◌^◌, ◌<◌, sym, ap}
use lib.Bits.{bit_xor, xor_zero_l}
use Rattle.rings.specs.Poly.{mul_mod}
use Rattle.boxes.proofs.Bytes.{same_on_bytes}

-- the shifted byte, with 1B where a bit is lost
abbrev pub doubled : ℕ → ℕ
doubled b = bit_xor (b * 2 ^ 1 % 2 ^ 8) (b / 2 ^ 7 * 0x1b)

pub product_2 : (b : ℕ) → b < 256 → doubled b ≡ mul_mod 8 0x11b 2 b
unfolding mul_mod
product_2 b h = same_on_bytes doubled (mul_mod 8 0x11b 2) tt b h

pub product_3 : (b : ℕ) → mul_mod 8 0x11b 3 b ≡ bit_xor b (mul_mod 8 0x11b 2 b)
unfolding mul_mod
product_3 b = ap (bit_xor b) (sym (xor_zero_l _))
