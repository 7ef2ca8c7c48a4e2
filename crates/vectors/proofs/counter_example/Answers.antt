use mathlib.Core.Path.{◌≡◌, refl}
use Rattle.rings.specs.Poly.{mul_mod}
use Rattle.boxes.specs.Boxes.{inverse_mod, linear_a}
use Rattle.ciphers.specs.Aes.{sub_bytes, shift_rows, mix_columns, add_round_key, power, next_byte, expanded, key_expansion, rounds, cipher_a}
use Rattle.ciphers.specs.Counter.{big_endian, padded}
use Rattle.vectors.specs.Vectors.{aes}
use Rattle.vectors.proofs.counter_example.Goals as goal

-- the output blocks that the standard prints
first : aes 0x2b7e151628aed2a6abf7158809cf4f3c 0xf0f1f2f3f4f5f6f7f8f9fafbfcfdfeff ≡ big_endian 16 0xec8cdf7398607cb0f2d21675ea9ea1e4
unfolding mul_mod inverse_mod linear_a sub_bytes shift_rows mix_columns add_round_key power next_byte expanded key_expansion rounds cipher_a
first = refl

second : aes 0x2b7e151628aed2a6abf7158809cf4f3c 0xf0f1f2f3f4f5f6f7f8f9fafbfcfdff00 ≡ big_endian 16 0x362b7c3c6773516318a077d7fc5073ae
unfolding mul_mod inverse_mod linear_a sub_bytes shift_rows mix_columns add_round_key power next_byte expanded key_expansion rounds cipher_a
second = refl

pub returns : goal.returns
unfolding padded
returns c = rw (first, second)
