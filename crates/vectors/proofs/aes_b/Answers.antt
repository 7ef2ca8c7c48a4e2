use mathlib.Core.Path.{refl}
use Rattle.rings.specs.Poly.{mul_mod}
use Rattle.boxes.specs.Boxes.{inverse_mod, linear_a}
use Rattle.ciphers.specs.Aes.{sub_bytes, shift_rows, mix_columns, add_round_key, power, next_byte, expanded, key_expansion, rounds, cipher_a}
use Rattle.vectors.proofs.aes_b.Goals as goal

pub returns : goal.returns
unfolding mul_mod inverse_mod linear_a sub_bytes shift_rows mix_columns add_round_key power next_byte expanded key_expansion rounds cipher_a
returns c = refl
