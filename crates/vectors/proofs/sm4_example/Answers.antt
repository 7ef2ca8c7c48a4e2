use mathlib.Core.Path.{refl}
use Rattle.rings.specs.Poly.{mul_mod}
use Rattle.boxes.specs.Boxes.{inverse_mod, linear_s}
use Rattle.ciphers.specs.Sm4.{tau, linear, linear_key, round_keys, schedule_s, rounds_s, cipher_s}
use Rattle.vectors.proofs.sm4_example.Goals as goal

pub returns : goal.returns
unfolding mul_mod inverse_mod linear_s tau linear linear_key round_keys schedule_s rounds_s cipher_s
returns c = refl
