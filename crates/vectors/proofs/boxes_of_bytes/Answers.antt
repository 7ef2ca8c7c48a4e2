use mathlib.Core.Path.{refl}
use Rattle.rings.specs.Poly.{mul_mod}
use Rattle.boxes.specs.Boxes.{inverse_mod, linear_a, linear_s}
use Rattle.vectors.proofs.boxes_of_bytes.Goals as goal

pub returns : goal.returns
unfolding mul_mod inverse_mod linear_a linear_s
returns c = refl
