-- The moduli of the rings of width 4 are of degree 4. Assumes nothing.
use Rattle.std.specs.Prelude.{◌≡◌, ◌/◌, refl}
use Rattle.rings.specs.Moduli.{modulus_of}
use Rattle.rings.specs.declared.poly.Quartic.{Quartic}
use Rattle.rings.specs.declared.poly.Quartic.TheVariants.{Ring13, Ring19, Ring1F}

pub of_degree : (r : Quartic) → modulus_of r / 16 ≡ 1
of_degree Ring13 = refl
of_degree Ring19 = refl
of_degree Ring1F = refl
