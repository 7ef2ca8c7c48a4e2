-- The moduli of the rings of width 4: z⁴ + z + 1, z⁴ + z³ + 1 and z⁴ + z³ + z² + z + 1. Assumes nothing.
use Rattle.std.specs.Prelude.{ℕ}
use Rattle.rings.specs.declared.poly.Quartic.{Quartic}
use Rattle.rings.specs.declared.poly.Quartic.TheVariants.{Ring13, Ring19, Ring1F}

abbrev pub modulus_of : Quartic → ℕ
modulus_of Ring13 = 0x13
modulus_of Ring19 = 0x19
modulus_of Ring1F = 0x1f
