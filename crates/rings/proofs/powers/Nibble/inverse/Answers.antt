use Rattle.std.proofs.Common.{◌≡◌, ◌-◌, ◌%◌, get_or, sym, subst}
use Rattle.rings.specs.Laws.{Inverse}
use Rattle.rings.specs.Poly.{mul_mod}
use Rattle.rings.specs.Powers.{powers, logs}
use Rattle.rings.proofs.Powers13.{power_inverse, no_inverse_of_0}
use Rattle.rings.proofs.powers.Nibble.inverse.Goals as goal

pub returns-then-self-eq0 : goal.returns-then-self-eq0
returns-then-self-eq0 c = no_inverse_of_0 c.args.self.now.bits c.if-self-eq0.true

pub returns : goal.returns
returns c =
    let e : c.stored_power.result ≡ get_or powers ((15 - get_or logs c.args.self.now.bits 0) % 15) 0 = cc in
    subst (Inverse 4 1 (mul_mod 4 0x13) c.args.self.now.bits) (sym e) (power_inverse c.args.self.now.bits c.args.self.now.below c.if-self-eq0.false)
