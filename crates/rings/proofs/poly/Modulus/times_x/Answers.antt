use Rattle.std.proofs.Common.{◌*◌, sym, ap, ◌∙◌}
use lib.Bits.{bit_xor, xor_zero_r}
use Rattle.rings.proofs.Horner.{picked, skipped}
use Rattle.rings.proofs.poly.Modulus.times_x.Goals as goal

pub returns-then-t-eq1 : goal.returns-then-t-eq1
returns-then-t-eq1 g c = ap (bit_xor (c.args.v * 2)) (sym (picked _ c.args.self.now.bits c.if-t-eq1.true))

pub returns-else-t-eq1 : goal.returns-else-t-eq1
returns-else-t-eq1 g c =
    sym (ap (bit_xor (c.args.v * 2)) (skipped _ c.args.self.now.bits c.if-t-eq1.false) ∙ xor_zero_r (c.args.v * 2))
