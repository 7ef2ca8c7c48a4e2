use Rattle.rings.proofs.Powers13.{zero_product, power_product}
use Rattle.rings.proofs.powers.Nibble.product.Goals as goal

pub returns-then-a-eq0 : goal.returns-then-a-eq0
returns-then-a-eq0 c = zero_product c.args.self.now.bits c.args.other.now.bits c.args.self.now.below c.args.other.now.below c.then-a-eq0.either

pub returns : goal.returns
returns c =
    let e = power_product c.args.self.now.bits c.args.other.now.bits c.args.self.now.below c.args.other.now.below c.if-a-eq0.false c.if-b-eq0.false in
    cc
