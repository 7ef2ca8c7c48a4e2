use Rattle.std.proofs.Common.{arith}
use lib.Bits.{xor_lt}
use Rattle.rings.specs.PairCode.{code_below, narrow_half}
use Rattle.rings.proofs.pairing.Halves.product.Goals as goal

pub join-requires : goal.join-requires
join-requires g c =
    let laws = g.met.R.Ring.laws c.args.self.now.below.now in
    let e = c.WIDTH-w.ensures in
    record {
      narrow = omega (arith, narrow_half g.R.Ring.WIDTH g.met.R.Ring.narrow c.args.self.now.narrow);
      high = xor_lt _ _ _ (xor_lt _ _ _ (code_below _ _ laws e c.product-top.ensures) (code_below _ _ laws e c.product-left.ensures)) (code_below _ _ laws e c.product-right.ensures);
      low = xor_lt _ _ _ (code_below _ _ laws e c.product-bottom.ensures) (code_below _ _ laws e c.product-carry.ensures);
    }
