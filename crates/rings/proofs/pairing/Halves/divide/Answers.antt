use Rattle.std.proofs.Common.{arith}
use Rattle.rings.specs.PairCode.{code_below, narrow_half}
use Rattle.rings.proofs.pairing.Halves.divide.Goals as goal

pub join-requires : goal.join-requires
join-requires g c =
    let laws = g.met.R.Ring.laws c.args.self.now.below.now in
    let e = c.WIDTH-w.ensures in
    record {
      narrow = omega (arith, narrow_half g.R.Ring.WIDTH g.met.R.Ring.narrow c.args.self.now.narrow);
      high = code_below _ _ laws e c.product-high.ensures;
      low = code_below _ _ laws e c.product-low.ensures;
    }
