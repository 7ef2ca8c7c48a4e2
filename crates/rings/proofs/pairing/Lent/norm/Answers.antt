use Rattle.std.proofs.Common.{◌<◌, ◌≤◌, sym, ◌∙◌, inr, lt_of_lt_of_le, mod-eq_of_lt, arith, pow_mono, rules}
use Rattle.rings.specs.PairCode.{norm_same, normed}
use Rattle.rings.proofs.pairing.Lent.norm.Goals as goal

pub returns-in-None : goal.returns-in-None
returns-in-None g c =
    let w = g.R.Ring.WIDTH in
    let mul = g.R.Ring.mul c.args.self.now.below.now in
    let k = c.args.self.now.constant in
    let narrow = g.met.R.Ring.narrow in
    let from : 8 ≤ w = omega arith in
    let byte : c.args.a < 256 = omega arith in
    let own =
    normed w mul k narrow c.args.a 1 c.args.a (g.met.R.Ring.laws c.args.self.now.below.now) (inr from)
    (sym (mod-eq_of_lt (lt_of_lt_of_le byte (pow_mono from))) ∙ norm_same w mul k narrow c.args.a from) in
    search rules
