use Rattle.std.proofs.Common.{◌%◌, ◌^◌, ◌≤◌, arith}
use Rattle.rings.specs.Laws.{Inverts}
use Rattle.rings.specs.PairCode.{at_same}
use Rattle.rings.proofs.pairing.Lent.inverse.Goals as goal

pub returns-in-None : goal.returns-in-None
returns-in-None g c =
    let w = g.R.Ring.WIDTH in
    let mul = g.R.Ring.mul c.args.self.now.below.now in
    let d = c.args.self.now.constant in
    let narrow = g.met.R.Ring.narrow in
    let from : 8 ≤ w = omega arith in
    let r = c.inverse-in-None.result in
    record {
      inverse = at_same w mul d narrow c.args.a (λ v f. Inverts v 1 f (c.args.a % 2 ^ v) r) from c.inverse-in-None.ensures;
      halves = record {
        by_halves = λ h. absurd (omega arith);
        same = λ h. at_same w mul d narrow c.args.a (λ v f. Inverts w 1 mul (c.args.a % 2 ^ v) r) h c.inverse-in-None.ensures;
      };
    }
