use Rattle.std.proofs.Common.{◌≡◌, ◌+◌, ◌%◌, ◌^◌, ◌∙◌, inl}
use Rattle.rings.specs.Pairing.{norm}
use Rattle.rings.specs.PairCode.{norm_low, norm_halved, normed}
use Rattle.rings.proofs.pairing.Halves.norm.Goals as goal

pub returns : goal.returns
returns g c =
    let w = g.R.Ring.WIDTH in
    let mul = g.R.Ring.mul c.args.self.now.below.now in
    let narrow = g.met.R.Ring.narrow in
    let e : c.norm_form.result ≡ norm w mul c.args.self.now.constant (c.args.a % 2 ^ (w + w)) =
    let n = norm_low w mul c.args.self.now.constant c.args.a in cc in
    record {
      halves = e;
      normed =
          normed w mul c.args.self.now.constant narrow c.args.a 1 _ (g.met.R.Ring.laws c.args.self.now.below.now) (inl c.args.self.now.narrow)
          (e ∙ norm_halved w mul c.args.self.now.constant narrow c.args.a c.args.self.now.narrow);
    }
