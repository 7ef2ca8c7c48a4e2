use Rattle.std.proofs.Common.{◌≡◌, ℕ, ◌%◌, ◌^◌, ◌≤◌, sym, ap, ◌∙◌, subst₂, arith}
use Rattle.rings.specs.Pairing.{pairing_bits, pairing_mul}
use Rattle.rings.specs.PairCode.{pair_mul_low, product_halved, product_same}
use Rattle.rings.proofs.pairing.Lent.product.Goals as goal

pub returns-in-Some : goal.returns-in-Some
returns-in-Some g c =
    let w = g.R.Ring.WIDTH in
    let h = c.in-Some.halves in
    let mul = g.R.Ring.mul h.below.now in
    let halved =
    c.product.ensures ∙ sym (pair_mul_low w mul h.constant c.args.a c.args.b)
    ∙ product_halved w mul h.constant g.met.R.Ring.narrow c.args.a c.args.b h.narrow in
    subst₂ (λ (m : ℕ → ℕ → ℕ) (k : ℕ). c.product.result ≡ pairing_mul w m k (c.args.a % 2 ^ pairing_bits w) (c.args.b % 2 ^ pairing_bits w))
    (ap g.R.Ring.mul c.in-Some.ensures.0) c.in-Some.ensures.1 halved

pub returns-in-None : goal.returns-in-None
returns-in-None g c =
    let w = g.R.Ring.WIDTH in
    let from : 8 ≤ w = omega arith in
    let e = product_same w (g.R.Ring.mul c.args.self.now.below.now) c.args.self.now.constant g.met.R.Ring.narrow c.args.a c.args.b from in
    cc
