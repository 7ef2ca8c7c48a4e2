use Rattle.std.proofs.Common.{ℕ, subst}
use Rattle.towers.specs.Trails.{Trails, Through}
use Rattle.towers.proofs.Boxing.{boxing}
use Rattle.towers.proofs.boxed.box_byte.Goals as goal

pub returns : goal.returns
returns g c =
    let w = g.R.Ring.WIDTH in
    let mul = g.R.Ring.mul c.args.ring.now in
    let p = c.args.pair.now in
    let t = c.trail_of-trail.result in
    boxing g.B.Sbox.OCTIC g.B.Sbox.before g.B.Sbox.after w mul p c.args.x _ t g.met.B.Sbox.degree
    (subst (λ (y : ℕ). Trails w mul p y t) c.before-mapped.ensures c.trail_of-trail.ensures.walks)
    (subst (λ (y : ℕ). Through w mul p y t.byte) c.before-mapped.ensures c.trail_of-trail.ensures.through) c.after.ensures
