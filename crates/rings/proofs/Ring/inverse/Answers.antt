use Rattle.std.proofs.Common.{◌≡◌, ◌%◌, ◌^◌, ◌<◌, mod-lt, pow_pos, rules}
use Rattle.rings.specs.Commuting.{the_inverse}
use Rattle.rings.proofs.Ring.inverse.Goals as goal

pub returns-then-product-eq1 : goal.returns-then-product-eq1
returns-then-product-eq1 g c =
    let s = g.Self.Ring in
    let self = c.args.self.now in
    let code : c.loop-b.b < 2 ^ s.WIDTH = search rules in
    let e : s.mul self (c.args.a % 2 ^ s.WIDTH) c.loop-b.b ≡ 1 = search rules in
    the_inverse s.WIDTH 1 (s.mul self) (g.met.Self.Ring.laws self) _ _ (mod-lt _ (pow_pos s.WIDTH)) code e
