use Rattle.std.proofs.Common.{ℕ, [], ◌∷◌}
use Rattle.towers.proofs.Steps.{square_is, cube_is}
use Rattle.towers.proofs.search.powers.Goals as goal

pub returns : goal.returns
returns g c i =
    let w : ℕ = g.R.Ring.WIDTH in
    1 ∷ c.args.g
    ∷ square_is w (g.R.Ring.mul c.args.ring.now) (g.met.R.Ring.laws c.args.ring.now) c.args.g c.product-square.result 0 c.requires c.product-square.ensures i
    ∷ cube_is w (g.R.Ring.mul c.args.ring.now) (g.met.R.Ring.laws c.args.ring.now) c.args.g c.product-square.result c.product.result c.requires c.product-square.ensures c.product.ensures i
    ∷ []
