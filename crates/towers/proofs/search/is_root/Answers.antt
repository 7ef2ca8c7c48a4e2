use Rattle.towers.proofs.Steps.{root_decided}
use Rattle.towers.proofs.search.is_root.Goals as goal

pub returns : goal.returns
returns g c =
    root_decided g.R.Ring.WIDTH (g.R.Ring.mul c.args.ring.now) (g.met.R.Ring.laws c.args.ring.now)
    c.args.g c.product-square.result c.product.result c.requires c.product-square.ensures c.product.ensures
