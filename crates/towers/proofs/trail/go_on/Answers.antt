use Rattle.std.proofs.Common.{arith}
use Rattle.towers.specs.declared.trail.Trail.{Trail}
use Rattle.towers.specs.Trails.{Trails}
use Rattle.towers.proofs.Through.{through}
use Rattle.towers.proofs.Arrives.{arrives}
use Rattle.towers.proofs.trail.go_on.Goals as goal

pub returns : goal.returns
returns g c =
    let mul = g.R.Ring.mul c.args.ring.now in
    let t : Trail = record { code = c.args.code; inverse = c.tower_inverse-inverse.result; byte = c.combine.result } in
    let walks : Trails g.R.Ring.WIDTH mul c.args.pair.now c.args.byte t = record { code = c.requires; inverse = c.tower_inverse-inverse.ensures; byte = c.combine.ensures } in
    let laws = g.met.R.Ring.laws c.args.ring.now in
    let through = through g.R.Ring.WIDTH mul c.args.pair.now c.args.byte t laws (omega arith) (omega arith) walks in
    record {
      walks = walks;
      through = through;
      arrives = arrives g.R.Ring.WIDTH mul c.args.pair.now c.args.byte c.combine.result laws (omega arith) through;
    }
