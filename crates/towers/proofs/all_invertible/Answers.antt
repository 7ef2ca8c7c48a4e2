use Rattle.std.proofs.Common.{arith}
use Rattle.towers.proofs.Fields.{one_more, not_field, a_field}
use Rattle.towers.proofs.all_invertible.Goals as goal

pub loop-a-preserved : goal.loop-a-preserved
loop-a-preserved g c =
    one_more g.R.Ring.WIDTH (g.R.Ring.mul c.args.ring.now) c.requires
    c.loop-a.a (omega arith) c.inverse.result c.inverse.ensures c.if-is_none.ensures c.loop-a.invariant

pub returns-then-is_none : goal.returns-then-is_none
returns-then-is_none g c =
    not_field g.R.Ring.WIDTH (g.R.Ring.mul c.args.ring.now) c.requires
    c.loop-a.a (omega arith) (omega arith) c.inverse.result c.inverse.ensures c.if-is_none.ensures

pub returns : goal.returns
returns g c =
    a_field g.R.Ring.WIDTH (g.R.Ring.mul c.args.ring.now) c.requires
    c.loop-a.a (omega arith) c.loop-a.invariant
