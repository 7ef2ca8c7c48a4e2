use Rattle.runs.proofs.Extending.{extended_none, extended_more, extended_all}
use Rattle.runs.proofs.run.perform_all.Goals as goal

pub loop-e-init : goal.loop-e-init
loop-e-init g c = extended_none _ _

pub loop-e-preserved : goal.loop-e-preserved
loop-e-preserved g c =
    extended_more g.E.Perform.item c.args.entries.now c.loop-e.e-index c.e-item.result c.loop-e-test.true c.e-item.is
    c.loop-e.invariant c.in_ok-line.ensures c.in_ok-push.ensures.items

pub returns : goal.returns
returns g c = extended_all g.E.Perform.item c.args.entries.now c.loop-e.e-index c.loop-e-test.false c.loop-e.invariant
