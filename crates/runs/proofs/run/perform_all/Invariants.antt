use Rattle.std.proofs.Common.{map, take, vec_items}
use Rattle.watch.specs.Watched.{kind, world}
use Rattle.runs.specs.Printed.{Extended}
use Rattle.runs.proofs.run.perform_all.Given as goal

abbrev pub invariant-loop-e : goal.invariant-loop-e
invariant-loop-e g l =
    Extended (world (kind g.X.Ring.WIDTH g.X.Ring.mul) (kind g.Y.Ring.WIDTH g.Y.Ring.mul) l.initial.ends) (map g.E.Perform.item (take l.e-index l.entries))
    (vec_items l.initial.lines) (vec_items l.lines) (world (kind g.X.Ring.WIDTH g.X.Ring.mul) (kind g.Y.Ring.WIDTH g.Y.Ring.mul) l.ends)
