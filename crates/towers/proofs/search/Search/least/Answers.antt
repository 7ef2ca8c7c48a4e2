use Rattle.towers.proofs.Steps.{begins}
use Rattle.towers.proofs.search.Search.least.Goals as goal

pub loop-r-init : goal.loop-r-init
loop-r-init c = begins _ _ _
