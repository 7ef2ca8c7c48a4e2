use Rattle.display_ring.proofs.DisplayPairs.{kept_11b}
use Rattle.display_ring.proofs.kept_11b.Goals as goal

pub returns : goal.returns
returns c = kept_11b
