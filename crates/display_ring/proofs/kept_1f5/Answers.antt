use Rattle.display_ring.proofs.DisplayPairs.{kept_1f5}
use Rattle.display_ring.proofs.kept_1f5.Goals as goal

pub returns : goal.returns
returns c = kept_1f5
