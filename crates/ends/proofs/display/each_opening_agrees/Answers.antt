use Rattle.ends.proofs.AsEnd.{as_end}
use Rattle.ends.proofs.display.each_opening_agrees.Goals as goal

pub returns : goal.returns
returns c = as_end
