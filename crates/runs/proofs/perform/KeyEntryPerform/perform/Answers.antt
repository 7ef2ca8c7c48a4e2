use Rattle.std.proofs.Common.{lit≤}
use Rattle.runs.proofs.Entering.{key_enters}
use Rattle.runs.proofs.perform.KeyEntryPerform.perform.Goals as goal

pub returns : goal.returns
returns g c = key_enters c.into.ensures (lit≤ tt) c.key-answer.ensures.goes
