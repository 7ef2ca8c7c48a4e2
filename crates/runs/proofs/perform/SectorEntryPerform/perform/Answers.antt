use Rattle.runs.proofs.Entering.{sector_enters}
use Rattle.runs.proofs.perform.SectorEntryPerform.perform.Goals as goal

pub returns : goal.returns
returns g c = sector_enters c.deref-2.ensures.value c.carry-answer.ensures
