use Rattle.std.proofs.Common.{arith}
use Rattle.std.proofs.lemmas.Grind.{common_steps}
use Rattle.runs.proofs.Entering.{fit_enters}
use Rattle.runs.proofs.perform.FitEntryPerform.perform.Goals as goal

pub returns : goal.returns
returns g c = fit_enters c.fit-answer.ensures.goes (grind (arith, common_steps))
