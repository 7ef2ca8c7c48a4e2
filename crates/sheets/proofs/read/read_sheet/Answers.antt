use Rattle.sheets.proofs.Judging.{judged}
use Rattle.sheets.proofs.read.read_sheet.Goals as goal

pub returns-clause-judged : goal.returns-clause-judged
returns-clause-judged c = judged c.args.sheet.now
