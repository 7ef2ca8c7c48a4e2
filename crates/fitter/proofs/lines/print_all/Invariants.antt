use Rattle.std.proofs.Common.{◌-◌, length}
use Rattle.fitter.proofs.lines.print_all.Given as goal

abbrev pub decreases-loop-ring : goal.decreases-loop-ring
decreases-loop-ring g l = length l.reader.text.now - l.reader.at
