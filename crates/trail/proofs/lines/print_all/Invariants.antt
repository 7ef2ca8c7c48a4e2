use Rattle.std.proofs.Common.{◌-◌, length}
use Rattle.trail.proofs.lines.print_all.Given as goal

abbrev pub decreases-loop-word : goal.decreases-loop-word
decreases-loop-word g l = length l.reader.text.now - l.reader.at
