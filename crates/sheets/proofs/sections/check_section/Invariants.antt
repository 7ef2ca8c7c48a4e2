use Rattle.std.proofs.Common.{◌≡◌, ◌-◌}
use Rattle.sheets.specs.Checks.{bare}
use Rattle.sheets.specs.Readings.{times}
use Rattle.sheets.specs.Steps.{ahead}
use Rattle.sheets.proofs.sections.check_section.Given as goal

abbrev pub invariant-loop : goal.invariant-loop
invariant-loop g l =
    bare (times l.count (g.E.Entry.form l.end) (ahead l.initial.words)) ≡ bare (times (l.count - l.counter) (g.E.Entry.form l.end) (ahead l.words))
