use Rattle.std.proofs.Common.{◌≡◌}
use Rattle.sheets.specs.Steps.{left, listed}
use Rattle.sheets.proofs.Times.{SoFar}
use Rattle.sheets.proofs.sections.entries_of.Given as goal

abbrev pub invariant-loop : goal.invariant-loop
invariant-loop g l =
    (l.reader.end ≡ l.initial.reader.end)
    × SoFar (g.E.Entry.form l.initial.reader.end) l.count (left l.initial.reader) l.counter (listed g.E.Entry.item l.entries) (left l.reader)
