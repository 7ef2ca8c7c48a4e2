use Rattle.std.proofs.Common.{◌≡◌}
use Rattle.octics.specs.Division.{rest_from, remainder}
use Rattle.octics.proofs.rest_of.Given as goal

abbrev pub invariant-loop-i : goal.invariant-loop-i
invariant-loop-i l = rest_from l.degree l.divisor l.i l.rest ≡ remainder l.degree l.divisor l.octic
