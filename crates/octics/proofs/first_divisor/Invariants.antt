use Rattle.std.proofs.Common.{◌≡◌, ◌^◌, None}
use Rattle.octics.specs.Division.{NoneBelow}
use Rattle.octics.proofs.first_divisor.Given as goal

abbrev pub invariant-divisors : goal.invariant-divisors
invariant-divisors l = (l.found ≡ None) × NoneBelow l.divisor l.octic

abbrev pub invariant-degrees : goal.invariant-degrees
invariant-degrees l = (l.found ≡ None) × NoneBelow (2 ^ l.degree) l.octic
