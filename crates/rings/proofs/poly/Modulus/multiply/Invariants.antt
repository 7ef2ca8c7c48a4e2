use Rattle.std.proofs.Common.{◌≡◌, ◌-◌, ◌/◌, ◌^◌}
use Rattle.rings.specs.Poly.{act, times_x}
use Rattle.rings.proofs.poly.Modulus.multiply.Given as goal

abbrev pub invariant-loop-i : goal.invariant-loop-i
invariant-loop-i g l = l.r ≡ act (times_x g.row.W l.self.bits) (g.row.W - l.i) (l.a / 2 ^ l.i) l.b
