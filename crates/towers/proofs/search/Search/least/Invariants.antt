use Rattle.std.proofs.Common.{◌*◌}
use Rattle.rings.specs.Poly.{mul_mod}
use Rattle.towers.specs.Search.{Least}
use Rattle.towers.proofs.search.Search.least.Given as goal

abbrev pub invariant-loop-r : goal.invariant-loop-r
invariant-loop-r l = Least l.self.powers l.self.coordinates (mul_mod 8 l.self.octic.modulus) (l.r * 256) l.best
