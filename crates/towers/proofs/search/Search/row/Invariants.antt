use Rattle.std.proofs.Common.{◌+◌, ◌*◌}
use Rattle.rings.specs.Poly.{mul_mod}
use Rattle.towers.specs.Search.{Least}
use Rattle.towers.proofs.search.Search.row.Given as goal

abbrev pub invariant-loop-y : goal.invariant-loop-y
invariant-loop-y l = Least l.self.powers l.self.coordinates (mul_mod 8 l.self.octic.modulus) (l.r * 256 + l.y) l.best
