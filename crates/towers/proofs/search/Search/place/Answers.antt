use Rattle.rings.specs.Poly.{mul_mod}
use Rattle.std.proofs.Common.{◌<◌, arith}
use Rattle.towers.proofs.Steps.{passes, takes}
use Rattle.towers.proofs.search.Search.place.Goals as goal

pub returns-in-Some : goal.returns-in-Some
returns-in-Some c =
    takes c.args.self.now.powers c.args.self.now.coordinates (mul_mod 8 c.args.self.now.octic.modulus)
    c.args.r c.args.y c.args.best c.in-Some.found c.earlier.result c.in-Some.ensures c.earlier.ensures c.requires.least

pub returns-in-None : goal.returns-in-None
returns-in-None c =
    let hy : c.args.y < 256 = omega arith in
    passes c.args.self.now.powers c.args.self.now.coordinates (mul_mod 8 c.args.self.now.octic.modulus)
    c.args.r c.args.y c.args.best c.in-None.ensures hy c.requires.least
