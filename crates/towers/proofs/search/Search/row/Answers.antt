use Rattle.rings.specs.Poly.{mul_mod}
use Rattle.towers.proofs.Steps.{skips}
use Rattle.towers.proofs.search.Search.row.Goals as goal

pub returns-then-not-is_root : goal.returns-then-not-is_root
returns-then-not-is_root c =
    skips c.args.self.now.powers c.args.self.now.coordinates (mul_mod 8 c.args.self.now.octic.modulus)
    c.args.r c.args.start c.if-not-is_root.ensures c.requires
