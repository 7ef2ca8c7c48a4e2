use Rattle.std.proofs.Common.{subst, sym, arith}
use Rattle.towers.specs.Search.{Precedes}
use Rattle.towers.specs.Tests.{Whether}
use Rattle.towers.proofs.Compare.{before_tests}
use Rattle.towers.proofs.pair.Pair.precedes.Goals as goal

pub returns : goal.returns
returns c =
    let p = c.args.self.now in
    let q = c.args.other.now in
    subst (Whether (Precedes p q)) (sym c.lt.ensures) (before_tests p.ones p.constant p.columns q.ones q.constant q.columns (omega arith))
