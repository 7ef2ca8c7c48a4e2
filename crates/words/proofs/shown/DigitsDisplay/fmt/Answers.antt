use Rattle.std.proofs.Common.{rules, arith}
use Rattle.words.specs.Shown.{digits_of}
use Rattle.words.proofs.Text.{written_more}
use Rattle.words.proofs.shown.DigitsDisplay.fmt.Goals as goal

pub loop-b-preserved : goal.loop-b-preserved
loop-b-preserved g c = λ p. written_more digits_of c.args.self.now.0.now c.loop-b.b-index (omega arith) (c.loop-b.invariant p) (search rules)
