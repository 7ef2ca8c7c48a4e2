use Rattle.std.proofs.Common.{rules, arith, true}
use Rattle.std.proofs.lemmas.Fmt.{hex_byte}
use Rattle.std.proofs.Output.{has_written_of_eq}
use Rattle.words.proofs.shown.ByteDisplay.fmt.Goals as goal

pub returns-clause-writes : goal.returns-clause-writes
returns-clause-writes g c = λ p ok. has_written_of_eq _ _ _ _ _ (hex_byte true c.args.self.now.0 (omega arith)) (search rules)
