use Rattle.std.proofs.Common.{◌∙◌, arith}
use Rattle.std.proofs.lemmas.Grind.{common_steps}
use Rattle.words.proofs.Digits.{triple_is}
use Rattle.words.proofs.hex_triple.Goals as goal

pub returns : goal.returns
returns c = let e = c.hex_number.ensures.value ∙ triple_is c.args.part.now in grind (arith, common_steps)
