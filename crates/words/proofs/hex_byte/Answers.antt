use Rattle.std.proofs.Common.{◌∙◌, arith}
use Rattle.std.proofs.lemmas.Grind.{common_steps}
use Rattle.words.proofs.Digits.{byte_is}
use Rattle.words.proofs.hex_byte.Goals as goal

pub returns : goal.returns
returns c = let e = c.hex_number.ensures.value ∙ byte_is c.args.part.now in grind (arith, common_steps)
