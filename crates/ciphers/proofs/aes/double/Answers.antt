use Rattle.std.proofs.Common.{arith}
use Rattle.ciphers.proofs.Doubling.{product_2}
use Rattle.ciphers.proofs.aes.double.Goals as goal

pub returns : goal.returns
returns c = product_2 c.args.b (omega arith)
