use Rattle.std.proofs.Common.{rules}
use Rattle.ciphers.specs.Sm4.{word_at}
use Rattle.ciphers.proofs.Made.{from_fn_all}
use Rattle.ciphers.proofs.sm4.read_keys.Goals as goal

pub returns : goal.returns
returns c = from_fn_all _ (λ i. word_at c.args.work.now i) _ (λ i y f' k. search rules) _ _ c.from_fn.ensures.items
