use Rattle.std.proofs.Common.{◌/◌, ◌%◌, rules}
use Rattle.ciphers.specs.Aes.{shifted, shift_rows}
use Rattle.ciphers.proofs.Made.{from_fn_all}
use Rattle.ciphers.proofs.aes.shift_rows.Goals as goal

pub returns : goal.returns
unfolding shift_rows
returns c = from_fn_all _ (λ i. shifted c.args.s (i % 4) (i / 4)) _ (λ i y f' k. search rules) _ _ c.from_fn.ensures.items
