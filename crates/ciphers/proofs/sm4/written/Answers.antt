use Rattle.std.proofs.Common.{◌-◌, ◌/◌, ◌%◌, get_or, rules}
use Rattle.ciphers.specs.Sm4.{four_bytes}
use Rattle.ciphers.proofs.Made.{from_fn_all}
use Rattle.ciphers.proofs.sm4.written.Goals as goal

pub returns : goal.returns
returns c = from_fn_all _ (λ i. get_or (four_bytes (get_or c.args.x (3 - i / 4) 0)) (i % 4) 0) _ (λ i y f' k. search rules) _ 16 c.from_fn.ensures.items
