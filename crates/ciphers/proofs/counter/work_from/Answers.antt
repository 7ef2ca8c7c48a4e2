use Rattle.ciphers.specs.Counter.{counted_block}
use Rattle.ciphers.proofs.counter.work_from.Goals as goal

pub returns : goal.returns
returns g c = c.work.ensures (counted_block c.args.first) (λ i y h p. p)
