use Rattle.ciphers.specs.Counter.{counter_block}
use Rattle.ciphers.proofs.counter.work_sector.Goals as goal

pub returns : goal.returns
returns g c = c.work.ensures (counter_block c.args.name c.args.number) (λ i y h p. p)
