use Rattle.std.proofs.Common.{◌≡◌, ◌∙◌, arith}
use Rattle.ciphers.specs.Counter.{counter_block}
use Rattle.ciphers.proofs.CounterBlocks.{counter_block_tells}
use Rattle.ciphers.proofs.counter.counter_block.Goals as goal

value : (c : goal.After-lay_out) → c.lay_out.result ≡ counter_block c.args.name c.args.number c.args.index
unfolding counter_block
value c = c.lay_out.ensures

pub returns : goal.returns
returns c = record {
  value = value c;
  tells =
      λ n m i hn hm hi e.
      counter_block_tells c.args.name c.args.number c.args.index (omega arith) (omega arith) (omega arith) n m i hn hm hi (e ∙ value c);
}
