use Rattle.std.proofs.Common.{arith}
use Rattle.ciphers.proofs.Padding.{start, one_more, covers_all}
use Rattle.ciphers.proofs.counter.cover.Goals as goal

pub loop-k-init : goal.loop-k-init
loop-k-init c = start _ _

pub loop-k-preserved : goal.loop-k-preserved
loop-k-preserved c = one_more _ c.loop-k.bytes c.loop-k.k _ (omega arith) c.loop-k.invariant

pub returns : goal.returns
returns c = covers_all _ _ c.loop-k.k _ (omega arith) (omega arith) c.loop-k.invariant
