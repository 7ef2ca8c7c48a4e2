use Rattle.std.proofs.Common.{refl}
use Rattle.ciphers.specs.Aes.{power}
use Rattle.ciphers.proofs.Schedule.{power_more}
use Rattle.ciphers.proofs.aes.power_of_x.Goals as goal

pub loop-init : goal.loop-init
unfolding power
loop-init c = refl

pub loop-preserved : goal.loop-preserved
loop-preserved c = let e = power_more c.loop.counter in cc
