use Rattle.std.proofs.Common.{◌≡◌}
use Rattle.ciphers.specs.Aes.{power}
use Rattle.ciphers.proofs.aes.power_of_x.Given as goal

abbrev pub invariant-loop : goal.invariant-loop
invariant-loop l = l.r ≡ power l.counter
