use Rattle.std.proofs.Common.{◌≡◌}
use Rattle.boxes.specs.Boxes.{box_s}
use Rattle.ciphers.specs.Keys.{cipher_of}
use Rattle.sm4_million.specs.Stored.{iterated}
use Rattle.sm4_million.proofs.repeated.Given as goal

abbrev pub invariant-loop : goal.invariant-loop
invariant-loop l = l.last ≡ iterated (cipher_of box_s l.keys) l.counter l.initial.last
