use Rattle.std.proofs.Common.{◌≡◌, ℕ, ◌+◌, List, refl, add-one, arith}
use Rattle.boxes.specs.Boxes.{box_s}
use Rattle.ciphers.specs.Keys.{cipher_of}
use Rattle.sm4_million.specs.Stored.{iterated}
use Rattle.sm4_million.proofs.repeated.Goals as goal

iterated_more : (f : List ℕ → List ℕ) (n : ℕ) (x : List ℕ) → iterated f (n + 1) x ≡ f (iterated f n x)
unfolding iterated
iterated_more f n x = rw add-one

pub loop-init : goal.loop-init
unfolding iterated
loop-init c = refl

pub loop-preserved : goal.loop-preserved
loop-preserved c = let e = iterated_more (cipher_of box_s c.args.keys.now) c.loop.counter c.args.block in cc

pub returns : goal.returns
returns c = let e : c.loop.counter ≡ c.args.times = omega arith in cc
