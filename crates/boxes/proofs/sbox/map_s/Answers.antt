use Rattle.std.proofs.Common.{ℕ, ap, ◌∙◌, arith}
use lib.Bits.{bit_xor}
use Rattle.boxes.proofs.Maps.{turned_s}
use Rattle.boxes.proofs.sbox.map_s.Goals as goal

pub returns : goal.returns
returns c = ap (λ (x : ℕ). bit_xor x 0xd3) (c.turned.ensures ∙ turned_s c.args.b (omega arith))
