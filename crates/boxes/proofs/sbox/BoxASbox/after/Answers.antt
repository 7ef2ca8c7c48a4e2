use Rattle.std.proofs.Common.{ℕ, ap, ◌∙◌, arith}
use lib.Bits.{bit_xor}
use Rattle.boxes.proofs.Maps.{turned_a}
use Rattle.boxes.proofs.sbox.BoxASbox.after.Goals as goal

pub returns : goal.returns
returns c = ap (λ (x : ℕ). bit_xor x 0x63) (c.turned.ensures ∙ turned_a c.args.y (omega arith))
