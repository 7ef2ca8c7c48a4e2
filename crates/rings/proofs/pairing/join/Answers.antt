use Rattle.std.proofs.Common.{ℕ, ap, ◌∙◌, arith, shl_exact}
use lib.Bits.{bit_or, or_shifted}
use Rattle.rings.proofs.pairing.join.Goals as goal

pub returns : goal.returns
returns c =
    let w = c.args.w in
    ap (λ (x : ℕ). bit_or x c.args.low) (shl_exact w w 8 c.requires.high (omega (arith, c.requires.narrow)))
    ∙ or_shifted c.args.high w c.args.low c.requires.low
