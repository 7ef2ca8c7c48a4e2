use Rattle.std.proofs.Common.{◌≡◌, ◌%◌, arith}
use Rattle.boxes.proofs.Inverses.{inverse_answers}
use Rattle.boxes.proofs.direct.inverse.Goals as goal

pub returns : goal.returns
returns g c =
    let degree = g.met.B.Sbox.degree in
    let octic : c.new.result.modulus ≡ g.B.Sbox.OCTIC = omega arith in
    let byte : c.args.x % 256 ≡ c.args.x = omega arith in
    let e = inverse_answers c.new.result.modulus (c.args.x % 256) c.inverse.result c.inverse.ensures in
    cc
