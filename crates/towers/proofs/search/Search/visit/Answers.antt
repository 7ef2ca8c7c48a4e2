use Rattle.std.proofs.Common.{◌≡◌, ℕ, ◌<◌, sym, ap, ◌∙◌, subst, arith}
use lib.Bits.{bit_xor}
use Rattle.rings.specs.Poly.{mul_mod}
use Rattle.towers.specs.Matrices.{apply}
use Rattle.towers.specs.Place.{Visited}
use Rattle.towers.proofs.Steps.{taken, unserved, candidate}
use Rattle.towers.proofs.search.Search.visit.Goals as goal

pub returns-then-is_some : goal.returns-then-is_some
returns-then-is_some c =
    taken (mul_mod 8 c.args.self.now.octic.modulus) c.args.r c.args.y c.powers-powers.result c.powers-powers.ensures
    c.solve.result c.solve.ensures (sym c.if-is_some.ensures)

pub returns : goal.returns
returns c =
    let hr : c.args.r < 256 = omega arith in
    let hy : c.args.y < 256 = omega arith in
    candidate (mul_mod 8 c.args.self.now.octic.modulus) c.args.r c.args.y c.powers-powers.result c.powers-powers.ensures
    c.args.self.now.powers c.args.self.now.coordinates hr hy c.requires c.solve.result c.solve.ensures (sym c.if-is_some.ensures)
    c.in_ok-u.u c.in_ok-u.ensures.0 (c.in_ok-u.ensures.1 ∙ ap (λ (s : ℕ). bit_xor s c.args.y) c.times.ensures) c.pair_at.result c.pair_at.ensures

pub returns-in_err-u : goal.returns-in_err-u
returns-in_err-u c =
    subst (Visited c.args.self.now.powers c.args.self.now.coordinates (mul_mod 8 c.args.self.now.octic.modulus) c.args.r c.args.y)
    (sym c.from_residual.ensures)
    (unserved (mul_mod 8 c.args.self.now.octic.modulus) c.args.r c.args.y c.powers-powers.result c.powers-powers.ensures
    (subst (λ (s : ℕ). (v : ℕ) → v < 16 → apply c.powers-powers.result v ≡ bit_xor s c.args.y → ⊥) c.times.ensures c.in_err-u.ensures))
