use Rattle.std.proofs.Common.{◌≡◌, ℕ, ◌-◌, ◌/◌, ◌^◌, ◌<◌, sym, ap, ◌∙◌, subst, ap₂, lt_of_lt_of_le, pow_mono, rules}
use lib.Bits.{bit_xor, xor_comm}
use Rattle.rings.specs.Poly.{times_x, act, mul_mod, Remainder}
use Rattle.rings.proofs.Horner.{picked, skipped, act_next}
use Rattle.rings.specs.PolyLaws.{act_lt, mul_mod_remainder}
use Rattle.rings.proofs.poly.Modulus.multiply.Goals as goal

-- what the loop has is a code
code_of : (w m i a b r : ℕ) → m / 2 ^ w ≡ 1 → b < 2 ^ w → r ≡ act (times_x w m) (w - i) (a / 2 ^ i) b → r < 2 ^ w
code_of w m i a b r degree h e = subst (λ (x : ℕ). x < 2 ^ w) (sym e) (act_lt w m degree (w - i) (a / 2 ^ i) b h)

pub times_x-r-requires : goal.times_x-r-requires
times_x-r-requires g c = (search rules, code_of _ _ c.loop-i.i c.args.a _ _ c.args.self.now.degree c.requires c.loop-i.invariant)

pub loop-i-preserved-then-a-i-eq1 : goal.loop-i-preserved-then-a-i-eq1
loop-i-preserved-then-a-i-eq1 g c =
    let w = g.row.W in
    let i = c.loop-i.i in
    let X = times_x w c.args.self.now.bits in
    xor_comm _ c.args.b ∙ ap₂ bit_xor (sym (picked (c.args.a / 2 ^ (i - 1)) c.args.b c.if-a-i-eq1.true)) (c.times_x-r.ensures ∙ ap X c.loop-i.invariant)
    ∙ sym (act_next X w i c.args.a c.args.b c.loop-i-test.true c.loop-i.auto.i)

pub loop-i-preserved : goal.loop-i-preserved
loop-i-preserved g c =
    let w = g.row.W in
    let i = c.loop-i.i in
    let X = times_x w c.args.self.now.bits in
    c.times_x-r.ensures ∙ ap₂ bit_xor (sym (skipped (c.args.a / 2 ^ (i - 1)) c.args.b c.if-a-i-eq1.false)) (ap X c.loop-i.invariant)
    ∙ sym (act_next X w i c.args.a c.args.b c.loop-i-test.true c.loop-i.auto.i)

pub returns : goal.returns
unfolding mul_mod
returns g c =
    let e : c.loop-i.r ≡ mul_mod g.row.W c.args.self.now.bits c.args.a c.args.b = search rules in
    record {
      value = e;
      remainder =
          subst (Remainder g.row.W c.args.self.now.bits c.args.a c.args.b) (sym e)
          (mul_mod_remainder g.row.W c.args.self.now.bits c.args.self.now.degree c.args.a c.args.b c.requires);
    }

pub overflow_cast-result : goal.overflow_cast-result
overflow_cast-result g c =
    let h : c.loop-i.r < 256 =
    lt_of_lt_of_le (code_of _ _ c.loop-i.i c.args.a _ _ c.args.self.now.degree c.requires c.loop-i.invariant) (pow_mono c.args.self.now.narrow) in
    search rules
