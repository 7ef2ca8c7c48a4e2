use Rattle.std.proofs.Common.{◌≡◌, ℕ, ◌%◌, ◌^◌, Option, Some, None, unwrap_or, sym, refl, ap, subst, subst₂, inl, inr, arith}
use Rattle.rings.specs.Laws.{Inverts}
use Rattle.rings.specs.Pairing.{pairing_bits, pairing_mul, pair_mul}
use Rattle.towers.specs.Trails.{OrZero}
use Rattle.towers.proofs.trail.tower_inverse.Goals as goal

or_zero : (w : ℕ) (mul : ℕ → ℕ → ℕ) (a : ℕ) (o : Option ℕ) → Inverts w 1 mul a o → OrZero w mul a (unwrap_or o 0)
or_zero w mul a None i = inr (i, refl)
or_zero w mul a (Some b) i = inl i

pub returns : goal.returns
unfolding pairing_mul
returns g c =
    let w = g.R.Ring.WIDTH in
    let mul = g.R.Ring.mul c.args.ring.now in
    let k = c.args.constant in
    let r = c.inverse.result in
    let byte : c.args.code % 256 ≡ c.args.code = omega arith in
    let below : Inverts (pairing_bits w) 1 (pairing_mul w mul k) (c.args.code % 2 ^ pairing_bits w) r =
    subst₂ (λ (m : ℕ → ℕ → ℕ) (q : ℕ). Inverts (pairing_bits w) 1 (pairing_mul w m q) (c.args.code % 2 ^ pairing_bits w) r)
    (ap g.R.Ring.mul c.new.ensures.below) c.new.ensures.constant c.inverse.ensures.inverse in
    record {
      tower = λ four.
          subst (OrZero 8 (pair_mul 4 mul k) c.args.code) (sym c.unwrap_or.ensures)
          (or_zero 8 (pair_mul 4 mul k) c.args.code r
          (subst (λ (x : ℕ). Inverts 8 1 (pair_mul 4 mul k) x r) byte
          (subst (λ (v : ℕ). Inverts (pairing_bits v) 1 (pairing_mul v mul k) (c.args.code % 2 ^ pairing_bits v) r) four below)));
      other = λ no. absurd (no (omega arith));
    }
