use Rattle.std.proofs.Common.{◌≡◌, ℕ, ◌+◌, ◌%◌, ◌^◌, Option, Some, None, sym, subst, mod-lt, mod-eq_of_lt, pow_pos, arith}
use Rattle.rings.specs.Laws.{Inverse, NoInverse, Inverts}
use Rattle.rings.specs.Pairing.{pair_mul, norm, pair_inverse, ByHalves}
use Rattle.rings.specs.PairLaws.{norm_lt, pair_has_inverse, pair_no_inverse}
use Rattle.rings.specs.PairCode.{pair_inverse_low, at_halved}
use Rattle.rings.proofs.pairing.Halves.inverse.Goals as goal

pub returns : goal.returns
returns g c =
    let w = g.R.Ring.WIDTH in
    let mul = g.R.Ring.mul c.args.self.now.below.now in
    let laws = g.met.R.Ring.laws c.args.self.now.below.now in
    let d = c.args.self.now.constant in
    let a = c.args.a % 2 ^ (w + w) in
    let k = c.in_ok-m.m in
    let r : c.divide.result ≡ pair_inverse w mul a k = let e = pair_inverse_low w mul c.args.a k in cc in
    let low : Inverse w 1 mul (norm w mul d a % 2 ^ w) k =
    subst (λ (x : ℕ). Inverse w 1 mul (x % 2 ^ w) k) c.norm.ensures.halves c.in_ok-m.ensures in
    let own : Inverse (w + w) 1 (pair_mul w mul d) a c.divide.result =
    subst (Inverse (w + w) 1 (pair_mul w mul d) a) (sym r) (pair_has_inverse w 1 mul laws d a k (mod-lt _ (pow_pos (w + w))) low) in
    let halves : ByHalves w 1 mul d a (Some c.divide.result) =
    (k, subst (λ (x : ℕ). Inverse w 1 mul x k) (mod-eq_of_lt (norm_lt w 1 mul laws d a)) low, r) in
    let narrow = g.met.R.Ring.narrow in
    record {
      inverse =
          at_halved w mul d narrow c.args.a (λ v f. Inverse v 1 f (c.args.a % 2 ^ v) c.divide.result) c.args.self.now.narrow own;
      halves = record {
        by_halves = λ h. at_halved w mul d narrow c.args.a (λ v f. ByHalves w 1 mul d (c.args.a % 2 ^ v) (Some c.divide.result)) h halves;
        same = λ h. absurd (omega (arith, c.args.self.now.narrow));
      };
    }

pub returns-in_err-m : goal.returns-in_err-m
returns-in_err-m g c =
    let w = g.R.Ring.WIDTH in
    let mul = g.R.Ring.mul c.args.self.now.below.now in
    let laws = g.met.R.Ring.laws c.args.self.now.below.now in
    let d = c.args.self.now.constant in
    let a = c.args.a % 2 ^ (w + w) in
    let narrow = g.met.R.Ring.narrow in
    let none : NoInverse w 1 mul (norm w mul d a) =
    subst (NoInverse w 1 mul) (mod-eq_of_lt (norm_lt w 1 mul laws d a))
    (subst (λ (x : ℕ). NoInverse w 1 mul (x % 2 ^ w)) c.norm.ensures.halves c.in_err-m.ensures) in
    let own : NoInverse (w + w) 1 (pair_mul w mul d) a = pair_no_inverse w 1 mul laws d a (mod-lt _ (pow_pos (w + w))) none in
    let is : (P : Option ℕ → Type 0) → P None → P c.from_residual.result = λ P. subst P (sym c.from_residual.ensures) in
    record {
      inverse =
          at_halved w mul d narrow c.args.a (λ v f. Inverts v 1 f (c.args.a % 2 ^ v) c.from_residual.result) c.args.self.now.narrow
          (is (Inverts (w + w) 1 (pair_mul w mul d) a) own);
      halves = record {
        by_halves = λ h.
            at_halved w mul d narrow c.args.a (λ v f. ByHalves w 1 mul d (c.args.a % 2 ^ v) c.from_residual.result) h
            (is (ByHalves w 1 mul d a) none);
        same = λ h. absurd (omega (arith, c.args.self.now.narrow));
      };
    }
