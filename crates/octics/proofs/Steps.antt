-- Steps of a division and of the search for a divisor. Assumes nothing.
use Rattle.std.proofs.Common.{◌≡◌, ℕ, zero, suc, ◌+◌, ◌-◌, ◌*◌, ◌^◌, ◌<◌, ◌≤◌, cond, sym, ap, ◌∙◌, subst, ⊎_elim, arith, pow_mono}
use lib.Bits.{bit_xor}
use Rattle.std.proofs.lemmas.Bool.{cases_order, le-leb, lt-leb}
use Rattle.rings.specs.Poly.{carryless}
use Rattle.octics.specs.Division.{cut, rest_from, remainder, Degree, Divisor, NoneBelow}
use Rattle.octics.specs.Octics.{Divides}
use Rattle.octics.proofs.Tested.{found, leaves}

pub below32 : (k d : ℕ) → Degree k d → d < 32
below32 k d h = let le : k + 1 ≤ 5 = omega (arith, h.high) in omega (arith, h.below, pow_mono le)

-- the step at i - 1
pub step : (k d i n : ℕ) → 0 < i → rest_from k d i n ≡ rest_from k d (i - 1) (cut k d (i - 1) n)
step k d zero n h = absurd (omega arith)
step k d (suc j) n h = let e : j ≡ suc j - 1 = omega arith in ap (λ m. rest_from k d m (cut k d m n)) e

pub cut_off : (k d i n : ℕ) → 2 ^ (k + i) ≤ n → cut k d i n ≡ bit_xor n (d * 2 ^ i)
cut_off k d i n h = ap (λ b. cond b (bit_xor n (d * 2 ^ i)) n) (le-leb (2 ^ (k + i)) n h)

pub cut_none : (k d i n : ℕ) → n < 2 ^ (k + i) → cut k d i n ≡ n
cut_none k d i n h = ap (λ b. cond b (bit_xor n (d * 2 ^ i)) n) (lt-leb (2 ^ (k + i)) n h)

-- 2 is the first number of degree 1
pub none_first : (n : ℕ) → NoneBelow (2 ^ 1) n
none_first n e lt v = omega (arith, v.0)

pub none_more : (k d n r : ℕ) → Degree k d → n < 512 → r ≡ remainder k d n → (r ≡ 0 → ⊥) → NoneBelow d n → NoneBelow (d + 1) n
none_more k d n r g h is some so e lt v =
    ⊎_elim (λ same. some (ends same)) (⊎_elim (λ low. so e low v) (λ high. omega arith)) (cases_order e d)
  where
    ends : e ≡ d → r ≡ 0
    ends same =
        let q = v.2.0 in
        let t : carryless 8 q d ≡ n = ap (λ x. carryless 8 q x) (sym same) ∙ v.2.1 in
        is ∙ ap (remainder k d) (sym t) ∙ leaves k d q g (subst (λ (x : ℕ). x < 512) (sym t) h)

pub found_first : (k d n : ℕ) → Degree k d → n < 512 → remainder k d n ≡ 0 → Divisor d n
found_first k d n g h z = (omega (arith, g.from, pow_mono g.low), below32 k d g, found k d n g h z)

pub none_past : (n : ℕ) → NoneBelow (2 ^ 5) n → (d : ℕ) → 2 ≤ d → d < 32 → Divides d n → ⊥
none_past n so d from below v = so d below (from, below, v)
