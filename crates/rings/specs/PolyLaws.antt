-- The ring laws of the product modulo any polynomial, at every width. Assumes nothing.
use Rattle.std.specs.Prelude.{◌≡◌, ℕ, zero, suc, ◌+◌, ◌*◌, ◌/◌, ◌%◌, ◌^◌, ◌<◌, ◌≤◌, refl}
use Rattle.std.proofs.Common.{sym, ap, ap₂, ◌∙◌, subst, add-zero, mod-lt, zero-lt-suc, div-lt_iff_lt-mul, div-add-mod', lt_of_le_of_lt, lt_of_lt_of_le, div-mul-le_self, one-mul, pow-suc, le_trans, le_refl, pow_pos, pow_mono, arith}
use Rattle.std.proofs.Math.Nat.{div-eq_of_lt, zero-div, le-suc, mul-div-mul_right}
use Rattle.std.proofs.Math.Arith.{lt-one, digits_div, digits_mod}
use Rattle.std.proofs.Math.Pow.{pow-lt}
use Rattle.std.specs.Int.Bits.{bit_xor, xor_assoc, xor_self, xor_zero_r, xor_shifted}
use Rattle.std.proofs.lemmas.Nat.{xor_comm, xor_lt, xor_mod, xor_shr, xor_block}
use Rattle.rings.specs.Laws.{Laws}
use Rattle.rings.specs.Commuting.{commuting_laws}
use Rattle.rings.specs.Poly.{pick, act, times_x, mul_mod, carryless, Congruent, Remainder}

-- (a + b) + (c + d) = (a + c) + (b + d)
pub xor4 : (a b c d : ℕ) → bit_xor (bit_xor a b) (bit_xor c d) ≡ bit_xor (bit_xor a c) (bit_xor b d)
xor4 a b c d =
    xor_assoc a b (bit_xor c d)
    ∙ ap (bit_xor a) (sym (xor_assoc b c d) ∙ ap (λ (x : ℕ). bit_xor x d) (xor_comm b c) ∙ xor_assoc c b d)
    ∙ sym (xor_assoc a c (bit_xor b d))

pub xor_equal : (a b : ℕ) → bit_xor a b ≡ 0 → a ≡ b
xor_equal a b e =
    sym (xor_zero_r a) ∙ ap (bit_xor a) (sym (xor_self b)) ∙ sym (xor_assoc a b b) ∙ ap (λ (x : ℕ). bit_xor x b) e

pick_xor : (d u v : ℕ) → pick d (bit_xor u v) ≡ bit_xor (pick d u) (pick d v)
pick_xor zero u v = refl
pick_xor (suc d) u v = refl

-- digits add
pick_sum : (d e v : ℕ) → d < 2 → e < 2 → pick (bit_xor d e) v ≡ bit_xor (pick d v) (pick e v)
pick_sum zero e v hd he = refl
pick_sum (suc zero) zero v hd he = sym (xor_zero_r v)
pick_sum (suc zero) (suc zero) v hd he = sym (xor_self v)
pick_sum (suc zero) (suc (suc e)) v hd he = absurd (omega arith)
pick_sum (suc (suc d)) e v hd he = absurd (omega arith)

digit : (n : ℕ) → n % 2 < 2
digit n = mod-lt n (zero-lt-suc 1)

-- Any additive map X. `act X k p v` is linear in p and in v, and such maps commute.
module _ (X : ℕ → ℕ) (additive : (u v : ℕ) → X (bit_xor u v) ≡ bit_xor (X u) (X v)) where
  X_zero : X 0 ≡ 0
  X_zero = sym (ap X (xor_self 1)) ∙ additive 1 1 ∙ xor_self (X 1)

  pub act_xor : (k p u v : ℕ) → act X k p (bit_xor u v) ≡ bit_xor (act X k p u) (act X k p v)
  act_xor zero p u v = refl
  act_xor (suc k) p u v =
      ap₂ bit_xor (pick_xor (p % 2) u v) (ap X (act_xor k (p / 2) u v) ∙ additive (act X k (p / 2) u) (act X k (p / 2) v))
      ∙ xor4 (pick (p % 2) u) (pick (p % 2) v) (X (act X k (p / 2) u)) (X (act X k (p / 2) v))

  pub act_sum : (k p q v : ℕ) → act X k (bit_xor p q) v ≡ bit_xor (act X k p v) (act X k q v)
  act_sum zero p q v = refl
  act_sum (suc k) p q v =
      ap₂ bit_xor
      (ap (λ (d : ℕ). pick d v) (xor_mod p q 1) ∙ pick_sum (p % 2) (q % 2) v (digit p) (digit q))
      (ap (λ (h : ℕ). X (act X k h v)) (xor_shr p q 1) ∙ ap X (act_sum k (p / 2) (q / 2) v)
      ∙ additive (act X k (p / 2) v) (act X k (q / 2) v))
      ∙ xor4 (pick (p % 2) v) (pick (q % 2) v) (X (act X k (p / 2) v)) (X (act X k (q / 2) v))

  pub act_zero : (k p : ℕ) → act X k p 0 ≡ 0
  act_zero k p = ap (act X k p) (sym (xor_self 0)) ∙ act_xor k p 0 0 ∙ xor_self (act X k p 0)

  act_pick : (k p d v : ℕ) → act X k p (pick d v) ≡ pick d (act X k p v)
  act_pick k p zero v = act_zero k p
  act_pick k p (suc d) v = refl

  X_pick : (d v : ℕ) → X (pick d v) ≡ pick d (X v)
  X_pick zero v = X_zero
  X_pick (suc d) v = refl

  pub act_X : (k p v : ℕ) → act X k p (X v) ≡ X (act X k p v)
  act_X zero p v = sym X_zero
  act_X (suc k) p v =
      ap₂ bit_xor (sym (X_pick (p % 2) v)) (ap X (act_X k (p / 2) v))
      ∙ sym (additive (pick (p % 2) v) (X (act X k (p / 2) v)))

  pub act_comm : (j k p q v : ℕ) → act X j p (act X k q v) ≡ act X k q (act X j p v)
  act_comm zero k p q v = sym (act_zero k q)
  act_comm (suc j) k p q v =
      ap₂ bit_xor (sym (act_pick k q (p % 2) v)) (ap X (act_comm j k (p / 2) q v) ∙ sym (act_X k q (act X j (p / 2) v)))
      ∙ sym (act_xor k q (pick (p % 2) v) (X (act X j (p / 2) v)))

-- ---- the product modulo m, of degree w

double_xor : (u v : ℕ) → bit_xor u v * 2 ≡ bit_xor (u * 2) (v * 2)
double_xor u v =
    sym (add-zero (bit_xor u v * 2)) ∙ sym (xor_block 1 u v 0 0 (zero-lt-suc 1) (zero-lt-suc 1))
    ∙ ap₂ bit_xor (add-zero (u * 2)) (add-zero (v * 2))

half_lt : (k p : ℕ) → p < 2 ^ suc k → p / 2 < 2 ^ k
half_lt k p h = (div-lt_iff_lt-mul (zero-lt-suc 1)).1 (subst (λ (x : ℕ). p < x) (pow-suc 2 k) h)

bit_of_xor : (w u v : ℕ) → bit_xor u v / 2 ^ w % 2 ≡ bit_xor (u / 2 ^ w % 2) (v / 2 ^ w % 2)
bit_of_xor w u v = ap (λ (n : ℕ). n % 2) (xor_shr u v w) ∙ xor_mod (u / 2 ^ w) (v / 2 ^ w) 1

below : (w n : ℕ) → n / 2 ^ w ≡ 0 → n < 2 ^ w
below w n e =
    subst (λ (x : ℕ). n < x) (one-mul (2 ^ w)) ((div-lt_iff_lt-mul (pow_pos w)).0 (subst (λ (x : ℕ). x < 1) (sym e) (zero-lt-suc 0)))

module _ (w m : ℕ) (degree : m / 2 ^ w ≡ 1) where
  X_xor : (u v : ℕ) → times_x w m (bit_xor u v) ≡ bit_xor (times_x w m u) (times_x w m v)
  X_xor u v =
      ap₂ bit_xor (double_xor u v)
      (ap (λ (n : ℕ). pick (n / 2 ^ w % 2) m) (double_xor u v) ∙ ap (λ (d : ℕ). pick d m) (bit_of_xor w (u * 2) (v * 2))
      ∙ pick_sum (u * 2 / 2 ^ w % 2) (v * 2 / 2 ^ w % 2) m (digit (u * 2 / 2 ^ w)) (digit (v * 2 / 2 ^ w)))
      ∙ xor4 (u * 2) (v * 2) (pick (u * 2 / 2 ^ w % 2) m) (pick (v * 2 / 2 ^ w % 2) m)

  -- the top digit goes
  cleared : (e : ℕ) → e < 2 → bit_xor e (pick (e % 2) m / 2 ^ w) ≡ 0
  cleared zero h = zero-div (2 ^ w)
  cleared (suc zero) h = ap (bit_xor 1) degree
  cleared (suc (suc e)) h = absurd (omega arith)

  pub X_lt : (v : ℕ) → v < 2 ^ w → times_x w m v < 2 ^ w
  X_lt v h =
      let top : v * 2 / 2 ^ w < 2 = (div-lt_iff_lt-mul (pow_pos w)).1 (omega arith) in
      below w (times_x w m v) (xor_shr (v * 2) (pick (v * 2 / 2 ^ w % 2) m) w ∙ cleared (v * 2 / 2 ^ w) top)

  pub act_lt : (k p v : ℕ) → v < 2 ^ w → act (times_x w m) k p v < 2 ^ w
  act_lt zero p v h = pow_pos w
  act_lt (suc k) p v h = xor_lt w (pick (p % 2) v) (times_x w m (act (times_x w m) k (p / 2) v)) (picked (p % 2)) (X_lt _ (act_lt k (p / 2) v h))
    where
      picked : (d : ℕ) → pick d v < 2 ^ w
      picked zero = pow_pos w
      picked (suc d) = h

  -- a code is itself at 1
  act_one : (k p : ℕ) → k ≤ w → p < 2 ^ k → act (times_x w m) k p 1 ≡ p
  act_one zero p hk hp = sym (lt-one hp)
  act_one (suc k) p hk hp =
      let small : p / 2 * 2 / 2 ^ w ≡ 0 = div-eq_of_lt (lt_of_lt_of_le (lt_of_le_of_lt (div-mul-le_self p 2) hp) (pow_mono hk)) in
      ap₂ bit_xor (bit_of (p % 2) (digit p)) (ap (times_x w m) (act_one k (p / 2) (le_trans (le-suc k) hk) (half_lt k p hp)) ∙ ap (λ (t : ℕ). bit_xor (p / 2 * 2) (pick (t % 2) m)) small ∙ xor_zero_r (p / 2 * 2))
      ∙ xor_comm (p % 2) (p / 2 * 2) ∙ xor_shifted (p / 2) 1 (p % 2) (digit p) ∙ div-add-mod' p 2
    where
      bit_of : (d : ℕ) → d < 2 → pick d 1 ≡ d
      bit_of zero h = refl
      bit_of (suc zero) h = refl
      bit_of (suc (suc d)) h = absurd (omega arith)

  pub mul_mod_laws : 0 < w → Laws w 1 (mul_mod w m)
  unfolding mul_mod
  mul_mod_laws pos =
      commuting_laws w 1 (pow-lt pos) (mul_mod w m) (λ a b ha hb. act_lt w a b hb) (λ a u v. act_xor (times_x w m) X_xor w a u v)
      (λ a b v. act_comm (times_x w m) X_xor w w a b v) (λ a ha. act_one w a (le_refl w) ha)

  -- ---- it is the remainder, and the only one

  reduces : (k p v : ℕ) → (q : ℕ) × (bit_xor (carryless k p v) (act (times_x w m) k p v) ≡ carryless k q m)
  reduces zero p v = (0, refl)
  reduces (suc k) p v =
      let low = reduces k (p / 2) v in
      let P = pick (p % 2) v in
      let c = carryless k (p / 2) v in
      let t = act (times_x w m) k (p / 2) v in
      let d = t * 2 / 2 ^ w % 2 in
      let hd : d < 2 = digit (t * 2 / 2 ^ w) in (
        low.0 * 2 + d,
        xor4 P (c * 2) P (times_x w m t) ∙ ap (λ (x : ℕ). bit_xor x (bit_xor (c * 2) (times_x w m t))) (xor_self P)
            ∙ sym (xor_assoc (c * 2) (t * 2) (pick d m)) ∙ xor_comm (bit_xor (c * 2) (t * 2)) (pick d m)
            ∙ ap (bit_xor (pick d m)) (sym (double_xor c t) ∙ ap (λ (x : ℕ). x * 2) low.1)
            ∙ sym (ap₂ (λ (x y : ℕ). bit_xor (pick x m) (carryless k y m * 2)) (digits_mod low.0 hd) (digits_div low.0 hd)),
      )

  pick_zero : (d : ℕ) → pick d m < 2 ^ w → pick d m ≡ 0
  pick_zero zero h = refl
  pick_zero (suc d) h = absurd (never (sym (div-eq_of_lt h) ∙ degree))
    where
      never : ◌≡◌ {A = ℕ} 0 1 → ⊥
      never e = omega arith

  -- a multiple of m below 2 ^ w is 0
  small_multiple : (k q : ℕ) → carryless k q m < 2 ^ w → carryless k q m ≡ 0
  small_multiple zero q h = refl
  small_multiple (suc k) q h =
      let c = carryless k (q / 2) m in
      let zero-c : c ≡ 0 = small_multiple k (q / 2) (below w c (high c h)) in
      let whole : carryless (suc k) q m ≡ pick (q % 2) m = ap (λ (x : ℕ). bit_xor (pick (q % 2) m) (x * 2)) zero-c ∙ xor_zero_r (pick (q % 2) m) in
      whole ∙ pick_zero (q % 2) (subst (λ (x : ℕ). x < 2 ^ w) whole h)
    where
      m_lt : (d : ℕ) → pick d m < 2 ^ suc w
      m_lt zero = pow_pos (suc w)
      m_lt (suc d) = subst (λ (x : ℕ). m < x) (sym (pow-suc 2 w)) (omega (arith, (div-lt_iff_lt-mul {k = 2 ^ w} {x = m} {y = 2} (pow_pos w)).0 (subst (λ (x : ℕ). x < 2) (sym degree) (le_refl 2))))

      high : (c : ℕ) → bit_xor (pick (q % 2) m) (c * 2) < 2 ^ w → c / 2 ^ w ≡ 0
      high c l =
          sym (mul-div-mul_right c (2 ^ w) (zero-lt-suc 1)) ∙ ap (λ (x : ℕ). c * 2 / x) (sym (pow-suc 2 w))
          ∙ ap (λ (x : ℕ). bit_xor x (c * 2 / 2 ^ suc w)) (sym (div-eq_of_lt (m_lt (q % 2))))
          ∙ sym (xor_shr (pick (q % 2) m) (c * 2) (suc w))
          ∙ div-eq_of_lt (lt_of_lt_of_le l (pow_mono (le-suc w)))

  congruent_once : (x r s : ℕ) → r < 2 ^ w → s < 2 ^ w → Congruent w m x r → Congruent w m x s → s ≡ r
  congruent_once x r s hr hs p q =
      let e : bit_xor s r ≡ carryless w (bit_xor q.0 p.0) m =
      ap (λ (y : ℕ). bit_xor y (bit_xor s r)) (sym (xor_self x)) ∙ xor4 x x s r
      ∙ ap₂ bit_xor q.1 p.1 ∙ sym (act_sum (λ v. v * 2) double_xor w q.0 p.0 m) in
      let z : bit_xor s r ≡ 0 = e ∙ small_multiple w _ (subst (λ (y : ℕ). y < 2 ^ w) e (xor_lt w s r hs hr)) in
      xor_equal s r z

  pub mul_mod_remainder : (a b : ℕ) → b < 2 ^ w → Remainder w m a b (mul_mod w m a b)
  unfolding mul_mod
  mul_mod_remainder a b h = record {
    code = act_lt w a b h;
    congruent = reduces w a b;
    only = λ s hs q. congruent_once (carryless w a b) (mul_mod w m a b) s (act_lt w a b h) hs (reduces w a b) q;
  }
