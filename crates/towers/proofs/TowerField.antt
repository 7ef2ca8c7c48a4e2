-- The tower of a lawful pair of an accepted octic is a field. Assumes nothing.
use Rattle.std.proofs.Common.{◌≡◌, ℕ, zero, suc, ◌+◌, ◌*◌, ◌/◌, ◌%◌, ◌<◌, sym, refl, ap, ◌∙◌, ap₂, mod-eq_of_lt, arith, lit<}
use lib.Bits.{bit_xor, xor_assoc, xor_self, xor_zero_r, xor_lt}
use Rattle.rings.specs.Laws.{Laws, Field}
use Rattle.rings.specs.Pairing.{pair_mul, norm}
use Rattle.rings.specs.PairLaws.{invertible_norm, norm_lt}
use Rattle.rings.specs.PolyLaws.{xor_equal}
use Rattle.towers.specs.Lawful.{Lawful}
use Rattle.towers.proofs.Linear.{adds_zero}
use Rattle.towers.proofs.Root.{times_zero, no_divisors, spreads_left}
use Rattle.towers.proofs.Halves.{tower_is}
use Rattle.towers.proofs.OneGoes.{one_goes}

module _ (mul : ℕ → ℕ → ℕ) (R : Laws 4 1 mul) (F : Field 4 1 mul) (oct : ℕ → ℕ → ℕ) (E : Laws 8 1 oct)
    (lonely : (e : ℕ) → e < 256 → oct e e ≡ e → e < 2) (c : ℕ) (m : ℕ → ℕ) (L : Lawful mul oct c m) where
  norm_is : (a : ℕ) → a < 256 → norm 4 mul c a ≡ bit_xor (bit_xor (mul (a % 16) (a % 16)) (mul (a % 16) (a / 16))) (mul c (mul (a / 16) (a / 16)))
  unfolding norm
  norm_is a ha =
      let h : a / 16 % 16 ≡ a / 16 = omega arith in
      let l : a % 16 % 16 ≡ a % 16 = omega arith in
      let t : mul (a / 16 % 16) (a / 16 % 16) % 16 ≡ mul (a / 16) (a / 16) =
      mod-eq_of_lt (R.closed (a / 16 % 16) (a / 16 % 16) (omega arith) (omega arith)) ∙ ap₂ mul h h in
      λ i. bit_xor (bit_xor (mul (l i) (l i)) (mul (l i) (h i))) (mul (mod-eq_of_lt L.const i) (t i))

  -- Y + t is its own square where t t = t + c
  own_square : (t : ℕ) → t < 16 → mul t t ≡ bit_xor t c → pair_mul 4 mul c (16 + t) (16 + t) ≡ 16 + t
  own_square t h e =
      let p : (16 + t) / 16 ≡ 1 = omega arith in
      let q : (16 + t) % 16 ≡ t = omega arith in
      tower_is 1 mul R c L.const (16 + t) (16 + t) (omega arith) (omega arith)
      ∙ (λ i. bit_xor (mul (p i) (p i)) (bit_xor (mul (p i) (q i)) (mul (q i) (p i))) * 16 + bit_xor (mul (q i) (q i)) (mul c (mul (p i) (p i))))
      ∙ ap₂ (λ (x y : ℕ). x * 16 + y)
      (ap₂ bit_xor (R.unit 1 (lit< tt)) (ap₂ bit_xor (R.unit t h) (R.comm t 1 h (lit< tt) ∙ R.unit t h) ∙ xor_self t))
      (ap₂ bit_xor e (ap (mul c) (R.unit 1 (lit< tt)) ∙ R.comm c 1 L.const (lit< tt) ∙ R.unit c L.const)
      ∙ xor_assoc t c c ∙ ap (bit_xor t) (xor_self c) ∙ xor_zero_r t)

  never : (t : ℕ) → t < 16 → mul t t ≡ bit_xor t c → ⊥
  never t h e =
      let w : 16 + t < 256 = omega arith in
      let s : m (16 + t) < 2 = lonely (m (16 + t)) (L.byte (16 + t) w) (sym (L.keeps (16 + t) (16 + t) w w) ∙ ap m (own_square t h e)) in
      small (m (16 + t)) s refl
    where
      small : (x : ℕ) → x < 2 → m (16 + t) ≡ x → ⊥
      small zero l q = omega (arith, L.once (16 + t) 0 (omega arith) (lit< tt) (q ∙ sym (adds_zero 8 m L.adds)))
      small (suc zero) l q = omega (arith, L.once (16 + t) 1 (omega arith) (lit< tt) (q ∙ sym (one_goes 1 mul R oct E c m L)))
      small (suc (suc x)) l q = omega arith

  -- a product of four codes, regrouped
  four : (a b i : ℕ) → a < 16 → b < 16 → i < 16 → mul (mul a i) (mul b i) ≡ mul (mul a b) (mul i i)
  four a b i ha hb hi =
      R.assoc a i (mul b i) ha hi (R.closed b i hb hi)
      ∙ ap (mul a) (sym (R.assoc i b i hi hb hi) ∙ ap (λ (x : ℕ). mul x i) (R.comm i b hi hb) ∙ R.assoc b i i hb hi hi)
      ∙ sym (R.assoc a b (mul i i) ha hb (R.closed i i hi hi))

  -- the norm is not 0 where the high half is not
  high_norm : (r1 r0 : ℕ) → r1 < 16 → r0 < 16 → 0 < r1 → bit_xor (bit_xor (mul r0 r0) (mul r0 r1)) (mul c (mul r1 r1)) ≡ 0 → ⊥
  high_norm r1 r0 h1 h0 pos e =
      let k = F r1 h1 pos in
      let i : ℕ = k.0 in
      let hi : i < 16 = k.1.code in
      let ii : mul i i < 16 = R.closed i i hi hi in
      let t : ℕ = mul r0 i in
      let ht : t < 16 = R.closed r0 i h0 hi in
      let p00 : mul r0 r0 < 16 = R.closed r0 r0 h0 h0 in
      let p01 : mul r0 r1 < 16 = R.closed r0 r1 h0 h1 in
      let p11 : mul r1 r1 < 16 = R.closed r1 r1 h1 h1 in
      let pc : mul c (mul r1 r1) < 16 = R.closed c (mul r1 r1) L.const p11 in
      let a : mul (mul r0 r0) (mul i i) ≡ mul t t = sym (four r0 r0 i h0 h0 hi) in
      let b : mul (mul r0 r1) (mul i i) ≡ t =
      sym (four r0 r1 i h0 h1 hi) ∙ ap (mul t) k.1.product ∙ R.comm t 1 ht (lit< tt) ∙ R.unit t ht in
      let d : mul (mul c (mul r1 r1)) (mul i i) ≡ c =
      R.assoc c (mul r1 r1) (mul i i) L.const p11 ii ∙ ap (mul c) (sym (four r1 r1 i h1 h1 hi) ∙ ap₂ mul k.1.product k.1.product ∙ R.unit 1 (lit< tt))
      ∙ R.comm c 1 L.const (lit< tt) ∙ R.unit c L.const in
      let z : bit_xor (bit_xor (mul t t) t) c ≡ 0 =
      sym (spreads_left 1 mul R (bit_xor (mul r0 r0) (mul r0 r1)) (mul c (mul r1 r1)) (mul i i) (xor_lt 4 (mul r0 r0) (mul r0 r1) p00 p01) pc ii
      ∙ ap₂ bit_xor (spreads_left 1 mul R (mul r0 r0) (mul r0 r1) (mul i i) p00 p01 ii ∙ ap₂ bit_xor a b) d)
      ∙ ap (λ (x : ℕ). mul x (mul i i)) e ∙ R.comm 0 (mul i i) (lit< tt) ii ∙ times_zero 1 mul R (mul i i) ii in
      never t ht (xor_equal (mul t t) (bit_xor t c) (sym (xor_assoc (mul t t) t c) ∙ z))

  low_norm : (r0 : ℕ) → r0 < 16 → 0 < r0 → bit_xor (bit_xor (mul r0 r0) (mul r0 0)) (mul c (mul 0 0)) ≡ 0 → ⊥
  low_norm r0 h pos e =
      let z : mul r0 r0 ≡ 0 =
      sym (ap₂ bit_xor (ap (bit_xor (mul r0 r0)) (times_zero 1 mul R r0 h) ∙ xor_zero_r (mul r0 r0))
      (ap (mul c) (times_zero 1 mul R 0 (lit< tt)) ∙ times_zero 1 mul R c L.const) ∙ xor_zero_r (mul r0 r0)) ∙ e in
      omega (arith, no_divisors 1 mul R F r0 r0 h h pos z)

  no_zero : (r1 r0 : ℕ) → r1 < 16 → r0 < 16 → 0 < r1 + r0 → bit_xor (bit_xor (mul r0 r0) (mul r0 r1)) (mul c (mul r1 r1)) ≡ 0 → ⊥
  no_zero zero r0 h1 h0 pos e = low_norm r0 h0 (omega arith) e
  no_zero (suc r1) r0 h1 h0 pos e = high_norm (suc r1) r0 h1 h0 (omega arith) e

  pub tower_field : Field 8 1 (pair_mul 4 mul c)
  tower_field a ha pos = invertible_norm 4 1 mul R c a ha (F (norm 4 mul c a) (norm_lt 4 1 mul R c a) (positive (norm 4 mul c a) refl))
    where
      positive : (n : ℕ) → norm 4 mul c a ≡ n → 0 < n
      positive zero e = absurd (no_zero (a / 16) (a % 16) (omega arith) (omega arith) (omega arith) (sym (norm_is a ha) ∙ e))
      positive (suc n) e = omega arith
