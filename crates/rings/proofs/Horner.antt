-- One step of Horner's rule, as the code takes it. Assumes nothing.
use Rattle.std.proofs.Common.{◌≡◌, ℕ, zero, suc, ◌-◌, ◌/◌, ◌%◌, ◌^◌, ◌<◌, ◌≤◌, sym, refl, ap, ◌∙◌, mod-lt, zero-lt-suc, add-one, arith, shr-shr}
use lib.Bits.{bit_xor, bit_and, and_mask}
use Rattle.rings.specs.Poly.{pick, act}

pub picked : (n v : ℕ) → bit_and n 1 ≡ 1 → pick (n % 2) v ≡ v
picked n v e = ap (λ (d : ℕ). pick d v) (sym (and_mask n 1) ∙ e)

pub skipped : (n v : ℕ) → (bit_and n 1 ≡ 1 → ⊥) → pick (n % 2) v ≡ 0
skipped n v f = ap (λ (d : ℕ). pick d v) (zero_digit (n % 2) (mod-lt n (zero-lt-suc 1)) (λ e. f (and_mask n 1 ∙ e)))
  where
    zero_digit : (d : ℕ) → d < 2 → (d ≡ 1 → ⊥) → d ≡ 0
    zero_digit zero h f = refl
    zero_digit (suc zero) h f = absurd (f refl)
    zero_digit (suc (suc d)) h f = absurd (omega arith)

-- one bit more of p
pub act_next : (X : ℕ → ℕ) (w i p v : ℕ) → 0 < i → i ≤ w
    → act X (w - (i - 1)) (p / 2 ^ (i - 1)) v ≡ bit_xor (pick (p / 2 ^ (i - 1) % 2) v) (X (act X (w - i) (p / 2 ^ i) v))
act_next X w zero p v pos le = absurd (omega arith)
act_next X w (suc j) p v pos le =
    let e : w - (suc j - 1) ≡ suc (w - suc j) = omega arith in
    let f : suc j - 1 ≡ j = omega arith in
    ap (λ (k : ℕ). act X k (p / 2 ^ (suc j - 1)) v) e
    ∙ ap (λ (q : ℕ). bit_xor (pick (p / 2 ^ (suc j - 1) % 2) v) (X (act X (w - suc j) q v)))
    (ap (λ (k : ℕ). p / 2 ^ k / 2) f ∙ shr-shr p j 1 ∙ ap (λ (k : ℕ). p / 2 ^ k) (add-one j))
