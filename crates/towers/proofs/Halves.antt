-- The product of the tower by the halves of two codes. Assumes nothing.
use Rattle.std.proofs.Common.{◌≡◌, ℕ, ◌+◌, ◌*◌, ◌/◌, ◌%◌, ◌<◌, ◌∙◌, ap₂, mod-eq_of_lt, arith}
use lib.Bits.{bit_xor, xor_assoc}
use Rattle.rings.specs.Laws.{Laws}
use Rattle.rings.specs.Pairing.{pair_mul}

abbrev pub tower : (ℕ → ℕ → ℕ) → ℕ → ℕ → ℕ → ℕ
tower mul c a b =
    bit_xor (mul (a / 16) (b / 16)) (bit_xor (mul (a / 16) (b % 16)) (mul (a % 16) (b / 16))) * 16
    + bit_xor (mul (a % 16) (b % 16)) (mul c (mul (a / 16) (b / 16)))

pub tower_is : (one : ℕ) (mul : ℕ → ℕ → ℕ) → Laws 4 one mul → (c : ℕ) → c < 16 → (a b : ℕ) → a < 256 → b < 256
    → pair_mul 4 mul c a b ≡ tower mul c a b
unfolding pair_mul
tower_is one mul R c hc a b ha hb =
    let a1 : a / 16 % 16 ≡ a / 16 = omega arith in
    let a0 : a % 16 % 16 ≡ a % 16 = omega arith in
    let b1 : b / 16 % 16 ≡ b / 16 = omega arith in
    let b0 : b % 16 % 16 ≡ b % 16 = omega arith in
    let top : mul (a / 16 % 16) (b / 16 % 16) % 16 ≡ mul (a / 16) (b / 16) =
    mod-eq_of_lt (R.closed (a / 16 % 16) (b / 16 % 16) (omega arith) (omega arith)) ∙ ap₂ mul a1 b1 in
    ap₂ (λ (h l : ℕ). h * 16 + l)
    (xor_assoc (mul (a / 16 % 16) (b / 16 % 16)) (mul (a / 16 % 16) (b % 16 % 16)) (mul (a % 16 % 16) (b / 16 % 16))
    ∙ (λ i. bit_xor (mul (a1 i) (b1 i)) (bit_xor (mul (a1 i) (b0 i)) (mul (a0 i) (b1 i)))))
    (λ i. bit_xor (mul (a0 i) (b0 i)) (mul (mod-eq_of_lt hc i) (top i)))
