-- The pairing over a ring: a code is r1 Y + r0, with r1 in its high half and r0 in its low half, and Y Y = Y + c.
-- Assumes nothing.
use Rattle.std.specs.Prelude.{◌≡◌, ℕ, ◌+◌, ◌*◌, ◌/◌, ◌%◌, ◌^◌, ◌<◌, ◌≤◌, Option, Some, None, cond, bit_and, bit_xor, nat_lt}
use Rattle.rings.specs.Laws.{Inverse, NoInverse, Invertible, Inverts}

-- the product of the ring below, of width w, on the low bits of two numbers
abbrev pub lows : ℕ → (ℕ → ℕ → ℕ) → ℕ → ℕ → ℕ
lows w mul a b = mul (a % 2 ^ w) (b % 2 ^ w)

-- (a1 Y + a0) (b1 Y + b0)
abbrev pub schoolbook : ℕ → (ℕ → ℕ → ℕ) → ℕ → ℕ → ℕ → ℕ → ℕ → ℕ
schoolbook w m c a1 a0 b1 b0 =
    bit_xor (bit_xor (m a1 b1) (m a1 b0)) (m a0 b1) * 2 ^ w + bit_xor (m a0 b0) (m c (m a1 b1))

-- the product of two codes, by their halves
unfoldable pub pair_mul : ℕ → (ℕ → ℕ → ℕ) → ℕ → ℕ → ℕ → ℕ
pair_mul w mul c a b = schoolbook w (lows w mul) c (a / 2 ^ w) (a % 2 ^ w) (b / 2 ^ w) (b % 2 ^ w)

-- r0 r0 + r0 r1 + c r1 r1
abbrev pub form : (ℕ → ℕ → ℕ) → ℕ → ℕ → ℕ → ℕ
form m c r1 r0 = bit_xor (bit_xor (m r0 r0) (m r0 r1)) (m c (m r1 r1))

-- the norm of a code, in the ring below
unfoldable pub norm : ℕ → (ℕ → ℕ → ℕ) → ℕ → ℕ → ℕ
norm w mul c a = form (lows w mul) c (a / 2 ^ w) (a % 2 ^ w)

-- r1 k in the high half, and (r0 + r1) k in the low half
abbrev pub by_norm : ℕ → (ℕ → ℕ → ℕ) → ℕ → ℕ → ℕ → ℕ
by_norm w m r1 r0 k = m r1 k * 2 ^ w + m (bit_xor r0 r1) k

-- the inverse of a code, where k is its norm's inverse
unfoldable pub pair_inverse : ℕ → (ℕ → ℕ → ℕ) → ℕ → ℕ → ℕ
pair_inverse w mul a k = by_norm w (lows w mul) (a / 2 ^ w) (a % 2 ^ w) k

-- the width of the pairing: twice that of the ring below, and over width 8 the same
abbrev pub pairing_bits : ℕ → ℕ
pairing_bits w = w + bit_and w 6

-- the product of the pairing; over width 8 the pairing is the ring below
unfoldable pub pairing_mul : ℕ → (ℕ → ℕ → ℕ) → ℕ → ℕ → ℕ → ℕ
pairing_mul w mul c a b = cond (nat_lt w 8) (pair_mul w mul c a b) (mul a b)

-- the norm of the pairing; over width 8 a code is its own norm
unfoldable pub pairing_norm : ℕ → (ℕ → ℕ → ℕ) → ℕ → ℕ → ℕ
pairing_norm w mul c a = cond (nat_lt w 8) (norm w mul c a) a

-- a code of the pairing has an inverse just if the code n has one below
pub record Decides (w one : ℕ) (mul : ℕ → ℕ → ℕ) (c a n : ℕ) : Type 0 where
  pub below : Invertible (pairing_bits w) one (pairing_mul w mul c) a → Invertible w one mul n
  pub above : Invertible w one mul n → Invertible (pairing_bits w) one (pairing_mul w mul c) a

-- what `norm` answers of a
pub record Normed (w one : ℕ) (mul : ℕ → ℕ → ℕ) (c a n : ℕ) : Type 0 where
  pub value : n ≡ pairing_norm w mul c a
  pub decides : Decides w one mul c a n

-- r is the code with r1 m in its high half and (r0 + r1) m in its low half, where m is the inverse below of the norm of a, or nothing
-- where the norm has no inverse below
abbrev pub ByHalves : ℕ → ℕ → (ℕ → ℕ → ℕ) → ℕ → ℕ → Option ℕ → Type 0
ByHalves w one mul c a None = NoInverse w one mul (norm w mul c a)
ByHalves w one mul c a (Some b) = (m : ℕ) × Inverse w one mul (norm w mul c a) m × (b ≡ pair_inverse w mul a m)

-- `inverse` answers r of the code a: over a ring of width 2 or 4 by halves, and over width 8 what the ring below answers
pub record FromBelow (w one : ℕ) (mul : ℕ → ℕ → ℕ) (c a : ℕ) (r : Option ℕ) : Type 0 where
  pub by_halves : w < 8 → ByHalves w one mul c a r
  pub same : 8 ≤ w → Inverts w one mul a r
