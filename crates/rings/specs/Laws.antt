-- What every ring of codes keeps. A code is a number below 2 ^ w, the sum of two codes is their exclusive or, `mul` is the
-- product and `one` the code that changes nothing. Assumes nothing.
use Rattle.std.specs.Prelude.{◌≡◌, ℕ, ◌^◌, ◌<◌, ◌⊎◌, Option, MatchOption, ◌≢◌, bit_xor}

-- the widths that a ring may have
abbrev pub Narrow : ℕ → Type 0
Narrow w = (w ≡ 2) ⊎ ((w ≡ 4) ⊎ (w ≡ 8))

pub record Laws (w one : ℕ) (mul : ℕ → ℕ → ℕ) : Type 0 where
  pub one_code : one < 2 ^ w
  pub closed : (a b : ℕ) → a < 2 ^ w → b < 2 ^ w → mul a b < 2 ^ w
  pub comm : (a b : ℕ) → a < 2 ^ w → b < 2 ^ w → mul a b ≡ mul b a
  pub assoc : (a b c : ℕ) → a < 2 ^ w → b < 2 ^ w → c < 2 ^ w → mul (mul a b) c ≡ mul a (mul b c)
  pub distrib : (a b c : ℕ) → a < 2 ^ w → b < 2 ^ w → c < 2 ^ w → mul a (bit_xor b c) ≡ bit_xor (mul a b) (mul a c)
  pub unit : (a : ℕ) → a < 2 ^ w → mul one a ≡ a

-- b is the inverse of a: a code whose product with a is the one, and the only such code
pub record Inverse (w one : ℕ) (mul : ℕ → ℕ → ℕ) (a b : ℕ) : Type 0 where
  pub code : b < 2 ^ w
  pub product : mul a b ≡ one
  pub only : (c : ℕ) → c < 2 ^ w → mul a c ≡ one → c ≡ b

-- some code is the inverse of a
abbrev pub Invertible : ℕ → ℕ → (ℕ → ℕ → ℕ) → ℕ → Type 0
Invertible w one mul a = (b : ℕ) × Inverse w one mul a b

-- no code has a product with a that is the one
abbrev pub NoInverse : ℕ → ℕ → (ℕ → ℕ → ℕ) → ℕ → Type 0
NoInverse w one mul a = (b : ℕ) → b < 2 ^ w → mul a b ≢ one

-- what `inverse` answers of a: the inverse, or nothing where there is none
abbrev pub Inverts : ℕ → ℕ → (ℕ → ℕ → ℕ) → ℕ → Option ℕ → Type 0
Inverts w one mul a r = MatchOption r (NoInverse w one mul a) (Inverse w one mul a)

-- a ring is a field if every code but 0 has an inverse
abbrev pub Field : ℕ → ℕ → (ℕ → ℕ → ℕ) → Type 0
Field w one mul = (a : ℕ) → a < 2 ^ w → 0 < a → Invertible w one mul a
