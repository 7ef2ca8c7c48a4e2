-- Maps of codes that keep sums: each is given by its columns. Assumes nothing.
use Rattle.std.proofs.Common.{◌≡◌, ℕ, zero, suc, ◌*◌, ◌/◌, ◌%◌, ◌^◌, ◌<◌, ◌⊎◌, List, [], ◌∷◌, sym, refl, ap, ◌∙◌, ap₂, inl, inr, add-zero, pow-suc, mul-zero, mul-one, arith, pow_pos}
use lib.Bits.{bit_xor, xor_mod, xor_shr, xor_comm, xor_zero_r, xor_self, xor_shifted, xor_block}
use Rattle.rings.specs.PolyLaws.{xor4}
use Rattle.towers.specs.Matrices.{apply, columns}

pub digit : (x : ℕ) → x < 2 → (x ≡ 0) ⊎ (x ≡ 1)
digit zero h = inl refl
digit (suc zero) h = inr refl
digit (suc (suc x)) h = absurd (omega arith)

digit_apply : (c x y : ℕ) → x < 2 → y < 2 → c * bit_xor x y ≡ bit_xor (c * x) (c * y)
digit_apply c x y hx hy = elim (digit x hx) [
  | inl p ↦ rw (p, mul-zero c)
  | inr p ↦ elim (digit y hy) [
    | inl q ↦ rw (p, q, mul-zero c, mul-one c) (sym (xor_zero_r c))
    | inr q ↦ rw (p, q, mul-zero c, mul-one c) (sym (xor_self c))
  ]
]

pub apply_add : (cs : List ℕ) (a b : ℕ) → apply cs (bit_xor a b) ≡ bit_xor (apply cs a) (apply cs b)
unfolding apply
apply_add [] a b = refl
apply_add (c ∷ cs) a b =
    ap₂ bit_xor
    (ap (λ (x : ℕ). c * x) (xor_mod a b 1) ∙ digit_apply c (a % 2) (b % 2) (omega arith) (omega arith))
    (ap (apply cs) (xor_shr a b 1) ∙ apply_add cs (a / 2) (b / 2))
    ∙ xor4 (c * (a % 2)) (c * (b % 2)) (apply cs (a / 2)) (apply cs (b / 2))

-- f keeps sums of codes of n bits
abbrev pub Adds : ℕ → (ℕ → ℕ) → Type 0
Adds n f = (a b : ℕ) → a < 2 ^ n → b < 2 ^ n → f (bit_xor a b) ≡ bit_xor (f a) (f b)

-- the values at 1, 2, 4 and so on
abbrev pub values : ℕ → (ℕ → ℕ) → List ℕ
values zero f = []
values (suc n) f = f 1 ∷ values n (λ u. f (u * 2))

pub adds_zero : (n : ℕ) (f : ℕ → ℕ) → Adds n f → f 0 ≡ 0
adds_zero n f add = add 0 0 (pow_pos n) (pow_pos n) ∙ xor_self (f 0)

xor_double : (a b : ℕ) → bit_xor a b * 2 ≡ bit_xor (a * 2) (b * 2)
xor_double a b =
    sym (add-zero (bit_xor a b * 2))
    ∙ sym (xor_block 1 a b 0 0 (omega arith) (omega arith))
    ∙ ap₂ bit_xor (add-zero (a * 2)) (add-zero (b * 2))

split2 : (v : ℕ) → v ≡ bit_xor (v / 2 * 2) (v % 2)
split2 v = sym (xor_shifted (v / 2) 1 (v % 2) (omega arith) ∙ omega arith)

pub by_values : (n : ℕ) (f : ℕ → ℕ) → Adds n f → (v : ℕ) → v < 2 ^ n → f v ≡ apply (values n f) v
unfolding apply
by_values zero f add v h = let e : v ≡ 0 = omega arith in ap f e ∙ adds_zero 0 f add
by_values (suc n) f add v h =
    ap f (split2 v)
    ∙ add (v / 2 * 2) (v % 2) (omega (arith, pow-suc 2 n)) (omega (arith, pow-suc 2 n, pow_pos n))
    ∙ xor_comm (f (v / 2 * 2)) (f (v % 2))
    ∙ ap₂ bit_xor low (by_values n (λ u. f (u * 2)) half (v / 2) (omega (arith, pow-suc 2 n)))
  where
    low : f (v % 2) ≡ f 1 * (v % 2)
    low = elim (digit (v % 2) (omega arith)) [
      | inl p ↦ rw (p, mul-zero (f 1)) (adds_zero (suc n) f add)
      | inr p ↦ rw (p, mul-one (f 1))
    ]

    half : Adds n (λ u. f (u * 2))
    half a b ha hb = ap f (xor_double a b) ∙ add (a * 2) (b * 2) (omega (arith, pow-suc 2 n)) (omega (arith, pow-suc 2 n))

-- two maps of bytes that keep sums and have the same columns
pub by_columns : (f : ℕ → ℕ) → Adds 8 f → (v : ℕ) → v < 256 → f v ≡ apply (columns f) v
by_columns f add v h = by_values 8 f add v h

pub same_columns : (f h : ℕ → ℕ) → Adds 8 f → Adds 8 h → columns f ≡ columns h → (v : ℕ) → v < 256 → f v ≡ h v
same_columns f h F H e v hv = by_columns f F v hv ∙ ap (λ (cs : List ℕ). apply cs v) e ∙ sym (by_columns h H v hv)
