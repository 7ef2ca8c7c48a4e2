-- The reverse of a map of bytes, by columns. Assumes nothing.
use Rattle.std.proofs.Common.{◌≡◌, ℕ, zero, suc, ◌*◌, ◌/◌, ◌%◌, ◌^◌, ◌<◌, List, [], ◌∷◌, length, get_or, sym, refl, ap, ◌∙◌, ap₂, inl, inr, mul-zero, mul-one, arith, lit<, pow_pos}
use lib.Bits.{bit_xor, xor_zero_r, xor_lt}
use Rattle.towers.specs.Lawful.{Reverse}
use Rattle.towers.specs.Matrices.{columns, apply, Inverses}
use Rattle.towers.proofs.Linear.{digit, apply_add, Adds, values, adds_zero, by_columns, same_columns}
use native.Mathlib.Decide.{dec_lt}
use Rattle.towers.proofs.Finite.{onto}

pub apply_zero : (cs : List ℕ) → apply cs 0 ≡ 0
apply_zero cs = adds_zero 0 (apply cs) (λ a b ha hb. apply_add cs a b)

values_same : (n : ℕ) (f h : ℕ → ℕ) → ((u : ℕ) → f u ≡ h u) → values n f ≡ values n h
values_same zero f h e = refl
values_same (suc n) f h e = ap₂ ◌∷◌ (e 1) (values_same n (λ u. f (u * 2)) (λ u. h (u * 2)) (λ u. e (u * 2)))

-- a matrix has its columns as the values at 1, 2, 4 and so on
columns_back : (cs : List ℕ) → values (length cs) (apply cs) ≡ cs
unfolding apply
columns_back [] = refl
columns_back (c ∷ cs) =
    ap₂ ◌∷◌ (ap₂ bit_xor (mul-one c) (apply_zero cs) ∙ xor_zero_r c)
    (values_same (length cs) (λ u. apply (c ∷ cs) (u * 2)) (apply cs) (λ u.
    let p : u * 2 % 2 ≡ 0 = omega arith in
    let q : u * 2 / 2 ≡ u = omega arith in
    ap₂ (λ (x y : ℕ). bit_xor (c * x) (apply cs y)) p q ∙ ap (λ (x : ℕ). bit_xor x (apply cs u)) (mul-zero c))
    ∙ columns_back cs)

pub eight_columns : (cs : List ℕ) → length cs ≡ 8 → columns (apply cs) ≡ cs
eight_columns cs e = ap (λ (n : ℕ). values n (apply cs)) (sym e) ∙ columns_back cs

scale_lt : (w c v : ℕ) → c < 2 ^ w → c * (v % 2) < 2 ^ w
scale_lt w c v h = elim (digit (v % 2) (omega arith)) [ inl p ↦ rw (p, mul-zero) (pow_pos w) | inr p ↦ rw (p, mul-one) h ]

pub apply_lt : (w : ℕ) (cs : List ℕ) → ((i : ℕ) → i < length cs → get_or cs i 0 < 2 ^ w) → (v : ℕ) → apply cs v < 2 ^ w
unfolding apply
apply_lt w [] h v = pow_pos w
apply_lt w (c ∷ cs) h v =
    xor_lt w _ _ (scale_lt w c v (h 0 (omega arith))) (apply_lt w cs (λ i l. h (suc i) (omega arith)) (v / 2))

-- the columns that m takes to 1, 2, 4 and so on are those of the reverse map
module _ (m : ℕ → ℕ) (adds : Adds 8 m) (byte : (a : ℕ) → a < 256 → m a < 256) (once : (a b : ℕ) → a < 256 → b < 256 → m a ≡ m b → a ≡ b)
    (bs : List ℕ) (size : length bs ≡ 8) (below : (i : ℕ) → i < 8 → get_or bs i 0 < 256) (hits : (i : ℕ) → i < 8 → m (get_or bs i 0) ≡ 2 ^ i) where
  bs_lt : (v : ℕ) → apply bs v < 256
  bs_lt = apply_lt 8 bs (λ i h. below i (omega arith))

  hit : (i : ℕ) → i < 8 → m (get_or (columns (apply bs)) i 0) ≡ 2 ^ i
  hit i h = ap (λ (cs : List ℕ). m (get_or cs i 0)) (eight_columns bs size) ∙ hits i h

  there : (b : ℕ) → b < 256 → m (apply bs b) ≡ b
  there = same_columns (λ b. m (apply bs b)) (λ b. b)
      (λ a b ha hb. ap m (apply_add bs a b) ∙ adds (apply bs a) (apply bs b) (bs_lt a) (bs_lt b))
      (λ a b ha hb. refl)
      (λ i. hit 0 (lit< tt) i ∷ hit 1 (lit< tt) i ∷ hit 2 (lit< tt) i ∷ hit 3 (lit< tt) i ∷ hit 4 (lit< tt) i ∷ hit 5 (lit< tt) i ∷ hit 6 (lit< tt) i ∷ hit 7 (lit< tt) i ∷ [])

  pub reverse_of : Reverse m (apply bs)
  reverse_of = record {
    byte = λ b hb. bs_lt b;
    there = there;
    back = λ a ha. once (apply bs (m a)) a (bs_lt (m a)) ha (there (m a) (byte a ha));
  }

-- a map of bytes that takes no byte twice has a reverse map
pub has_reverse : (m : ℕ → ℕ) → ((a : ℕ) → a < 256 → m a < 256) → ((a b : ℕ) → a < 256 → b < 256 → m a ≡ m b → a ≡ b) → (n : ℕ → ℕ) × Reverse m n
has_reverse m byte once = (
  λ b. from b (dec_lt b 256),
  record {
    byte = λ b h. from_lt b h (dec_lt b 256);
    there = λ b h. there b h (dec_lt b 256);
    back = λ a h. once (from (m a) (dec_lt (m a) 256)) a (from_lt (m a) (byte a h) (dec_lt (m a) 256)) h (there (m a) (byte a h) (dec_lt (m a) 256));
  },
)
  where
    from : (b : ℕ) → Dec (b < 256) → ℕ
    from b (yes h) = (onto 256 m byte once b h).0
    from b (no n) = 0

    from_lt : (b : ℕ) → b < 256 → (d : Dec (b < 256)) → from b d < 256
    from_lt b h (yes k) = (onto 256 m byte once b k).1
    from_lt b h (no n) = absurd (n h)

    there : (b : ℕ) → b < 256 → (d : Dec (b < 256)) → m (from b d) ≡ b
    there b h (yes k) = (onto 256 m byte once b k).2
    there b h (no n) = absurd (n h)

-- the matrices of a lawful pair multiply to the unit matrix
module _ (m : ℕ → ℕ) (adds : Adds 8 m) (byte : (a : ℕ) → a < 256 → m a < 256) (once : (a b : ℕ) → a < 256 → b < 256 → m a ≡ m b → a ≡ b)
    (n : ℕ → ℕ) (N : Reverse m n) where
  pub reverse_adds : Adds 8 n
  reverse_adds a b ha hb =
      once (n (bit_xor a b)) (bit_xor (n a) (n b)) (N.byte (bit_xor a b) (xor_lt 8 a b ha hb)) (xor_lt 8 (n a) (n b) (N.byte a ha) (N.byte b hb))
      (N.there (bit_xor a b) (xor_lt 8 a b ha hb) ∙ ap₂ bit_xor (sym (N.there a ha)) (sym (N.there b hb)) ∙ sym (adds (n a) (n b) (N.byte a ha) (N.byte b hb)))

  to : (b : ℕ) → b < 256 → apply (columns m) (n b) ≡ b
  to b h = sym (by_columns m adds (n b) (N.byte b h)) ∙ N.there b h

  fro : (a : ℕ) → a < 256 → apply (columns n) (m a) ≡ a
  fro a h = sym (by_columns n reverse_adds (m a) (byte a h)) ∙ N.back a h

  pub inverses_of : Inverses (columns m) (columns n)
  inverses_of = record {
    left = λ i. to 1 (lit< tt) i ∷ to 2 (lit< tt) i ∷ to 4 (lit< tt) i ∷ to 8 (lit< tt) i ∷ to 16 (lit< tt) i ∷ to 32 (lit< tt) i ∷ to 64 (lit< tt) i ∷ to 128 (lit< tt) i ∷ [];
    right = λ i. fro 1 (lit< tt) i ∷ fro 2 (lit< tt) i ∷ fro 4 (lit< tt) i ∷ fro 8 (lit< tt) i ∷ fro 16 (lit< tt) i ∷ fro 32 (lit< tt) i ∷ fro 64 (lit< tt) i ∷ fro 128 (lit< tt) i ∷ [];
  }
