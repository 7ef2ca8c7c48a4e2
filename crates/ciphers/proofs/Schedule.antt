-- The steps of the schedule of AES. Assumes nothing.
use Rattle.std.proofs.Common.{◌≡◌, ℕ, suc, ◌+◌, ◌-◌, ◌*◌, ◌/◌, ◌%◌, ◌<◌, ◌≤◌, List, [], ◌∷◌, ◌++◌, length, take, set, sym, ap, ◌∙◌, add-one, arith}
use Rattle.std.proofs.lemmas.List.{get_or-take, take_all, take_more_set, length-take-le, length-set}
use Rattle.rings.specs.Poly.{mul_mod}
use Rattle.ciphers.specs.Aes.{power, next_byte, expanded, key_expansion}

pub power_more : (i : ℕ) → power (i + 1) ≡ mul_mod 8 0x11b 2 (power i)
unfolding power
power_more i = rw add-one

module _ (box : ℕ → ℕ) where
  -- the next byte is worked out from those before it
  next_take : (w : List ℕ) (n : ℕ) → 16 ≤ n → next_byte box (take n w) (n / 4) (n % 4) ≡ next_byte box w (n / 4) (n % 4)
  unfolding next_byte
  next_take w n h =
      rw (get_or-take n w (4 * (n / 4 - 4) + n % 4) 0 (omega arith), get_or-take n w (4 * (n / 4 - 1) + (n % 4 + 1) % 4) 0 (omega arith), get_or-take n w (4 * (n / 4 - 1) + n % 4) 0 (omega arith))

  -- the first n of the 176 bytes of w are those of the schedule
  pub record Sofar (key w : List ℕ) (n : ℕ) : Type 0 where
    pub long : length w ≡ 176
    pub made : take n w ≡ expanded box key (n - 16)

  pub expanded_more : (key w : List ℕ) (n v : ℕ) → 16 ≤ n → n < 176 → v ≡ next_byte box w (n / 4) (n % 4) → Sofar key w n → Sofar key (set w n v) (n + 1)
  unfolding expanded
  expanded_more key w n v h l e so = record {
    long = length-set w n v ∙ so.long;
    made =
        let m : n + 1 - 16 ≡ suc (n - 16) = omega arith in
        let long = so.long in
        let le : n ≤ length w = omega arith in
        take_more_set w n v (omega arith)
        ∙ ap (λ (x : ℕ). take n w ++ (x ∷ [])) (e ∙ sym (next_take w n h) ∙ ap (λ (k : ℕ). next_byte box (take n w) (k / 4) (k % 4)) (sym (length-take-le n w le)))
        ∙ ap (λ (x : List ℕ). x ++ (next_byte box x (length x / 4) (length x % 4) ∷ [])) so.made
        ∙ ap (expanded box key) (sym m);
  }

  pub expanded_all : (key w : List ℕ) (n : ℕ) → n ≡ 176 → Sofar key w n → w ≡ key_expansion box key
  unfolding key_expansion
  expanded_all key w n e so =
      let long = so.long in
      sym (take_all n w (omega arith)) ∙ so.made ∙ ap (λ (x : ℕ). expanded box key (x - 16)) e
