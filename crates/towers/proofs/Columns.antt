-- Steps of the loops over columns. Assumes nothing.
use Rattle.std.proofs.Common.{◌≡◌, ℕ, zero, suc, ◌+◌, ◌*◌, ◌/◌, ◌%◌, ◌<◌, ◌≤◌, List, ◌∷◌, length, get_or, drop, sym, refl, ap, ◌∙◌, mul-zero, mul-one, arith}
use lib.Bits.{bit_xor, xor_assoc, xor_zero_r}
use Rattle.std.proofs.lemmas.List.{at_drop_more, at_drop_all}
use Rattle.towers.specs.Matrices.{apply}

apply_cons : (c : ℕ) (cs : List ℕ) (v : ℕ) → apply (c ∷ cs) v ≡ bit_xor (c * (v % 2)) (apply cs (v / 2))
unfolding apply
apply_cons c cs v = refl

at_drop : (cs : List ℕ) (i v : ℕ) → i < length cs → apply (drop i cs) v ≡ bit_xor (get_or cs i 0 * (v % 2)) (apply (drop (i + 1) cs) (v / 2))
at_drop cs i v h = at_drop_more (λ xs. apply xs v) cs i 0 h ∙ apply_cons (get_or cs i 0) (drop (i + 1) cs) v

-- one column more, marked or not
pub marked : (cs : List ℕ) (i s v t : ℕ) → i < length cs → v % 2 ≡ 1 → bit_xor s (apply (drop i cs) v) ≡ t
    → bit_xor (bit_xor s (get_or cs i 0)) (apply (drop (i + 1) cs) (v / 2)) ≡ t
marked cs i s v t h e inv =
    xor_assoc s (get_or cs i 0) (apply (drop (i + 1) cs) (v / 2))
    ∙ ap (bit_xor s) (ap (λ (x : ℕ). bit_xor x (apply (drop (i + 1) cs) (v / 2))) (sym (ap (λ (x : ℕ). get_or cs i 0 * x) e ∙ mul-one (get_or cs i 0))) ∙ sym (at_drop cs i v h))
    ∙ inv

pub unmarked : (cs : List ℕ) (i s v t : ℕ) → i < length cs → (v % 2 ≡ 1 → ⊥) → bit_xor s (apply (drop i cs) v) ≡ t
    → bit_xor s (apply (drop (i + 1) cs) (v / 2)) ≡ t
unmarked cs i s v t h n inv =
    let e : v % 2 ≡ 0 = omega arith in
    ap (bit_xor s) (sym (at_drop cs i v h ∙ ap (λ (x : ℕ). bit_xor x (apply (drop (i + 1) cs) (v / 2))) (ap (λ (x : ℕ). get_or cs i 0 * x) e ∙ mul-zero (get_or cs i 0)))) ∙ inv

pub all_marked : (cs : List ℕ) (i s v t : ℕ) → length cs ≤ i → bit_xor s (apply (drop i cs) v) ≡ t → s ≡ t
unfolding apply
all_marked cs i s v t h inv = sym (ap (bit_xor s) (at_drop_all (λ xs. apply xs v) cs i h) ∙ xor_zero_r s) ∙ inv

-- what holds at each of four or eight places
pub at_four : (P : ℕ → Type 0) → P 0 → P 1 → P 2 → P 3 → (i : ℕ) → i < 4 → P i
at_four P a b c d zero h = a
at_four P a b c d (suc zero) h = b
at_four P a b c d (suc (suc zero)) h = c
at_four P a b c d (suc (suc (suc zero))) h = d
at_four P a b c d (suc (suc (suc (suc i)))) h = absurd (omega arith)

pub at_eight : (P : ℕ → Type 0) → P 0 → P 1 → P 2 → P 3 → P 4 → P 5 → P 6 → P 7 → (i : ℕ) → i < 8 → P i
at_eight P a b c d e f g k zero h = a
at_eight P a b c d e f g k (suc zero) h = b
at_eight P a b c d e f g k (suc (suc zero)) h = c
at_eight P a b c d e f g k (suc (suc (suc zero))) h = d
at_eight P a b c d e f g k (suc (suc (suc (suc i)))) h = at_four (λ j. P (suc (suc (suc (suc j))))) e f g k i (omega arith)
