-- Numbers of hexadecimal digits, from the first on. Assumes nothing.
use Rattle.std.proofs.Common.{◌≡◌, ℕ, ◌+◌, ◌*◌, ◌^◌, ◌<◌, ◌≤◌, List, [], ◌∷◌, length, get_or, drop, Some, None, Option, sym, refl, ap, ◌∙◌, add-one, arith, drop-cons, drop_of_length-le, eq-eqb, ne_eqb}
use Rattle.std.proofs.lemmas.Grind.{common_steps}
use Rattle.std.proofs.Math.Nat.{pow-le-pow_right}
use Rattle.std.specs.Option.{option_and_then}
use Rattle.words.specs.Hex.{hex_value, two_digits, hex_byte, three_digits, hex_triple, hex_behind, hex_number}

pub digit_short : (b v : ℕ) → Some v ≡ hex_value b → v < 16
digit_short b v e = grind (arith, common_steps)

-- the first i digits of ds stand for n
abbrev pub SoFar : List ℕ → ℕ → ℕ → Type 0
SoFar ds i n = (hex_behind 0 ds ≡ hex_behind n (drop i ds)) × (n < 16 ^ i)

-- the digits from a place on
step : (ds : List ℕ) (i n : ℕ) → i < length ds
    → hex_behind n (drop i ds) ≡ option_and_then (λ v. hex_behind (n * 16 + v) (drop (i + 1) ds)) (hex_value (get_or ds i 0))
unfolding hex_behind
step ds i n h = rw (drop-cons ds i 0 h, add-one)

short : (n i v : ℕ) → n < 16 ^ i → v < 16 → n * 16 + v < 16 ^ (i + 1)
short n i v h l = rw add-one (omega arith)

pub so_far_more : (ds : List ℕ) (i n v : ℕ) → i < length ds → Some v ≡ hex_value (get_or ds i 0) → SoFar ds i n → SoFar ds (i + 1) (n * 16 + v)
so_far_more ds i n v h e s = (
  s.0 ∙ step ds i n h ∙ ap (λ (o : Option ℕ). option_and_then (λ v. hex_behind (n * 16 + v) (drop (i + 1) ds)) o) (sym e),
  short n i v s.1 (digit_short (get_or ds i 0) v e),
)

pub so_far_bad : (ds : List ℕ) (i n count : ℕ) → length ds ≡ count → i < length ds → None ≡ hex_value (get_or ds i 0) → SoFar ds i n → None ≡ hex_number count ds
so_far_bad ds i n count l h e s =
    let bad : hex_behind 0 ds ≡ None = s.0 ∙ step ds i n h ∙ ap (λ (o : Option ℕ). option_and_then (λ v. hex_behind (n * 16 + v) (drop (i + 1) ds)) o) (sym e) in
    rw (eq-eqb (length ds) count l, bad)

pub so_far_all : (ds : List ℕ) (i n count : ℕ) → length ds ≡ count → length ds ≤ i → SoFar ds i n → Some n ≡ hex_number count ds
unfolding hex_behind
so_far_all ds i n count l h s = let all : hex_behind 0 ds ≡ Some n = s.0 ∙ rw (drop_of_length-le ds h) in rw (eq-eqb (length ds) count l, all)

-- another digit of at most 32 fits in 128 bits
pub fits : (n i : ℕ) → i < 32 → n < 16 ^ i → n * 16 + 15 < 2 ^ 128
fits n i h l =
    let p : 16 ^ (i + 1) ≤ 16 ^ 32 = pow-le-pow_right {n = 16} (omega arith) {i = i + 1} {j = 32} (omega arith) in
    omega (arith, short n i 15 l (omega arith))

two : (a b : Option ℕ) → two_digits a b ≡ option_and_then (λ v. option_and_then (λ w. Some ((0 * 16 + v) * 16 + w)) b) a
two None b = refl
two (Some a) None = refl
two (Some a) (Some b) = ap (λ n. Some n) (omega arith)

pub byte_is : (ds : List ℕ) → hex_number 2 ds ≡ hex_byte ds
unfolding hex_behind
byte_is [] = refl
byte_is (a ∷ []) = refl
byte_is (a ∷ b ∷ []) = sym (two (hex_value a) (hex_value b))
byte_is (a ∷ b ∷ c ∷ ds) = rw (ne_eqb (length (a ∷ b ∷ c ∷ ds)) 2 (λ e. omega arith))

three : (a b c : Option ℕ) → three_digits a b c ≡ option_and_then (λ v. option_and_then (λ w. option_and_then (λ x. Some (((0 * 16 + v) * 16 + w) * 16 + x)) c) b) a
three None b c = refl
three (Some a) None c = refl
three (Some a) (Some b) None = refl
three (Some a) (Some b) (Some c) = ap (λ n. Some n) (omega arith)

pub triple_is : (ds : List ℕ) → hex_number 3 ds ≡ hex_triple ds
unfolding hex_behind
triple_is [] = refl
triple_is (a ∷ []) = refl
triple_is (a ∷ b ∷ []) = refl
triple_is (a ∷ b ∷ c ∷ []) = sym (three (hex_value a) (hex_value b) (hex_value c))
triple_is (a ∷ b ∷ c ∷ d ∷ ds) = rw (ne_eqb (length (a ∷ b ∷ c ∷ d ∷ ds)) 3 (λ e. omega arith))
