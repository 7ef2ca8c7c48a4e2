-- Bytes of two digits each, from the first on. Assumes nothing.
use Rattle.std.proofs.Common.{◌≡◌, ℕ, zero, suc, ◌+◌, ◌-◌, ◌*◌, ◌/◌, ◌%◌, ◌<◌, ◌≤◌, List, [], ◌∷◌, ◌++◌, length, get_or, take, drop, set, Some, None, Option, sym, refl, ap, ◌∙◌, append_assoc, append-nil, add-one, arith, drop_of_length-le, take_all, drop-cons, le-leb, inl, inr, Bool, ◌&&◌, is_some}
use Rattle.std.proofs.lemmas.Bool.{lt-leb, cases_lt}
use Rattle.std.specs.List.{list_all}
use Rattle.std.proofs.lemmas.List.{take_more_set}
use Rattle.words.specs.Hex.{hex_byte, hex_value, two_digits}
use Rattle.sheets.specs.Forms.{in_front, bytes_of, sector_bytes}

-- more bytes, after the bytes xs
abbrev after : List ℕ → Option (List ℕ) → Option (List ℕ)
after xs None = None
after xs (Some ys) = Some (xs ++ ys)

after_none : (o : Option (List ℕ)) → o ≡ after [] o
after_none None = refl
after_none (Some ys) = refl

after_one : (xs : List ℕ) (x : ℕ) (o : Option (List ℕ)) → after xs (in_front (Some x) o) ≡ after (xs ++ x ∷ []) o
after_one xs x None = refl
after_one xs x (Some ys) = ap (λ zs. Some zs) (sym (append_assoc xs (x ∷ []) ys))

-- the first i bytes of bs are those of the digits ds
abbrev pub SoFar : List ℕ → ℕ → List ℕ → Type 0
SoFar ds i bs = bytes_of ds ≡ after (take i bs) (bytes_of (drop (2 * i) ds))

pub so_far_none : (ds bs : List ℕ) → SoFar ds 0 bs
so_far_none ds bs = after_none (bytes_of ds)

-- two digits at a place
two : (ds : List ℕ) (k : ℕ) → k + 1 < length ds → drop k ds ≡ get_or ds k 0 ∷ get_or ds (k + 1) 0 ∷ drop (k + 2) ds
two ds k h =
    let e : suc (suc k) ≡ k + 2 = omega arith in
    let l : suc k < length ds = omega arith in
    drop-cons ds k 0 (omega arith) ∙ ap (λ xs. get_or ds k 0 ∷ xs) (drop-cons ds (suc k) 0 l ∙ rw (e, add-one))

-- the byte of the digits from a place on
step : (ds : List ℕ) (i : ℕ) (o : Option ℕ) → 2 * i + 1 < length ds → o ≡ hex_byte (take (2 * i + 2 - 2 * i) (drop (2 * i) ds))
    → bytes_of (drop (2 * i) ds) ≡ in_front o (bytes_of (drop (2 * (i + 1)) ds))
unfolding bytes_of
step ds i o h e =
    let k : 2 * i + 2 ≡ 2 * (i + 1) = omega arith in
    let t : drop (2 * i) ds ≡ get_or ds (2 * i) 0 ∷ get_or ds (2 * i + 1) 0 ∷ drop (2 * (i + 1)) ds = two ds (2 * i) h ∙ rw k in
    let two : 2 * i + 2 - 2 * i ≡ 2 = omega arith in
    rw (e, two, t)

pub so_far_more : (ds : List ℕ) (i : ℕ) (bs : List ℕ) (v : ℕ) → i < length bs → 2 * i + 1 < length ds → Some v ≡ hex_byte (take (2 * i + 2 - 2 * i) (drop (2 * i) ds)) → SoFar ds i bs
    → SoFar ds (i + 1) (set bs i v)
so_far_more ds i bs v l h e s = s ∙ ap (after (take i bs)) (step ds i (Some v) h e) ∙ after_one (take i bs) v (bytes_of (drop (2 * (i + 1)) ds)) ∙ rw (take_more_set bs i v l)

pub so_far_bad : (ds : List ℕ) (i : ℕ) (bs : List ℕ) → 2 * i + 1 < length ds → None ≡ hex_byte (take (2 * i + 2 - 2 * i) (drop (2 * i) ds)) → SoFar ds i bs → bytes_of ds ≡ None
so_far_bad ds i bs h e s = s ∙ ap (after (take i bs)) (step ds i None h e)

pub so_far_all : (ds : List ℕ) (i : ℕ) (bs : List ℕ) → length bs ≤ i → length ds ≤ 2 * i → SoFar ds i bs → bytes_of ds ≡ Some bs
unfolding bytes_of
so_far_all ds i bs h l s = s ∙ rw (drop_of_length-le ds l, take_all i bs h, append-nil)

none_behind : (o : Option ℕ) → in_front o None ≡ None
none_behind None = refl
none_behind (Some b) = refl

-- an odd count of digits stands for no bytes
odd : (n : ℕ) (ds : List ℕ) → length ds ≡ 2 * n + 1 → bytes_of ds ≡ None
unfolding bytes_of
odd zero [] e = absurd (omega arith)
odd zero (a ∷ []) e = refl
odd zero (a ∷ b ∷ ds) e = absurd (omega arith)
odd (suc n) [] e = absurd (omega arith)
odd (suc n) (a ∷ []) e = refl
odd (suc n) (a ∷ b ∷ ds) e = rw (odd n ds (omega arith), none_behind)

sector_inside : (ds : List ℕ) → 2 ≤ length ds → length ds ≤ 512 → sector_bytes ds ≡ bytes_of ds
sector_inside ds h l = rw (le-leb 2 (length ds) h, le-leb (length ds) 512 l)

pub sector_none : (ds : List ℕ) → ¬ ((2 ≤ length ds) × (length ds ≤ 512) × (length ds % 2 ≡ 0)) → sector_bytes ds ≡ None
sector_none ds n =
    elim (cases_lt (length ds) 2) [
      | inl h ↦ rw (lt-leb 2 (length ds) h)
      | inr h ↦ elim (cases_lt 512 (length ds)) [
        | inl l ↦ rw (le-leb 2 (length ds) h, lt-leb (length ds) 512 l)
        | inr l ↦ let m : length ds % 2 ≡ 0 → ⊥ = λ e. n (h, l, e) in sector_inside ds h l ∙ odd (length ds / 2) ds (omega arith)
      ]
    ]

-- an even count of digits stands for bytes just if each of them is one
digit_pair : (a b : Option ℕ) (o : Option (List ℕ)) (t : Bool) → is_some o ≡ t → is_some (in_front (two_digits a b) o) ≡ (is_some a && (is_some b && t))
digit_pair None b o t e = refl
digit_pair (Some a) None o t e = refl
digit_pair (Some a) (Some b) None t e = e
digit_pair (Some a) (Some b) (Some bs) t e = e

even_digits : (n : ℕ) (ds : List ℕ) → length ds ≡ 2 * n → list_all (λ b. is_some (hex_value b)) ds ≡ is_some (bytes_of ds)
unfolding bytes_of
even_digits zero [] e = refl
even_digits zero (a ∷ ds) e = absurd (omega arith)
even_digits (suc n) [] e = refl
even_digits (suc n) (a ∷ []) e = absurd (omega arith)
even_digits (suc n) (a ∷ b ∷ ds) e =
    sym (digit_pair (hex_value a) (hex_value b) (bytes_of ds) (list_all (λ b. is_some (hex_value b)) ds) (sym (even_digits n ds (omega arith))))

pub sector_digits : (ds : List ℕ) → (2 ≤ length ds) × (length ds ≤ 512) × (length ds % 2 ≡ 0) → list_all (λ b. is_some (hex_value b)) ds ≡ is_some (sector_bytes ds)
sector_digits ds h = even_digits (length ds / 2) ds (omega arith) ∙ sym (ap is_some (sector_inside ds h.0 h.1))
