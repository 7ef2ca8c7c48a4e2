-- The words from a place on: what a reader skips and takes. Assumes nothing.
use Rattle.std.proofs.Common.{◌≡◌, ℕ, zero, suc, ◌+◌, ◌-◌, ◌<◌, ◌≤◌, true, false, cond, eqb, List, [], ◌∷◌, length, get_or, take, drop, Some, None, Option, sym, refl, ap, ◌∙◌, subst, inl, inr, le_refl, add-one, arith, drop-cons, eq-eqb, ne_eqb}
use native.Mathlib.Decide.{ℕ_discrete}
use lib.Seq.{drop-length}
use Rattle.words.specs.declared.Word.{Word}
use Rattle.words.specs.Words.{Blank, Blanks, NoBlanks, First, Next}
use Rattle.sheets.specs.Spots.{Spot, spot, spots, blank, joined}
use Rattle.sheets.specs.Steps.{left_at, spot_of, Taken}

blank_yes : (b : ℕ) → Blank b → blank b ≡ true
blank_yes b (inl e) = rw (eq-eqb b 32 e)
blank_yes b (inr e) = rw e

blank_no : (b : ℕ) → (Blank b → ⊥) → blank b ≡ false
blank_no b n = rw (ne_eqb b 32 (λ e. n (inl e)), ne_eqb b 10 (λ e. n (inr e)))

-- the byte at a place is skipped, or begins a word
one : (s : List ℕ) (a : ℕ) → a < length s
    → left_at s a ≡ cond (blank (get_or s a 0)) (left_at s (a + 1)) (joined a (get_or s a 0) (left_at s (a + 1)))
unfolding spots
one s a h = rw (drop-cons s a 0 h, add-one)

skip : (s : List ℕ) (a : ℕ) → a < length s → Blank (get_or s a 0) → left_at s a ≡ left_at s (a + 1)
skip s a h e = one s a h ∙ rw (blank_yes (get_or s a 0) e)

begin : (s : List ℕ) (a : ℕ) → a < length s → (Blank (get_or s a 0) → ⊥) → left_at s a ≡ joined a (get_or s a 0) (left_at s (a + 1))
begin s a h e = one s a h ∙ rw (blank_no (get_or s a 0) e)

-- blanks are skipped
skips : (n : ℕ) (s : List ℕ) (a b : ℕ) → a + n ≡ b → b ≤ length s → Blanks s a b → left_at s a ≡ left_at s b
skips zero s a b e h bs = ap (left_at s) (omega arith)
skips (suc n) s a b e h bs = skip s a (omega arith) (bs a (le_refl a) (omega arith)) ∙ skips n s (a + 1) b (omega arith) h (λ k l m. bs k (omega arith) m)

none_at : (s : List ℕ) → left_at s (length s) ≡ []
unfolding spots
none_at s = rw (drop-length s)

-- the first of the words, if any, begins at k or later
abbrev From : ℕ → List Spot → Type 0
From k [] = Unit {0}
From k (w ∷ ws) = k ≤ w.place

from_less : (k : ℕ) (ws : List Spot) → From (k + 1) ws → From k ws
from_less k [] h = tt
from_less k (w ∷ ws) h = omega arith

from_joined : (k b : ℕ) (ws : List Spot) → From k (joined k b ws)
from_joined k b [] = le_refl k
from_joined k b (w ∷ ws) =
    elim (eqb w.place (k + 1)) as (λ t. From k (cond t (spot k (b ∷ w.bytes) ∷ ws) (spot k (b ∷ []) ∷ w ∷ ws))) [ true ↦ le_refl k | false ↦ le_refl k ]

from_spots : (k : ℕ) (bs : List ℕ) → From k (spots k bs)
unfolding spots
from_spots k [] = tt
from_spots k (b ∷ bs) =
    elim (blank b) as (λ t. From k (cond t (spots (k + 1) bs) (joined k b (spots (k + 1) bs)))) [
      | true ↦ from_less k (spots (k + 1) bs) (from_spots (k + 1) bs)
      | false ↦ from_joined k b (spots (k + 1) bs)
    ]

-- a byte that no word begins right after is a word of its own
apart : (k b : ℕ) (ws : List Spot) → From (k + 2) ws → joined k b ws ≡ spot k (b ∷ []) ∷ ws
apart k b [] h = refl
apart k b (w ∷ ws) h = rw (ne_eqb w.place (k + 1) (λ e. omega arith))

-- a byte joins a word that begins right after it
close : (k b j : ℕ) (bs : List ℕ) (ws : List Spot) → j ≡ k + 1 → joined k b (spot j bs ∷ ws) ≡ spot k (b ∷ bs) ∷ ws
close k b j bs ws e = rw (eq-eqb j (k + 1) e)

-- after the last byte of a word no word begins at once
after : (s : List ℕ) (a : ℕ) → a < length s → (a + 1 < length s → Blank (get_or s (a + 1) 0)) → From (a + 2) (left_at s (a + 1))
after s a h e =
    elim (ℕ_discrete (a + 1) (length s)) [
      | yes q ↦ let p : left_at s (a + 1) ≡ [] = ap (left_at s) q ∙ none_at s in subst (From (a + 2)) (sym p) tt
      | no n ↦ let l : a + 1 < length s = omega arith in
          let q : a + 1 + 1 ≡ a + 2 = omega arith in
          subst (From (a + 2)) (sym (skip s (a + 1) l (e l) ∙ ap (left_at s) q)) (from_spots (a + 2) (drop (a + 2) s))
    ]

-- a stretch without a blank that ends at a blank or the end is the first word
word_at : (n : ℕ) (s : List ℕ) (a b : ℕ) → a + n + 1 ≡ b → b ≤ length s → NoBlanks s a b → (b < length s → Blank (get_or s b 0))
    → left_at s a ≡ spot a (take (n + 1) (drop a s)) ∷ left_at s b
word_at zero s a b e h ns d =
    let l : a < length s = omega arith in
    let q : b ≡ a + 1 = omega arith in
    begin s a l (ns a (le_refl a) (omega arith))
    ∙ apart a (get_or s a 0) (left_at s (a + 1)) (after s a l (subst (λ (m : ℕ). m < length s → Blank (get_or s m 0)) q d))
    ∙ rw (q, drop-cons s a 0 l)
word_at (suc n) s a b e h ns d =
    let l : a < length s = omega arith in
    begin s a l (ns a (le_refl a) (omega arith))
    ∙ ap (joined a (get_or s a 0)) (word_at n s (a + 1) b (omega arith) h (λ k i m. ns k (omega arith) m) d)
    ∙ close a (get_or s a 0) (a + 1) (take (n + 1) (drop (a + 1) s)) (left_at s b) refl
    ∙ rw (drop-cons s a 0 l, add-one a, add-one n, add-one (suc n))

-- what the reader of words takes
first_left : (s : List ℕ) (a : ℕ) (w : Word) (b : ℕ) → First s a w b → left_at s a ≡ spot_of w ∷ left_at s b
first_left s a w b f =
    let q : b - w.place - 1 + 1 ≡ b - w.place = omega arith in
    skips (w.place - a) s a w.place (omega arith) (omega arith) f.skipped
    ∙ word_at (b - w.place - 1) s w.place b (omega arith) f.within f.whole f.ended
    ∙ ap (λ (x : List ℕ). spot w.place x ∷ left_at s b) (ap (λ (n : ℕ). take n (drop w.place s)) q ∙ sym f.part)

pub next_taken : (s : List ℕ) (a : ℕ) (o : Option Word) (b : ℕ) → a ≤ length s → Next s a o b → Taken (left_at s a) o (left_at s b)
next_taken s a None b h n = (
  skips (length s - a) s a (length s) (omega arith) (le_refl (length s)) n.0 ∙ none_at s,
  ap (left_at s) n.1 ∙ none_at s,
)
next_taken s a (Some w) b h n = first_left s a w b n
