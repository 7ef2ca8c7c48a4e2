-- Checking goes as reading does. Assumes nothing.
use Rattle.std.proofs.Common.{◌≡◌, ℕ, ◌+◌, ◌-◌, ◌<◌, ◌≤◌, List, [], ◌∷◌, length, Err, Result, refl, ap, ◌∙◌, arith}
use Rattle.sheets.specs.declared.faults.Fault.{Fault}
use Rattle.sheets.specs.declared.faults.SheetRefusal.{SheetRefusal}
use Rattle.sheets.specs.declared.faults.SheetRefusal.TheVariants.{BadWord}
use Rattle.sheets.specs.Checks.{bare, verdict}
use Rattle.sheets.specs.Contents.{Contents}
use Rattle.sheets.specs.Forms.{count_of}
use Rattle.sheets.specs.Spots.{Spot, spots}
use Rattle.sheets.specs.Readings.{Reading, got, bad, then, times, section, word_as}
use Rattle.sheets.specs.Sheets.{sections, ended, words_hold}
use Rattle.sheets.specs.Steps.{left_at, no_more}
use Rattle.sheets.proofs.Times.{times_one_more}
use Rattle.sheets.proofs.Whole.{defined}

bare_got : {A B : Type 0} (r : Reading A) (f : A → B) → bare (then r (λ x us. got (f x) us)) ≡ bare r
bare_got (got v vs) f = refl
bare_got (bad p) f = refl

bare_then : {A B : Type 0} (r : Reading A) (f : A → List Spot → Reading B) (vs : List Spot) (s : Reading (Unit {0})) → bare r ≡ got tt vs
    → ((x : A) → bare (f x vs) ≡ s) → bare (then r f) ≡ s
bare_then (got x us) f vs s e h = let q : us ≡ vs = cc in ap (λ (ts : List Spot). bare (f x ts)) q ∙ h x
bare_then (bad p) f vs s e h = absurd (cc)

bare_bad : {A B : Type 0} (r : Reading A) (f : A → List Spot → Reading B) (p : ℕ) → bare r ≡ bad p → bare (then r f) ≡ bad p
bare_bad (got x us) f p e = absurd (cc)
bare_bad (bad q) f p e = cc

-- one entry more, of n after i
pub checked_more : {A : Type 0} (one : List Spot → Reading A) (n i : ℕ) (ws vs : List Spot) → i < n → bare (one ws) ≡ got tt vs
    → bare (times (n - i) one ws) ≡ bare (times (n - (i + 1)) one vs)
checked_more {A} one n i ws vs h e =
    ap (λ (r : Reading (List A)). bare r) (times_one_more one n i ws h)
    ∙ bare_then (one ws) (λ x us. then (times (n - (i + 1)) one us) (λ xs ts. got (x ∷ xs) ts)) vs (bare (times (n - (i + 1)) one vs)) e
    (λ x. bare_got (times (n - (i + 1)) one vs) (λ xs. x ∷ xs))

-- a bad one
pub checked_bad : {A : Type 0} (one : List Spot → Reading A) (n i : ℕ) (ws : List Spot) (p : ℕ) → i < n → bare (one ws) ≡ bad p
    → bare (times (n - i) one ws) ≡ bad p
checked_bad {A} one n i ws p h e =
    ap (λ (r : Reading (List A)). bare r) (times_one_more one n i ws h)
    ∙ bare_bad (one ws) (λ x us. then (times (n - (i + 1)) one us) (λ xs ts. got (x ∷ xs) ts)) p e

-- all of them
pub checked_all : {A : Type 0} (one : List Spot → Reading A) (n i : ℕ) (ws : List Spot) → n ≤ i → bare (times (n - i) one ws) ≡ got tt ws
unfolding times
checked_all one n i ws h = let k : n - i ≡ 0 = omega arith in ap (λ (m : ℕ). bare (times m one ws)) k

-- a section, from its count and its entries
pub section_checked : {A : Type 0} (one : ℕ → List Spot → Reading A) (end n : ℕ) (ws vs : List Spot) (r : Reading (Unit {0})) → word_as count_of end ws ≡ got n vs
    → bare (times n (one end) vs) ≡ r → bare (section one end ws) ≡ r
section_checked one end n ws vs r e f = ap (λ (o : Reading ℕ). bare (then o (λ m. times m (one end)))) e ∙ f

-- what the check answers after the sections
abbrev pub closed : Reading (Unit {0}) → Result (Unit {0}) Fault
closed (got u ws) = no_more ws
closed (bad p) = Err (record { refusal = BadWord; place = p })

closed_bare : (r : Reading Contents) → verdict (ended r) ≡ closed (bare r)
closed_bare (got c []) = refl
closed_bare (got c (w ∷ ws)) = refl
closed_bare (bad p) = refl

pub words_checked : (s t : List ℕ) (a : ℕ) (r : Reading (Unit {0})) → (t ≡ s) × (a ≡ 0) → bare (sections (length s) (left_at t a)) ≡ r → verdict (words_hold s) ≡ closed r
words_checked s t a r i e =
    let q : spots 0 s ≡ left_at t a = rw (i.0, i.1) in
    ap verdict (defined s) ∙ closed_bare (sections (length s) (spots 0 s)) ∙ ap closed (ap (λ (ws : List Spot). bare (sections (length s) ws)) q ∙ e)

pub bad_closed : (f : Fault) → f.refusal ≡ BadWord → Err f ≡ closed (bad f.place)
bad_closed f e = let g : SheetRefusal → Result (Unit {0}) Fault = λ r. Err (record { refusal = r; place = f.place }) in ap g e
