-- What a sheet is read to or refused by, from the grammar of its words. Assumes nothing.
use Rattle.std.proofs.Common.{◌≡◌, ℕ, ◌<◌, ◌≤◌, List, [], ◌∷◌, ◌++◌, length, Ok, Err, Result, sym, refl, ap, ◌∙◌, subst, inl, inr, append_assoc, append-nil}
use Rattle.std.proofs.lemmas.Bool.{le-leb, lt-leb, cases_lt}
use Rattle.sheets.specs.declared.faults.Fault.{Fault}
use Rattle.sheets.specs.declared.faults.SheetRefusal.TheVariants.{TooLong, WordAfter}
use Rattle.sheets.specs.Contents.{Contents}
use Rattle.sheets.specs.Spots.{Spot, spot, spots}
use Rattle.sheets.specs.Readings.{got, bad}
use Rattle.sheets.specs.Sheets.{sections, ended, words_hold, sheet_of}
use Rattle.sheets.specs.Good.{Makes, GoodStart, WordDue, words, words_in, RefusedAt, Judged}
use Rattle.sheets.proofs.Grammar.{Outcome, done, short, wrong, Open, words_append}
use Rattle.sheets.proofs.SheetGrammar.{sheet_grammar}
use Rattle.sheets.proofs.Whole.{defined}

makes_read : (s : List ℕ) (c : Contents) → Makes (words_in s) c → words_hold s ≡ Ok c
makes_read s c m =
    defined s ∙ ap (λ (ws : List Spot). ended (sections (length s) ws)) (sym (append-nil (spots 0 s))) ∙ ap ended (sheet_grammar.reads c (spots 0 s) m (length s) [])

-- the words of a good sheet leave the word after them
left_over : (s : List ℕ) (c : Contents) (before : List Spot) (w : Spot) (after : List Spot) → spots 0 s ≡ before ++ w ∷ after → Makes (words before) c
    → words_hold s ≡ Err (record { refusal = WordAfter; place = w.place })
left_over s c before w after e m =
    defined s ∙ ap (λ (ws : List Spot). ended (sections (length s) ws)) e ∙ ap ended (sheet_grammar.reads c before m (length s) (w ∷ after))

word_due : (ws : List (List ℕ)) → Open (λ c ws. Makes ws c) ws → WordDue ws
word_due ws o = (o.1, (o.2, o.0, subst (λ us. Makes us o.0) (sym (append_assoc ws (o.1 ∷ []) o.2)) o.3))

-- words at any places
spots_of : List (List ℕ) → List Spot
spots_of [] = []
spots_of (w ∷ ws) = spot 0 w ∷ spots_of ws

words_back : (ws : List (List ℕ)) → words (spots_of ws) ≡ ws
unfolding spots_of
words_back [] = refl
words_back (w ∷ ws) = ap (λ us. w ∷ us) (words_back ws)

-- no good sheet begins with a word that is refused whatever follows
no_start : (before : List Spot) (w : Spot) → ((stop : ℕ) (others : List Spot) → sections stop (before ++ w ∷ others) ≡ bad w.place) → ¬ (GoodStart (words before ++ w.bytes ∷ []))
no_start before w h g =
    let us = before ++ w ∷ spots_of g.0 in
    let e : words us ≡ (words before ++ w.bytes ∷ []) ++ g.0
    = words_append before (w ∷ spots_of g.0) ∙ ap (λ (xs : List (List ℕ)). words before ++ w.bytes ∷ xs) (words_back g.0) ∙ sym (append_assoc (words before) (w.bytes ∷ []) g.0) in
    let r = sheet_grammar.reads g.1 us (subst (λ xs. Makes xs g.1) (sym e) g.2) 0 [] in
    let no : got g.1 [] ≡ bad w.place = sym r ∙ ap (sections 0) (append-nil us) ∙ h 0 (spots_of g.0) in
    cc

-- what a sheet comes to is what it says
abbrev Says : List ℕ → Result Contents Fault → Type 0
Says s (Ok c) = (length s ≤ 16384) × Makes (words_in s) c
Says s (Err f) = RefusedAt s f.refusal f.place

says_words : (s : List ℕ) → length s ≤ 16384 → Outcome sections (λ c ws. Makes ws c) (length s) (spots 0 s) → Says s (words_hold s)
says_words s h (done c us [] e m) =
    let w : Makes (words_in s) c = subst (λ ws. Makes (words ws) c) (sym (e ∙ append-nil us)) m in subst (Says s) (sym (makes_read s c w)) (h, w)
says_words s h (done c us (w ∷ rest) e m) = subst (Says s) (sym (left_over s c us w rest e m)) (h, (us, w.bytes, c, (rest, e), m))
says_words s h (short e o) = subst (Says s) (sym (defined s ∙ ap ended e)) (h, inl (refl, word_due (words_in s) o))
says_words s h (wrong before w after e r o) =
    subst (Says s) (sym (defined s ∙ ap (λ (ws : List Spot). ended (sections (length s) ws)) e ∙ ap ended (r (length s) after)))
    (h, inr (before, w.bytes, (after, e), word_due (words before) o, no_start before w r))

inside : (s : List ℕ) → length s ≤ 16384 → sheet_of s ≡ words_hold s
inside s h = rw (le-leb (length s) 16384 h)

outside : (s : List ℕ) → 16384 < length s → sheet_of s ≡ Err (record { refusal = TooLong; place = 16384 })
outside s h = rw (lt-leb (length s) 16384 h)

says : (s : List ℕ) → Says s (sheet_of s)
says s =
    elim (cases_lt 16384 (length s)) [
      | inl h ↦ subst (Says s) (sym (outside s h)) (h, refl)
      | inr h ↦ subst (Says s) (sym (inside s h)) (says_words s h (sheet_grammar.judge (length s) (spots 0 s)))
    ]

pub judged : (s : List ℕ) → Judged s
judged s = record { good = λ c. (λ e. subst (Says s) e (says s), λ m. inside s m.0 ∙ makes_read s c m.1); refused = λ f e. subst (Says s) e (says s) }
