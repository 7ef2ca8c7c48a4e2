-- The grammar of a sheet, from that of its words up. Assumes nothing.
use Rattle.std.proofs.Common.{◌≡◌, ℕ, zero, suc, List, [], ◌∷◌, ◌++◌, length, flat_map, All, Some, Option, sym, refl, ap, ◌∙◌, append-nil}
use Rattle.std.proofs.lemmas.List.Elements.{All-nil, All-cons, All-head, All-tail}
use Rattle.ciphers.specs.declared.keys.Cipher.TheVariants.{Aes}
use Rattle.watch.specs.declared.side.Side.{Side}
use Rattle.watch.specs.declared.side.Side.TheVariants.{First}
use Rattle.sheets.specs.Contents.{Item, fit_item, key_item, sector_item, Contents}
use Rattle.sheets.specs.Spots.{Spot}
use Rattle.sheets.specs.Forms.{count_of, side_of, cipher_of, octic_of, key_bytes, sector_bytes, bytes_of}
use Rattle.sheets.specs.Readings.{Reading, got, word_as, then, times, section}
use Rattle.sheets.specs.Sheets.{fit_read, key_read, sector_read, sections}
use Rattle.sheets.specs.Good.{Meaning, a_count, an_end, a_cipher, an_octic, a_key, a_sector, StandsFor, Spell, entry_meanings, section_meanings, IsFit, IsKey, IsSector, Makes}
use Rattle.sheets.proofs.Grammar.{Grammar, One, word_grammar, NoWord, no_word_grammar, Both, seq_grammar, grammar_alike}

-- ---- words and what they stand for

none_spelled : (ws : List (List ℕ)) → Spell ws [] → ws ≡ []
none_spelled [] s = refl
none_spelled (w ∷ ws) s = absurd s

one_spelled : (m : Meaning) (ms : List Meaning) (ws : List (List ℕ)) → Spell ws (m ∷ ms)
    → (w : List ℕ) × (b : List (List ℕ)) × (ws ≡ w ∷ b) × StandsFor w m × Spell b ms
one_spelled m ms [] s = absurd s
one_spelled m ms (w ∷ ws) s = (w, ws, refl, s.0, s.1)

spell_both : (ms ns : List Meaning) (ws vs : List (List ℕ)) → Spell ws ms → Spell vs ns → Spell (ws ++ vs) (ms ++ ns)
spell_both [] ns [] vs s t = t
spell_both [] ns (w ∷ ws) vs s t = absurd s
spell_both (m ∷ ms) ns [] vs s t = absurd s
spell_both (m ∷ ms) ns (w ∷ ws) vs s t = (s.0, spell_both ms ns ws vs s.1 t)

both_spelled : (ms ns : List Meaning) (ws : List (List ℕ)) → Spell ws (ms ++ ns) → (a : List (List ℕ)) × (b : List (List ℕ)) × (ws ≡ a ++ b) × Spell a ms × Spell b ns
both_spelled [] ns ws s = ([], ws, refl, tt, s)
both_spelled (m ∷ ms) ns [] s = absurd s
both_spelled (m ∷ ms) ns (w ∷ ws) s = let r = both_spelled ms ns ws s.1 in (w ∷ r.0, r.1, ap (λ us. w ∷ us) r.2, (s.0, r.3), r.4)

-- ---- single words

count_grammar : Grammar (word_as count_of) (One count_of)
count_grammar = word_grammar count_of (48 ∷ []) 0 refl

side_grammar : Grammar (word_as side_of) (One side_of)
side_grammar = word_grammar side_of (72 ∷ []) First refl

cipher_grammar : Grammar (word_as cipher_of) (One cipher_of)
cipher_grammar = word_grammar cipher_of (65 ∷ []) Aes refl

octic_grammar : Grammar (word_as octic_of) (One octic_of)
octic_grammar = word_grammar octic_of (48 ∷ 48 ∷ 48 ∷ []) 0 refl

-- digits of zeros, two to a byte
zeros : ℕ → List ℕ
zeros zero = []
zeros (suc n) = 48 ∷ 48 ∷ zeros n

key_grammar : Grammar (word_as key_bytes) (One key_bytes)
unfolding zeros bytes_of
key_grammar = word_grammar key_bytes (zeros 16) (0 ∷ 0 ∷ 0 ∷ 0 ∷ 0 ∷ 0 ∷ 0 ∷ 0 ∷ 0 ∷ 0 ∷ 0 ∷ 0 ∷ 0 ∷ 0 ∷ 0 ∷ 0 ∷ []) refl

sector_grammar : Grammar (word_as sector_bytes) (One sector_bytes)
unfolding bytes_of
sector_grammar = word_grammar sector_bytes (48 ∷ 48 ∷ []) (0 ∷ []) refl

-- ---- entries

-- the words of an entry of a kind
abbrev Entry : (Item → Type 0) → Item → List (List ℕ) → Type 0
Entry K x ws = K x × Spell ws (entry_meanings x)

-- an entry of an end and one word more, which stands for a value by f, and has the meaning m of it
module _ {V : Type 0} (f : List ℕ → Option V) (word : Grammar (word_as f) (One f)) (m : V → Meaning) (item : Side → V → Item)
    (to : (w : List ℕ) (v : V) → f w ≡ Some v → StandsFor w (m v)) (from : (w : List ℕ) (v : V) → StandsFor w (m v) → f w ≡ Some v)
    (are : (s : Side) (v : V) → entry_meanings (item s v) ≡ an_end s ∷ m v ∷ []) where
  abbrev pub IsPair : Item → Type 0
  IsPair x = (s : Side) × (v : V) × (x ≡ item s v)

  abbrev PairWords : Item → List (List ℕ) → Type 0
  PairWords = Both (One side_of) (λ s. Both (One f) (λ v. NoWord (item s v)))

  to_pair : (x : Item) (ws : List (List ℕ)) → PairWords x ws → Entry IsPair x ws
  to_pair x ws r =
      let t = r.5 in
      ((r.0, t.0, t.5.0), rw (t.5.0, are r.0 t.0, r.3, r.4.1, t.3, t.4.1, t.5.1) (r.4.2, (to t.4.0 t.0 t.4.2, tt)))

  from_pair : (x : Item) (ws : List (List ℕ)) → Entry IsPair x ws → PairWords x ws
  from_pair x ws k =
      let i = k.0 in
      let h = one_spelled (an_end i.0) (m i.1 ∷ []) ws (rw (i.2, are i.0 i.1) at k.1) in
      let t = one_spelled (m i.1) [] h.1 h.4 in
      (i.0, h.0 ∷ [], h.1, h.2, (h.0, refl, h.3), (i.1, t.0 ∷ [], t.1, t.2, (t.0, refl, from t.0 i.1 t.3), (i.2, none_spelled t.1 t.4)))

  pair_grammar : Grammar (λ end ws. then (word_as side_of end ws) (λ s vs. then (word_as f end vs) (λ v us. got (item s v) us))) (Entry IsPair)
  pair_grammar = grammar_alike to_pair from_pair (seq_grammar side_grammar (λ s. seq_grammar word (λ v. no_word_grammar (item s v))))

fit_grammar : Grammar fit_read (Entry IsFit)
fit_grammar = pair_grammar octic_of octic_grammar (λ o. an_octic o) (λ s o. fit_item s o) (λ w v e. e) (λ w v e. e) (λ s v. refl)

sector_entry_grammar : Grammar sector_read (Entry IsSector)
sector_entry_grammar = pair_grammar sector_bytes sector_grammar (λ b. a_sector b) (λ s b. sector_item s b) (λ w v e. e) (λ w v e. e) (λ s v. refl)

abbrev KeyWords : Item → List (List ℕ) → Type 0
KeyWords = Both (One side_of) (λ s. Both (One cipher_of) (λ c. Both (One key_bytes) (λ k. NoWord (key_item s c k))))

to_key : (x : Item) (ws : List (List ℕ)) → KeyWords x ws → Entry IsKey x ws
to_key x ws r =
    let t = r.5 in
    let q = t.5 in
    ((r.0, t.0, q.0, q.5.0), rw (q.5.0, r.3, r.4.1, t.3, t.4.1, q.3, q.4.1, q.5.1) (r.4.2, (t.4.2, (q.4.2, tt))))

from_key : (x : Item) (ws : List (List ℕ)) → Entry IsKey x ws → KeyWords x ws
from_key x ws k =
    let i = k.0 in
    let h = one_spelled (an_end i.0) (a_cipher i.1 ∷ a_key i.2 ∷ []) ws (rw i.3 at k.1) in
    let t = one_spelled (a_cipher i.1) (a_key i.2 ∷ []) h.1 h.4 in
    let q = one_spelled (a_key i.2) [] t.1 t.4 in (
      i.0,
      h.0 ∷ [],
      h.1,
      h.2,
      (h.0, refl, h.3),
      (i.1, t.0 ∷ [], t.1, t.2, (t.0, refl, t.3), (i.2, q.0 ∷ [], q.1, q.2, (q.0, refl, q.3), (i.3, none_spelled q.1 q.4))),
    )

key_entry_grammar : Grammar key_read (Entry IsKey)
key_entry_grammar =
    grammar_alike to_key from_key
    (seq_grammar side_grammar (λ s. seq_grammar cipher_grammar (λ c. seq_grammar key_grammar (λ k. no_word_grammar (key_item s c k)))))

-- ---- sections

-- the words of a section with entries of a kind
abbrev Section : (Item → Type 0) → List Item → List (List ℕ) → Type 0
Section K xs ws = All K xs × Spell ws (section_meanings xs)

-- the words of entries of one kind
module _ (one : ℕ → List Spot → Reading Item) (K : Item → Type 0) (g : Grammar one (Entry K)) where
  abbrev Entries : ℕ → List Item → List (List ℕ) → Type 0
  Entries n xs ws = (length xs ≡ n) × All K xs × Spell ws (flat_map entry_meanings xs)

  to_none : (xs : List Item) (ws : List (List ℕ)) → NoWord [] xs ws → Entries 0 xs ws
  to_none xs ws r = rw (r.0, r.1) (refl, All-nil K, tt)

  from_none : (xs : List Item) (ws : List (List ℕ)) → Entries 0 xs ws → NoWord [] xs ws
  from_none [] ws k = (refl, none_spelled ws k.2)
  from_none (x ∷ xs) ws k = absurd (let e = k.0 in cc)

  abbrev MoreWords : ℕ → List Item → List (List ℕ) → Type 0
  MoreWords n = Both (Entry K) (λ x. Both (Entries n) (λ xs. NoWord (x ∷ xs)))

  to_more : (n : ℕ) (us : List Item) (ws : List (List ℕ)) → MoreWords n us ws → Entries (suc n) us ws
  to_more n us ws r =
      let t = r.5 in
      rw (t.5.0, r.3, t.3, t.5.1, append-nil)
      (ap (λ m. suc m) t.4.0, All-cons K r.0 t.0 r.4.0 t.4.1, spell_both (entry_meanings r.0) (flat_map entry_meanings t.0) r.1 t.1 r.4.1 t.4.2)

  from_more : (n : ℕ) (us : List Item) (ws : List (List ℕ)) → Entries (suc n) us ws → MoreWords n us ws
  from_more n [] ws k = absurd (let e = k.0 in cc)
  from_more n (x ∷ xs) ws k =
      let s = both_spelled (entry_meanings x) (flat_map entry_meanings xs) ws k.2 in
      let l : length xs ≡ n = let e = k.0 in cc in
      (x, s.0, s.1, s.2, (All-head K x xs k.1, s.3), (xs, s.1, [], sym (append-nil s.1), (l, All-tail K x xs k.1, s.4), (refl, refl)))

  entries_grammar : (n : ℕ) → Grammar (λ end. times n (one end)) (Entries n)
  unfolding times
  entries_grammar zero = grammar_alike to_none from_none (no_word_grammar [])
  entries_grammar (suc n) = grammar_alike (to_more n) (from_more n) (seq_grammar g (λ x. seq_grammar (entries_grammar n) (λ xs. no_word_grammar (x ∷ xs))))

  to_section : (xs : List Item) (ws : List (List ℕ)) → Both (One count_of) Entries xs ws → Section K xs ws
  to_section xs ws r = let t = r.5 in (t.1, rw (r.3, r.4.1) (r.4.2 ∙ ap (λ n. Some n) (sym t.0), t.2))

  from_section : (xs : List Item) (ws : List (List ℕ)) → Section K xs ws → Both (One count_of) Entries xs ws
  from_section xs ws k =
      let h = one_spelled (a_count (length xs)) (flat_map entry_meanings xs) ws k.1 in
      (length xs, h.0 ∷ [], h.1, h.2, (h.0, refl, h.3), (refl, k.0, h.4))

  section_grammar : Grammar (section one) (Section K)
  section_grammar = grammar_alike to_section from_section (seq_grammar count_grammar entries_grammar)

-- ---- a sheet

abbrev whole : List Item → List Item → List Item → Contents
whole fs ks ss = record { fits = fs; keys = ks; sectors = ss }

abbrev SheetWords : Contents → List (List ℕ) → Type 0
SheetWords = Both (Section IsFit) (λ fs. Both (Section IsKey) (λ ks. Both (Section IsSector) (λ ss. NoWord (whole fs ks ss))))

to_sheet : (c : Contents) (ws : List (List ℕ)) → SheetWords c ws → Makes ws c
to_sheet c ws r =
    let t = r.5 in
    let q = t.5 in
    rw (q.5.0, r.3, t.3, q.3, q.5.1, append-nil) (
      (r.4.0, t.4.0, q.4.0),
      spell_both (section_meanings r.0) (section_meanings t.0 ++ section_meanings q.0) r.1 (t.1 ++ q.1) r.4.1
          (spell_both (section_meanings t.0) (section_meanings q.0) t.1 q.1 t.4.1 q.4.1),
    )

from_sheet : (c : Contents) (ws : List (List ℕ)) → Makes ws c → SheetWords c ws
from_sheet c ws k =
    let s = both_spelled (section_meanings c.fits) (section_meanings c.keys ++ section_meanings c.sectors) ws k.1 in
    let t = both_spelled (section_meanings c.keys) (section_meanings c.sectors) s.1 s.4 in
    (c.fits, s.0, s.1, s.2, (k.0.0, s.3), (c.keys, t.0, t.1, t.2, (k.0.1, t.3), (c.sectors, t.1, [], sym (append-nil t.1), (k.0.2, t.4), (refl, refl))))

pub sheet_grammar : Grammar sections (λ c ws. Makes ws c)
sheet_grammar =
    grammar_alike to_sheet from_sheet
    (seq_grammar (section_grammar fit_read IsFit fit_grammar)
    (λ fs.
    seq_grammar (section_grammar key_read IsKey key_entry_grammar)
    (λ ks. seq_grammar (section_grammar sector_read IsSector sector_entry_grammar) (λ ss. no_word_grammar (whole fs ks ss)))))
