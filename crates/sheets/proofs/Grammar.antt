-- Readings by grammars: a reading takes the words that make a value, and stops at the first word after which nothing makes one.
-- Assumes nothing.
use Rattle.std.proofs.Common.{◌≡◌, ℕ, List, [], ◌∷◌, ◌++◌, Some, None, Option, sym, refl, ap, ◌∙◌, subst, append_assoc}
use mathlib.Core.List.{map-append}
use Rattle.sheets.specs.Spots.{Spot}
use Rattle.sheets.specs.Readings.{Reading, got, bad, as_word, word_as, then}
use Rattle.sheets.specs.Good.{words}

-- the words ws go on to some that make a value
abbrev pub Open : {A : Type 0} → (A → List (List ℕ) → Type 0) → List (List ℕ) → Type 0
Open {A} W ws = (v : A) × (x : List ℕ) × (more : List (List ℕ)) × W v (ws ++ x ∷ more)

-- what the reading R of values whose words are W comes to: it reads a value; or the words end too early; or a word is wrong
pub data Outcome {A : Type 0} (R : ℕ → List Spot → Reading A) (W : A → List (List ℕ) → Type 0) (end : ℕ) (ws : List Spot) : Type 0 where
  done : (v : A) (us rest : List Spot) → ws ≡ us ++ rest → W v (words us) → Outcome R W end ws
  short : R end ws ≡ bad end → Open W (words ws) → Outcome R W end ws
  wrong : (before : List Spot) (w : Spot) (after : List Spot) → ws ≡ before ++ w ∷ after
      → ((stop : ℕ) (others : List Spot) → R stop (before ++ w ∷ others) ≡ bad w.place) → Open W (words before) → Outcome R W end ws

-- the words of a value are read to it, whatever follows
pub record Grammar {A : Type 0} (R : ℕ → List Spot → Reading A) (W : A → List (List ℕ) → Type 0) : Type 0 where
  pub reads : (v : A) (us : List Spot) → W v (words us) → (end : ℕ) (rest : List Spot) → R end (us ++ rest) ≡ got v rest
  pub judge : (end : ℕ) (ws : List Spot) → Outcome R W end ws

-- ---- one word

abbrev pub One : {A : Type 0} → (List ℕ → Option A) → A → List (List ℕ) → Type 0
One f v ws = (w : List ℕ) × (ws ≡ w ∷ []) × (f w ≡ Some v)

-- d stands for x, so that words can go on
module _ {A : Type 0} (f : List ℕ → Option A) (d : List ℕ) (x : A) (given : f d ≡ Some x) where
  word_reads : (v : A) (us : List Spot) → One f v (words us) → (end : ℕ) (rest : List Spot) → word_as f end (us ++ rest) ≡ got v rest
  word_reads v [] o end rest = absurd (let e = o.1 in cc)
  word_reads v (u ∷ []) o end rest = let e : u.bytes ≡ o.0 = let h = o.1 in cc in ap (as_word u rest) (ap f e ∙ o.2)
  word_reads v (u ∷ t ∷ us) o end rest = absurd (let e = o.1 in cc)

  word_judged : (end : ℕ) (w : Spot) (ws : List Spot) (o : Option A) → f w.bytes ≡ o → Outcome (word_as f) (One f) end (w ∷ ws)
  word_judged end w ws None e = wrong [] w ws refl (λ stop others. ap (as_word w others) e) (x, d, [], (d, refl, given))
  word_judged end w ws (Some v) e = done v (w ∷ []) ws refl (w.bytes, refl, e)

  word_judge : (end : ℕ) (ws : List Spot) → Outcome (word_as f) (One f) end ws
  word_judge end [] = short refl (x, d, [], (d, refl, given))
  word_judge end (w ∷ ws) = word_judged end w ws (f w.bytes) refl

  pub word_grammar : Grammar (word_as f) (One f)
  word_grammar = record { reads = word_reads; judge = word_judge }

-- ---- no word

abbrev pub NoWord : {A : Type 0} → A → A → List (List ℕ) → Type 0
NoWord u v ws = (v ≡ u) × (ws ≡ [])

no_word_reads : {A : Type 0} (u v : A) (us : List Spot) → NoWord u v (words us) → (end : ℕ) (rest : List Spot) → got u (us ++ rest) ≡ got v rest
no_word_reads u v [] k end rest = ap (λ y. got y rest) (sym k.0)
no_word_reads u v (w ∷ us) k end rest = absurd (let e = k.1 in cc)

pub no_word_grammar : {A : Type 0} (u : A) → Grammar (λ end ws. got u ws) (NoWord u)
no_word_grammar u = record { reads = no_word_reads u; judge = λ end ws. done u [] ws refl (refl, refl) }

-- ---- one reading, and then another

abbrev pub Both : {A B : Type 0} → (A → List (List ℕ) → Type 0) → (A → B → List (List ℕ) → Type 0) → B → List (List ℕ) → Type 0
Both {A} W V u ws = (v : A) × (a : List (List ℕ)) × (b : List (List ℕ)) × (ws ≡ a ++ b) × W v a × V v u b

-- words of which the first are a, and the rest b
abbrev Cut : List Spot → List (List ℕ) → List (List ℕ) → Type 0
Cut us a b = (l : List Spot) × (r : List Spot) × (us ≡ l ++ r) × (words l ≡ a) × (words r ≡ b)

cut_more : (u : Spot) (us : List Spot) (x : List ℕ) (a b : List (List ℕ)) → u.bytes ≡ x → Cut us a b → Cut (u ∷ us) (x ∷ a) b
cut_more u us x a b h c = let e = c.3 in (u ∷ c.0, c.1, ap (λ ws. u ∷ ws) c.2, cc, c.4)

cut : (us : List Spot) (a b : List (List ℕ)) → words us ≡ a ++ b → Cut us a b
cut us [] b e = ([], us, refl, refl, e)
cut [] (x ∷ a) b e = absurd (cc)
cut (u ∷ us) (x ∷ a) b e = cut_more u us x a b (cc) (cut us a b (cc))

pub words_append : (us vs : List Spot) → words (us ++ vs) ≡ words us ++ words vs
words_append us vs = map-append (λ w. w.bytes) us vs

nil_cons : (before : List Spot) (w : Spot) (after : List Spot) → [] ≡ before ++ w ∷ after → ⊥
nil_cons [] w after e = cc
nil_cons (b ∷ before) w after e = cc

module _ {A B : Type 0} {R : ℕ → List Spot → Reading A} {W : A → List (List ℕ) → Type 0} {F : A → ℕ → List Spot → Reading B} {V : A → B → List (List ℕ) → Type 0}
    (first : Grammar R W) (second : (v : A) → Grammar (F v) (V v)) where
  abbrev pub seq : ℕ → List Spot → Reading B
  seq end ws = then (R end ws) (λ v vs. F v end vs)

  -- the second reading goes on where the first has read v
  goes_on : (v : A) (us : List Spot) → W v (words us) → (end : ℕ) (rest : List Spot) → seq end (us ++ rest) ≡ F v end rest
  goes_on v us s end rest = ap (λ (r : Reading A). then r (λ v vs. F v end vs)) (first.reads v us s end rest)

  seq_reads : (u : B) (us : List Spot) → Both W V u (words us) → (end : ℕ) (rest : List Spot) → seq end (us ++ rest) ≡ got u rest
  seq_reads u us k end rest =
      let c = cut us k.1 k.2 k.3 in
      ap (λ (xs : List Spot). seq end (xs ++ rest)) c.2
      ∙ ap (seq end) (append_assoc c.0 c.1 rest)
      ∙ goes_on k.0 c.0 (subst (W k.0) (sym c.3) k.4) end (c.1 ++ rest)
      ∙ (second k.0).reads u c.1 (subst (V k.0 u) (sym c.4) k.5) end rest

  -- some words make a value of the second reading
  filled : (v : A) → Outcome (F v) (V v) 0 [] → (u : B) × (more : List (List ℕ)) × V v u more
  filled v (done u us rest e t) = (u, words us, t)
  filled v (short e o) = (o.0, o.1 ∷ o.2, o.3)
  filled v (wrong before w after e h o) = absurd (nil_cons before w after e)

  -- words that go on in the first reading, or in the second
  open_first : (ws : List (List ℕ)) → Open W ws → Open (Both W V) ws
  open_first ws o =
      let f = filled o.0 ((second o.0).judge 0 []) in
      (f.0, o.1, o.2 ++ f.1, (o.0, ws ++ o.1 ∷ o.2, f.1, sym (append_assoc ws (o.1 ∷ o.2) f.1), o.3, f.2))

  open_second : (v : A) (a b : List (List ℕ)) (ws : List (List ℕ)) → ws ≡ a ++ b → W v a → Open (V v) b → Open (Both W V) ws
  open_second v a b ws e s o =
      (o.0, o.1, o.2, (v, a, b ++ o.1 ∷ o.2, ap (λ xs. xs ++ o.1 ∷ o.2) e ∙ append_assoc a b (o.1 ∷ o.2), s, o.3))

  after_first : (end : ℕ) (ws : List Spot) (v : A) (us rest : List Spot) → ws ≡ us ++ rest → W v (words us) → Outcome (F v) (V v) end rest → Outcome seq (Both W V) end ws
  after_first end ws v us rest e s (done u vs left f t) =
      done u (us ++ vs) left (e ∙ ap (λ (xs : List Spot). us ++ xs) f ∙ sym (append_assoc us vs left)) (v, words us, words vs, words_append us vs, s, t)
  after_first end ws v us rest e s (short f o) =
      short (ap (seq end) e ∙ goes_on v us s end rest ∙ f) (open_second v (words us) (words rest) (words ws) (ap words e ∙ words_append us rest) s o)
  after_first end ws v us rest e s (wrong before w after f h o) =
      wrong (us ++ before) w after (e ∙ ap (λ (xs : List Spot). us ++ xs) f ∙ sym (append_assoc us before (w ∷ after)))
      (λ stop others. ap (seq stop) (append_assoc us before (w ∷ others)) ∙ goes_on v us s stop (before ++ w ∷ others) ∙ h stop others)
      (open_second v (words us) (words before) (words (us ++ before)) (words_append us before) s o)

  seq_judge : (end : ℕ) (ws : List Spot) → Outcome R W end ws → Outcome seq (Both W V) end ws
  seq_judge end ws (done v us rest e s) = after_first end ws v us rest e s ((second v).judge end rest)
  seq_judge end ws (short e o) = short (ap (λ (r : Reading A). then r (λ v vs. F v end vs)) e) (open_first (words ws) o)
  seq_judge end ws (wrong before w after e h o) =
      wrong before w after e (λ stop others. ap (λ (r : Reading A). then r (λ v vs. F v stop vs)) (h stop others)) (open_first (words before) o)

  pub seq_grammar : Grammar seq (Both W V)
  seq_grammar = record { reads = seq_reads; judge = λ end ws. seq_judge end ws (first.judge end ws) }

-- ---- the same words, said otherwise

module _ {A : Type 0} {R : ℕ → List Spot → Reading A} {W X : A → List (List ℕ) → Type 0} (to : (v : A) (ws : List (List ℕ)) → W v ws → X v ws)
    (from : (v : A) (ws : List (List ℕ)) → X v ws → W v ws) (g : Grammar R W) where
  open_alike : (ws : List (List ℕ)) → Open W ws → Open X ws
  open_alike ws o = (o.0, o.1, o.2, to o.0 (ws ++ o.1 ∷ o.2) o.3)

  judged_alike : (end : ℕ) (ws : List Spot) → Outcome R W end ws → Outcome R X end ws
  judged_alike end ws (done v us rest e s) = done v us rest e (to v (words us) s)
  judged_alike end ws (short e o) = short e (open_alike (words ws) o)
  judged_alike end ws (wrong before w after e h o) = wrong before w after e h (open_alike (words before) o)

  pub grammar_alike : Grammar R X
  grammar_alike = record { reads = λ v us s. g.reads v us (from v (words us) s); judge = λ end ws. judged_alike end ws (g.judge end ws) }
