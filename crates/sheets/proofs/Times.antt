-- Reading entries one after the other, from the first on. Assumes nothing.
use Rattle.std.proofs.Common.{◌≡◌, ℕ, suc, ◌+◌, ◌-◌, ◌<◌, ◌≤◌, List, [], ◌∷◌, ◌++◌, map, Err, sym, refl, ap, ◌∙◌, subst, append_assoc, append-nil, arith}
use mathlib.Core.List.{map-append}
use Rattle.sheets.specs.declared.faults.ReadError.{ReadError}
use Rattle.sheets.specs.declared.faults.ReadError.TheVariants.{Bad, NoMemory}
use Rattle.sheets.specs.Spots.{Spot}
use Rattle.sheets.specs.Readings.{Reading, got, bad, then, times}
use Rattle.sheets.specs.Steps.{listed, Came}

-- a reading of more entries, after the entries xs
abbrev after : {A : Type 0} → List A → Reading (List A) → Reading (List A)
after xs r = then r (λ ys ws. got (xs ++ ys) ws)

after_none : {A : Type 0} (r : Reading (List A)) → after [] r ≡ r
after_none (got ys ws) = refl
after_none (bad p) = refl

after_one : {A : Type 0} (xs : List A) (x : A) (r : Reading (List A))
    → after xs (then r (λ ys us. got (x ∷ ys) us)) ≡ after (xs ++ x ∷ []) r
after_one xs x (got ys ws) = ap (λ zs. got zs ws) (sym (append_assoc xs (x ∷ []) ys))
after_one xs x (bad p) = refl

-- of n entries from the words ws on, i have been read, xs, and vs are left
abbrev pub SoFar : {A : Type 0} → (List Spot → Reading A) → ℕ → List Spot → ℕ → List A → List Spot → Type 0
SoFar one n ws i xs vs = times n one ws ≡ after xs (times (n - i) one vs)

pub so_far_none : {A : Type 0} (one : List Spot → Reading A) (n : ℕ) (ws : List Spot) → SoFar one n ws 0 [] ws
so_far_none one n ws = let e : n ≡ n - 0 = omega arith in ap (λ k. times k one ws) e ∙ sym (after_none (times (n - 0) one ws))

-- one more
pub times_one_more : {A : Type 0} (one : List Spot → Reading A) (n i : ℕ) (vs : List Spot) → i < n
    → times (n - i) one vs ≡ then (one vs) (λ x us. then (times (n - (i + 1)) one us) (λ xs ts. got (x ∷ xs) ts))
unfolding times
times_one_more one n i vs h = let e : n - i ≡ suc (n - (i + 1)) = omega arith in rw e

pub so_far_more : {A : Type 0} (one : List Spot → Reading A) (n : ℕ) (ws : List Spot) (i : ℕ) (xs : List A) (vs : List Spot) (x : A) (us : List Spot)
    → i < n → one vs ≡ got x us → SoFar one n ws i xs vs → SoFar one n ws (i + 1) (xs ++ x ∷ []) us
so_far_more one n ws i xs vs x us h e s =
    s ∙ ap (after xs) (times_one_more one n i vs h ∙ ap (λ r. then r (λ x us. then (times (n - (i + 1)) one us) (λ xs ts. got (x ∷ xs) ts))) e)
    ∙ after_one xs x (times (n - (i + 1)) one us)

pub so_far_bad : {A : Type 0} (one : List Spot → Reading A) (n : ℕ) (ws : List Spot) (i : ℕ) (xs : List A) (vs : List Spot) (p : ℕ)
    → i < n → one vs ≡ bad p → SoFar one n ws i xs vs → times n one ws ≡ bad p
so_far_bad one n ws i xs vs p h e s =
    s ∙ ap (after xs) (times_one_more one n i vs h ∙ ap (λ r. then r (λ x us. then (times (n - (i + 1)) one us) (λ xs ts. got (x ∷ xs) ts))) e)

pub so_far_all : {A : Type 0} (one : List Spot → Reading A) (n : ℕ) (ws : List Spot) (i : ℕ) (xs : List A) (vs : List Spot)
    → n ≤ i → SoFar one n ws i xs vs → times n one ws ≡ got xs vs
unfolding times
so_far_all one n ws i xs vs h s =
    let e : n - i ≡ 0 = omega arith in
    s ∙ ap (λ k. after xs (times k one vs)) e ∙ ap (λ zs. got zs vs) (append-nil xs)

-- the same for a loop that reads entries of the form `form` and pushes them: one more, and a way out
module _ {A X : Type 0} (item : X → A) (form : ℕ → List Spot → Reading A) (end n : ℕ) (ws : List Spot) where
  pub so_far_push : (i : ℕ) (before : List X) (vs : List Spot) (stop : ℕ) (x : X) (later : List X) (us : List Spot) → i < n → stop ≡ end
      → form stop vs ≡ got (item x) us → later ≡ before ++ x ∷ [] → SoFar (form end) n ws i (map item before) vs
      → SoFar (form end) n ws (i + 1) (map item later) us
  so_far_push i before vs stop x later us h e f l s =
      let m : map item before ++ item x ∷ [] ≡ map item later = sym (ap (map item) l ∙ map-append item before (x ∷ [])) in
      subst (λ (xs : List A). SoFar (form end) n ws (i + 1) xs us) m
      (so_far_more (form end) n ws i (map item before) vs (item x) us h (ap (λ (k : ℕ). form k vs) (sym e) ∙ f) s)

  pub so_far_err : (i : ℕ) (xs : List A) (vs : List Spot) (stop : ℕ) (e : ReadError) (us : List Spot) → i < n → stop ≡ end
      → Came item (form stop vs) (Err e) us → SoFar (form end) n ws i xs vs → Came (listed item) (times n (form end) ws) (Err e) us
  so_far_err i xs vs stop (Bad f) us h q c s = (c.0, so_far_bad (form end) n ws i xs vs f.place h (ap (λ (k : ℕ). form k vs) (sym q) ∙ c.1) s)
  so_far_err i xs vs stop NoMemory us h q c s = tt
