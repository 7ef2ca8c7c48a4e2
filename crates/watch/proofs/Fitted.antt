-- What an accepted tell names. Assumes nothing.
use Rattle.std.proofs.Common.{◌≡◌, ℕ, ◌+◌, ◌<◌, ◌≤◌, Bool, true, false, ◌&&◌, is_some, Some, None, Ok, Option, sym, refl, ap, ◌∙◌, subst, inl, inr, ⊎_elim, arith}
use Rattle.ends.specs.declared.records.Answer.{Answer}
use Rattle.ends.specs.declared.records.Told.{Told}
use Rattle.ends.specs.Model.Call.{fitting, telling}
use Rattle.ends.specs.Model.{Model, Call, Refit, Step, Fits, does, Each, Fit, answer_of, told_of, told_by}
use Rattle.towers.specs.declared.pair.Pair.{Pair}
use Rattle.towers.specs.Keeps.{Keeps}
use Rattle.ends.proofs.Laws.{fit_law}
use Rattle.watch.specs.declared.side.Side.{Side}
use Rattle.watch.specs.Log.{Entry, entry, Log, none, ◌▷◌, Came, Since, same_side}
use Rattle.watch.specs.Runs.{World, Goes, Run, Begins}
use Rattle.watch.proofs.Kept.{by_side, one_side, kept}
use Rattle.watch.proofs.Opened.{answered}

-- ---- places in a log

abbrev size : Log → ℕ
size none = 0
size (L ▷ e) = size L + 1

came_before : (e : Entry) (P L : Log) → Came e P L → size P < size L
came_before e P none h = elim h [ ]
came_before e P (L ▷ f) h = ⊎_elim (λ q. omega (arith, ap size q.1)) (λ m. omega (arith, came_before e P L m)) h

since_after : (s : Side) (P Q : Log) → Since s P Q → size P ≤ size Q
since_after s P none h = omega (arith, ap size h)
since_after s P (Q ▷ e) h = ⊎_elim (λ q. omega (arith, ap size q)) (λ m. omega (arith, since_after s P Q m.1)) h

-- ---- a call at its end

-- only an accepted fit changes what is fitted
unfitted : (times : ℕ → ℕ → ℕ) (o : Option Refit) (old new : Option Fit) → is_some o ≡ false → Fits times old o new → new ≡ old
unfitted times None old new r f = f
unfitted times (Some x) old new r f = absurd (let z : ◌≡◌ {A = ℕ} 0 1 = cc in omega arith)

stays_fitted : {w v : World} {e : Entry} → Goes w e v → (s : Side) → (same_side s e.side && is_some (does e.call).refits) ≡ false → (v s).fitted ≡ (w s).fitted
stays_fitted {w} {v} {e} goes s =
    by_side goes s (λ b. (b && is_some (does e.call).refits) ≡ false → (v s).fitted ≡ (w s).fitted)
    (λ q st r. unfitted (w s).times (does e.call).refits (w s).fitted (v s).fitted r st.fits)
    (λ same r. ap (λ (m : Model). m.fitted) same)

-- a call that steps the end s, by the entry that came
stepped : {w v : World} {e : Entry} (s : Side) (c : Call) → entry s c ≡ e → Goes w e v → Step (w s) c (v s)
stepped {w} {v} s c q goes = subst (λ (x : Entry). Step (w x.side) x.call (v x.side)) (sym q) goes.steps

-- ---- an accepted fit, and the tells since

pub record ToldBy (start : World) (L : Log) (w : World) (s : Side) (octic : ℕ) (a : Answer) (P : Log) : Type 0 where
  pub pair : Pair
  pub keeps : Keeps (start s).times octic pair
  pub answer : a ≡ answer_of pair
  pub told : (before after : Told) (Q : Log) → Came (entry s (telling before after (Ok tt))) Q L → Since s (P ▷ entry s (fitting octic (Ok a))) Q → after ≡ told_of pair
  pub still : Since s (P ▷ entry s (fitting octic (Ok a))) L → (w s).fitted ≡ Some (record { octic = octic; pair = pair })

abbrev pub FitsShown : World → Log → World → Type 0
FitsShown start L w = (s : Side) (octic : ℕ) (a : Answer) (P : Log) → Came (entry s (fitting octic (Ok a))) P L → ToldBy start L w s octic a P

no_fit_tells : (o : ℕ) (a : Answer) (before after : Told) (s : Side) (e : Entry) → entry s (fitting o (Ok a)) ≡ e → entry s (telling before after (Ok tt)) ≡ e → ⊥
no_fit_tells o a before after s e p q =
    let x = ap (λ (y : Entry). is_some (does y.call).refits) (p ∙ sym q) in
    let z : ◌≡◌ {A = ℕ} 0 1 = cc in
    omega arith

module _ {start : World} {L : Log} {w v : World} {e : Entry} (begins : Begins start) (run : Run start L w) (goes : Goes w e v) where
  -- the fit was the last call
  new_fit : (s : Side) (octic : ℕ) (a : Answer) (P : Log) → entry s (fitting octic (Ok a)) ≡ e → P ≡ L → ToldBy start (L ▷ e) v s octic a P
  new_fit s octic a P q p =
      let f = (stepped {w = w} {v = v} s (fitting octic (Ok a)) q goes).fits in
      record {
        pair = f.pair;
        keeps = subst (λ m. Keeps m octic f.pair) ((kept begins L w run).rings s) f.keeps;
        answer = f.answered;
        told = λ before after Q came since.
            ⊎_elim
            (λ r. absurd (no_fit_tells octic a before after s e q r.0))
            (λ past. absurd (omega (arith, came_before _ Q L past, since_after s (P ▷ entry s (fitting octic (Ok a))) Q since, ap size p)))
            came;
        still = λ since. f.stored;
      }

  -- the fit came before
  old_fit : (s : Side) (octic : ℕ) (a : Answer) (P : Log) → Came (entry s (fitting octic (Ok a))) P L → ToldBy start L w s octic a P → ToldBy start (L ▷ e) v s octic a P
  old_fit s octic a P was k = record {
    pair = k.pair;
    keeps = k.keeps;
    answer = k.answer;
    told = λ before after Q came since.
        ⊎_elim
        (λ r.
        let x = answered {w = w} {v = v} s (telling before after (Ok tt)) r.0 goes in
        let now' = k.still (subst (Since s (P ▷ entry s (fitting octic (Ok a)))) r.1 since) in
        x.1 ∙ ap (λ o. told_by o before) now')
        (λ past. k.told before after Q past since)
        came;
    still = λ since.
        ⊎_elim
        (λ same. absurd (omega (arith, came_before _ P L was, ap size same)))
        (λ r. stays_fitted goes s r.0 ∙ k.still r.1)
        since;
  }

  pub fits_on : FitsShown start L w → FitsShown start (L ▷ e) v
  fits_on old s octic a P came = ⊎_elim (λ q. new_fit s octic a P q.0 q.1) (λ past. old_fit s octic a P past (old s octic a P past)) came

-- ---- a tell comes after a fit

abbrev pub FitBefore : Side → Log → Type 0
FitBefore s L = (octic : ℕ) × (a : Answer) × (P : Log) × Since s (P ▷ entry s (fitting octic (Ok a))) L

refit_is : (s : Side) (L : Log) (c : Call) (o : Option Refit) → Each o (λ x. c ≡ fitting x.octic (Ok x.answer)) → is_some o ≡ true → FitBefore s (L ▷ entry s c)
refit_is s L c None is r = absurd (let z : ◌≡◌ {A = ℕ} 0 1 = cc in omega arith)
refit_is s L c (Some x) is r = (x.octic, x.answer, L, inl (ap (λ y. L ▷ entry s y) (sym is)))

pub fit_before_on : {L : Log} {w v : World} {e : Entry} → Goes w e v → (s : Side) → (is_some (w s).fitted ≡ true → FitBefore s L) → is_some (v s).fitted ≡ true → FitBefore s (L ▷ e)
fit_before_on {L} {w} {v} {e} goes s old some = go (same_side s e.side) (is_some (does e.call).refits) refl refl
  where
    on : (same_side s e.side && is_some (does e.call).refits) ≡ false → FitBefore s (L ▷ e)
    on q = let f = old (ap is_some (sym (stays_fitted goes s q)) ∙ some) in (f.0, f.1, f.2, inr (q, f.3))

    go : (b r : Bool) → same_side s e.side ≡ b → is_some (does e.call).refits ≡ r → FitBefore s (L ▷ e)
    go true true p q = subst (λ x. FitBefore s (L ▷ entry x e.call)) (one_side s e.side p) (refit_is s L e.call (does e.call).refits (fit_law e.call) q)
    go true false p q = on (ap (λ x. x && is_some (does e.call).refits) p ∙ q)
    go false r p q = on (ap (λ x. x && is_some (does e.call).refits) p)
