-- Every log of two ends shows what is promised. Assumes nothing.
use Rattle.std.proofs.Common.{◌≡◌, ℕ, ◌≤◌, true, is_some, Ok, sym, ap, ◌∙◌, subst, ⊎_elim, arith}
use Rattle.std.proofs.lemmas.Bool.{not-false}
use Rattle.ends.specs.declared.records.Told.{Told}
use Rattle.ends.specs.Model.Call.{telling}
use Rattle.towers.specs.declared.pair.Pair.{Pair}
use Rattle.towers.specs.Keeps.{Keeps, Stands}
use Rattle.towers.specs.Matrices.{both_ones}
use Rattle.ends.proofs.Laws.{none_refused}
use Rattle.watch.specs.declared.side.Side.{Side}
use Rattle.watch.specs.Log.{Entry, entry, Log, none, ◌▷◌, Came, Handed}
use Rattle.watch.specs.Runs.{World, Goes, Run, Begins, Logged}
use Rattle.watch.specs.Shows.{EveryLogShows, EachCallShows}
use Rattle.watch.proofs.Fitted.{FitsShown, fits_on, FitBefore, fit_before_on}
use Rattle.watch.proofs.Kept.{kept}
use Rattle.watch.proofs.Once.{once}
use Rattle.watch.proofs.Opened.{Opens, opens_on, answered}

-- a pair that stands behind another has at least as many ones
no_fewer : (p : Pair) (d : ℕ) (m n : ℕ → ℕ) → Stands p d m n → p.ones ≤ both_ones m n
no_fewer p d m n h = ⊎_elim (λ is. omega (arith, is.0)) (⊎_elim (λ lt. omega (arith, lt)) (λ eq. omega (arith, eq.0))) h

fits_run : {start : World} → Begins start → (L : Log) (w : World) → Run start L w → FitsShown start L w
fits_run begins none w run = λ s octic a P came. elim came [ ]
fits_run begins (L ▷ e) v run = fits_on {w = run.0} {v = v} begins run.1 run.3 (fits_run begins L run.0 run.1)

fit_before : {start : World} → Begins start → (L : Log) (w : World) → Run start L w → (s : Side) → is_some (w s).fitted ≡ true → FitBefore s L
fit_before begins none w run s h =
    let e = ap (λ (x : World). is_some (x s).fitted) run ∙ ap is_some (begins.no_fit s) in
    absurd (let z : ◌≡◌ {A = ℕ} 0 1 = cc in omega arith)
fit_before begins (L ▷ e) v run s h = fit_before_on {w = run.0} {v = v} run.3 s (fit_before begins L run.0 run.1 s) h

tells_run : {start : World} → Begins start → (L : Log) (w : World) → Run start L w → (s : Side) (before after : Told) (Q : Log) → Came (entry s (telling before after (Ok tt))) Q L → FitBefore s Q
tells_run begins none w run s before after Q came = elim came [ ]
tells_run begins (L ▷ e) v run s before after Q came =
    let w : World = run.0 in
    ⊎_elim
    (λ q.
    let a = answered {w = w} {v = v} s (telling before after (Ok tt)) q.0 run.3 in
    subst (FitBefore s) (sym q.1) (fit_before begins L w run.1 s (not-false _ (none_refused _ _ _ a.0).0)))
    (tells_run begins L w run.1 s before after Q)
    came

opens_run : {start : World} → Begins start → (L : Log) (w : World) → Run start L w → Opens L
opens_run begins none w run = λ s s' t first sealed out r P Q was came same. elim came [ ]
opens_run begins (L ▷ e) v run = opens_on {w = run.0} {v = v} begins run.1 run.3 (opens_run begins L run.0 run.1)

pub every_log_shows : EveryLogShows
every_log_shows w L logged =
    let begins = logged.begins in
    let run = logged.run in
    record {
      fits = λ s octic a P came.
          let k = fits_run begins L w run s octic a P came in
          let keeps = subst (λ m. Keeps m octic k.pair) (sym ((kept begins L w run).rings s)) k.keeps in
          let tells = keeps.tells in
          record {
            pair = k.pair;
            kept = keeps;
            lawful = tells.lawful;
            reversed = tells.reversed;
            columns = tells.columns;
            reverse = tells.reverse;
            ones = tells.ones;
            answered = k.answer;
            fewest = λ d m n l r. no_fewer k.pair d m n (keeps.least d m n l r);
            told = k.told;
          };
      tells = tells_run begins L w run;
      opens = opens_run begins L w run;
      numbers = (kept begins L w run).single;
      once = once begins L w run;
    }

longer : {w v : World} {e : Entry} {L : Log} → Goes w e v → Logged w L → Handed L e.call → Logged v (L ▷ e)
longer {w} goes lg h = record { start = lg.start; begins = lg.begins; run = (w, lg.run, h, goes) }

pub each_call_shows : EachCallShows
each_call_shows w v e goes = record {
  logged = λ L lg h. longer goes lg h;
  shown = λ L lg h. every_log_shows v (L ▷ e) (longer goes lg h);
}
