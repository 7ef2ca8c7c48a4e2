-- An open of an accepted seal's bytes gives the first bytes. Assumes nothing.
use Rattle.std.proofs.Common.{◌≡◌, ℕ, true, false, not, ◌||◌, eqb, ltb, List, is_some, Some, None, Ok, Err, Option, Result, sym, refl, ap, ◌∙◌, subst, ⊎_elim, arith}
use Rattle.refusals.specs.declared.Refusal.{Refusal}
use Rattle.refusals.specs.declared.Refusal.TheVariants.{NoKey, SectorLength}
use Rattle.ends.specs.declared.ticket.Ticket.{Ticket}
use Rattle.ciphers.specs.Counter.{sealed as counter}
use Rattle.ends.specs.Model.Call.{sealing, opening}
use Rattle.ends.specs.Model.{Model, Call, Blocks, Answers, refuse, unsized, worked, blocks_by, open_refusal}
use Rattle.ends.proofs.Laws.{sealable}
use Rattle.ciphers.proofs.Padding.{sealed_length, sealed_twice}
use Rattle.watch.specs.declared.side.Side.{Side}
use Rattle.watch.specs.Log.{Entry, entry, Log, none, ◌▷◌, Came, holds}
use Rattle.watch.specs.Runs.{World, Goes, Run, Begins}
use Rattle.watch.proofs.Kept.{kept}

-- the entry that came is the call that was made
pub answered : {w v : World} {e : Entry} (s : Side) (c : Call) → entry s c ≡ e → Goes w e v → Answers (w s) c
answered {w} s c q goes = subst (λ (x : Entry). Answers (w x.side) x.call) (sym q) goes.steps.answers

-- what is known of an accepted seal: the sealing end held a key, and the bytes are worked with its cipher
pub record Sealed (s : Side) (t : Ticket) (first sealed : List ℕ) (P : Log) : Type 0 where
  pub cipher : Blocks
  pub had : blocks_by (holds s P) ≡ Some cipher
  pub sized : unsized first ≡ false
  pub bytes : sealed ≡ counter cipher t.name t.number first

sealed_by : {s : Side} {P : Log} (o : Option Blocks) (t : Ticket) (first sealed : List ℕ) → blocks_by (holds s P) ≡ o → is_some o ≡ true → unsized first ≡ false → sealed ≡ worked o t.name t.number first → Sealed s t first sealed P
sealed_by None t first sealed had some sized e = absurd (let z : ◌≡◌ {A = ℕ} 0 1 = cc in omega arith)
sealed_by (Some cipher) t first sealed had some sized e = record { cipher = cipher; had = had; sized = sized; bytes = e }

pub sealed_right : {start : World} → Begins start → (L : Log) (w : World) → Run start L w → (s : Side) (t : Ticket) (first sealed : List ℕ) (P : Log) → Came (entry s (sealing t first sealed (Ok tt))) P L → Sealed s t first sealed P
sealed_right begins none v run s t first sealed P came = elim came [ ]
sealed_right begins (L ▷ e) v run s t first sealed P came =
    let w : World = run.0 in
    ⊎_elim
    (λ q.
    let a = answered {w = w} {v = v} s (sealing t first sealed (Ok tt)) q.0 run.3 in
    let ok = sealable (w s) t first a.0 in
    sealed_by (w s).loaded t first sealed (ap (λ x. blocks_by (holds s x)) q.1 ∙ (kept begins L w run.1).held s) ok.loaded ok.sized a.1)
    (sealed_right begins L w run.1 s t first sealed P)
    came

unsized_worked : (cipher : Blocks) (name number : ℕ) (bs : List ℕ) → unsized (counter cipher name number bs) ≡ unsized bs
unsized_worked cipher name number bs = ap (λ n. eqb n 0 || ltb 4096 n) (sealed_length cipher name number bs)

opened_by : (m : Model) (cipher : Blocks) (t : Ticket) (first sealed out : List ℕ) (r : Result (Unit {0}) Refusal) → m.loaded ≡ Some cipher → unsized first ≡ false → sealed ≡ counter cipher t.name t.number first → Answers m (opening t.name t.number sealed out r) → (r ≡ Ok tt) × (out ≡ first)
opened_by m cipher t first sealed out (Ok u) had sized bytes a =
    (refl, a.1 ∙ ap (λ o. worked o t.name t.number sealed) had ∙ ap (counter cipher t.name t.number) bytes ∙ sealed_twice cipher t.name t.number first)
opened_by m cipher t first sealed out (Err e) had sized bytes a =
    let taken : open_refusal m sealed ≡ None =
    ap (λ o. refuse (not (is_some o)) NoKey (refuse (unsized sealed) SectorLength None)) had ∙ ap (λ b. refuse b SectorLength None) (ap unsized bytes ∙ unsized_worked cipher t.name t.number first ∙ sized) in
    absurd (let refused = a.0 in let z : ◌≡◌ {A = ℕ} 0 1 = cc in omega arith)

abbrev pub Opens : Log → Type 0
Opens L = (s s' : Side) (t : Ticket) (first sealed out : List ℕ) (r : Result (Unit {0}) Refusal) (P Q : Log) → Came (entry s (sealing t first sealed (Ok tt))) P Q → Came (entry s' (opening t.name t.number sealed out r)) Q L → holds s' Q ≡ holds s P → (r ≡ Ok tt) × (out ≡ first)

pub opens_on : {start : World} {L : Log} {w v : World} {e : Entry} → Begins start → Run start L w → Goes w e v → Opens L → Opens (L ▷ e)
opens_on {start} {L} {w} {v} {e} begins run goes old s s' t first sealed out r P Q was came same =
    ⊎_elim
    (λ q.
    let k = sealed_right begins L w run s t first sealed P (subst (Came (entry s (sealing t first sealed (Ok tt))) P) q.1 was) in
    let had : (w s').loaded ≡ Some k.cipher = sym ((kept begins L w run).held s') ∙ ap (λ x. blocks_by (holds s' x)) (sym q.1) ∙ ap blocks_by same ∙ k.had in
    opened_by (w s') k.cipher t first sealed out r had k.sized k.bytes (answered {w = w} {v = v} s' (opening t.name t.number sealed out r) q.0 goes))
    (λ past. old s s' t first sealed out r P Q was past same)
    came
