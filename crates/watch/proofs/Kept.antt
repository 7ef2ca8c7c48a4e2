-- What holds of two ends after a log of theirs. Assumes nothing.
use Rattle.std.proofs.Common.{◌≡◌, ℕ, ◌+◌, ◌-◌, ◌^◌, ◌<◌, ◌≤◌, Bool, true, false, cond, ◌&&◌, eqb, ◌⊎◌, Some, None, Option, unwrap_or, sym, refl, ap, ◌∙◌, subst, inl, inr, ⊎_elim, arith}
use Rattle.std.proofs.lemmas.Bool.{eqb-true, and_parts, and_from, eq-eqb}
use Rattle.ends.specs.declared.ticket.Ticket.{Ticket}
use Rattle.ends.specs.Model.{Model, Step, Held, does, Each, given, ticket, blocks_by, loaded_after}
use Rattle.ends.proofs.Laws.{draw_law}
use Rattle.watch.specs.declared.side.Side.{Side}
use Rattle.watch.specs.declared.side.Side.TheVariants.{First, Second}
use Rattle.watch.specs.Log.{Entry, Log, none, ◌▷◌, same_side, holds, same_ticket, alike, drawn}
use Rattle.watch.specs.Runs.{World, Goes, Run, Begins}

-- ---- sides

pub one_side : (s t : Side) → same_side s t ≡ true → s ≡ t
one_side First First e = refl
one_side First Second e = absurd (let z : ◌≡◌ {A = ℕ} 0 1 = cc in omega arith)
one_side Second First e = absurd (let z : ◌≡◌ {A = ℕ} 0 1 = cc in omega arith)
one_side Second Second e = refl

-- the end s after a call: it steps if the call is there, and else stays
pub by_side : {w v : World} {e : Entry} → Goes w e v → (s : Side) (P : Bool → Type 0) → (same_side s e.side ≡ true → Step (w s) e.call (v s) → P true) → (v s ≡ w s → P false) → P (same_side s e.side)
by_side {w} {v} {e} goes s P here there = go (same_side s e.side) refl
  where
    go : (b : Bool) → same_side s e.side ≡ b → P b
    go true q = here q (subst (λ x. Step (w x) e.call (v x)) (sym (one_side s e.side q)) goes.steps)
    go false q = there (goes.stays s q)

-- ---- tickets

pub same_self : (t : Ticket) → same_ticket t t ≡ 1
same_self t = ap (λ b. cond b 1 0) (and_from _ _ (eq-eqb t.name _ refl) (eq-eqb t.number _ refl))

pub same_parts : (t u : Ticket) → (same_ticket t u ≡ 0) ⊎ ((same_ticket t u ≡ 1) × (t.name ≡ u.name) × (t.number ≡ u.number))
same_parts t u = go (eqb t.name u.name && eqb t.number u.number) refl
  where
    go : (b : Bool) → (eqb t.name u.name && eqb t.number u.number) ≡ b → let n : ℕ = cond b 1 0 in (n ≡ 0) ⊎ ((n ≡ 1) × (t.name ≡ u.name) × (t.number ≡ u.number))
    go true e = let p = and_parts _ _ e in inr (refl, eqb-true _ _ p.0, eqb-true _ _ p.1)
    go false e = inl refl

-- what is known of a ticket that the end m gave
abbrev Own : Model → Ticket → Type 0
Own m t = (t ≡ ticket m.name m.next) × (m.next ≡ 2 ^ 64 - 1 → ⊥)

abbrev Gave : Model → Option Ticket → Ticket → ℕ → Type 0
Gave m o t n = (n ≡ 0) ⊎ ((n ≡ 1) × (t.name ≡ m.name) × (t.number ≡ m.next) × (given o ≡ 1))

gave : (m : Model) (o : Option Ticket) (t : Ticket) → Each o (Own m) → Gave m o t (alike t o)
gave m None t own = inl refl
gave m (Some u) t own =
    ⊎_elim inl (λ p. inr (p.0, p.1 ∙ ap (λ (x : Ticket). x.name) own.0, p.2 ∙ ap (λ (x : Ticket). x.number) own.0, refl)) (same_parts t u)

-- the next number stays within 64 bits
next_short : (m : Model) (o : Option Ticket) → Each o (Own m) → m.next < 2 ^ 64 → m.next + given o < 2 ^ 64
next_short m None own h = omega arith
next_short m (Some t) own h = let ne = own.1 in omega arith

-- what is held after a call, and what is loaded
loaded_on : (o : Option (Option Held)) (h : Option Held) → blocks_by (unwrap_or o h) ≡ loaded_after o (blocks_by h)
loaded_on None h = refl
loaded_on (Some x) h = refl

-- ---- the invariant

pub record Kept (start : World) (L : Log) (w : World) : Type 0 where
  pub names : (s : Side) → (w s).name ≡ (start s).name
  pub rings : (s : Side) → (w s).times ≡ (start s).times
  pub held : (s : Side) → blocks_by (holds s L) ≡ (w s).loaded
  pub short : (s : Side) → (w s).next < 2 ^ 64
  pub unseen : (s : Side) (t : Ticket) → t.name ≡ (start s).name → (w s).next ≤ t.number → drawn t L ≡ 0
  pub single : (t : Ticket) → drawn t L ≤ 1
  pub ranged : (t : Ticket) → 1 ≤ drawn t L → (t.name < 2 ^ 16) × (t.number < 2 ^ 64)

module _ {start : World} {L : Log} {w v : World} {e : Entry} (begins : Begins start) (k : Kept start L w) (goes : Goes w e v) where
  drew : (t : Ticket) → Gave (w e.side) (does e.call).draws t (alike t (does e.call).draws)
  drew t = gave (w e.side) (does e.call).draws t (draw_law (w e.side) e.call goes.steps.answers)

  next_on : (s : Side) → ((w s).next ≤ (v s).next) × ((v s).next < 2 ^ 64)
  next_on s =
      by_side goes s (λ b. ((w s).next ≤ (v s).next) × ((v s).next < 2 ^ 64))
      (λ q st. omega (arith, next_short (w s) (does e.call).draws (draw_law (w s) e.call st.answers) (k.short s), st.next))
      (λ same. omega (arith, ap (λ (m : Model). m.next) same, k.short s))

  unseen_on : (s : Side) (t : Ticket) → t.name ≡ (start s).name → (v s).next ≤ t.number → drawn t (L ▷ e) ≡ 0
  unseen_on s t named le =
      let old : drawn t L ≡ 0 = k.unseen s t named (omega (arith, next_on s)) in
      ⊎_elim
      (λ z. omega (arith, z, old))
      (λ p.
      let i : Side = e.side in
      let same : s ≡ i = one_side s i (begins.apart s i (sym named ∙ p.1 ∙ k.names i)) in
      let le' : (v i).next ≤ t.number = subst (λ x. (v x).next ≤ t.number) same le in
      absurd (omega (arith, goes.steps.next, p.2, p.3)))
      (drew t)

  single_on : (t : Ticket) → drawn t (L ▷ e) ≤ 1
  single_on t =
      ⊎_elim
      (λ z. omega (arith, z, k.single t))
      (λ p. omega (arith, p.0, k.unseen e.side t (p.1 ∙ k.names e.side) (omega (arith, p.2))))
      (drew t)

  ranged_on : (t : Ticket) → 1 ≤ drawn t (L ▷ e) → (t.name < 2 ^ 16) × (t.number < 2 ^ 64)
  ranged_on t some =
      ⊎_elim
      (λ z. k.ranged t (omega (arith, z)))
      (λ p. (omega (arith, p.1, k.names e.side, begins.short_name e.side), omega (arith, p.2, k.short e.side)))
      (drew t)

  kept_on : Kept start (L ▷ e) v
  kept_on = record {
    names = λ s. by_side goes s (λ b. (v s).name ≡ (w s).name) (λ q st. st.named) (λ same. ap (λ (m : Model). m.name) same) ∙ k.names s;
    rings = λ s. by_side goes s (λ b. (v s).times ≡ (w s).times) (λ q st. st.ring) (λ same. ap (λ (m : Model). m.times) same) ∙ k.rings s;
    held = λ s. by_side goes s (λ b. blocks_by (cond b (unwrap_or (does e.call).loads (holds s L)) (holds s L)) ≡ (v s).loaded)
        (λ q st. loaded_on (does e.call).loads (holds s L) ∙ ap (loaded_after (does e.call).loads) (k.held s) ∙ sym st.holds)
        (λ same. k.held s ∙ sym (ap (λ (m : Model). m.loaded) same));
    short = λ s. (next_on s).1;
    unseen = unseen_on;
    single = single_on;
    ranged = ranged_on;
  }

pub kept : {start : World} → Begins start → (L : Log) (w : World) → Run start L w → Kept start L w
kept begins none w run = record {
  names = λ s. ap (λ (x : World). (x s).name) run;
  rings = λ s. ap (λ (x : World). (x s).times) run;
  held = λ s. sym (begins.no_key s) ∙ sym (ap (λ (x : World). (x s).loaded) run);
  short = λ s. omega (arith, ap (λ (x : World). (x s).next) run, begins.short_next s);
  unseen = λ s t n le. refl;
  single = λ t. omega arith;
  ranged = λ t some. absurd (omega arith);
}
kept begins (L ▷ e) v run = kept_on begins (kept begins L run.0 run.1) run.3
