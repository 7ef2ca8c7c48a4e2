-- The calls of one entry, as one to three entries more of a log. Assumes nothing.
use Rattle.std.proofs.Common.{◌≡◌, ℕ, ◌+◌, ◌<◌, ◌≤◌, Bool, true, false, cond, List, length, Some, None, Ok, Err, Decides, Option, Result, sym, refl, ap, ◌∙◌, subst, subst₂, inl, inr, ⊎_elim, arith}
use Rattle.refusals.specs.declared.Refusal.{Refusal}
use Rattle.ciphers.specs.declared.keys.Cipher.{Cipher}
use Rattle.ends.specs.declared.records.Answer.{Answer}
use Rattle.ends.specs.declared.ticket.Ticket.{Ticket}
use Rattle.ends.specs.Model.{Held, does, Each, ticket}
use Rattle.ends.specs.Model.Call.{fitting, keying, drawing, sealing, opening}
use Rattle.watch.specs.declared.side.Side.{Side}
use Rattle.watch.specs.Log.{Entry, entry, Log, none, ◌▷◌, same_side, holds, alike, taken, drawn, Unspent, Handed}
use Rattle.watch.specs.Runs.{World, Goes, Run}
use Rattle.watch.specs.Shows.{Onward}
use Rattle.watch.proofs.Kept.{same_self, same_parts}
use Rattle.sheets.specs.Contents.Item.{fit_item, key_item, sector_item}
use Rattle.runs.specs.declared.line.Line.{Line}
use Rattle.runs.specs.declared.line.Line.TheVariants.{Fit, Key, Sector}
use Rattle.runs.specs.declared.line.Passed.{Passed}
use Rattle.runs.specs.Bearings.{bearing_of}
use Rattle.ciphers.specs.Letters.{letter_for}
use Rattle.watch.specs.Sides.{other}
use Rattle.runs.specs.Printed.{outcome, Entered}

-- only a seal is handed a ticket
fit_handed : (P : Log) (octic : ℕ) (r : Result Answer Refusal) → Handed P (fitting octic r)
fit_handed P octic (Ok a) = tt
fit_handed P octic (Err e) = tt

key_handed : (P : Log) (letter : ℕ) (key before after : List ℕ) (r : Result (Unit {0}) Refusal) → Handed P (keying letter key before after r)
key_handed P letter key before after (Ok u) = tt
key_handed P letter key before after (Err e) = tt

pub fit_enters : {w v : World} {s : Side} {octic : ℕ} {r : Result Answer Refusal} {o : Result (Unit {0}) Refusal} → Goes w (entry s (fitting octic r)) v → o ≡ outcome r → Entered w (fit_item s octic) (Fit s o) v
fit_enters {w} {v} {s} {octic} {r} goes e = record {
  on = λ begin P fresh run. (P ▷ entry s (fitting octic r), (w, run, fit_handed P octic r, goes), record { answer = r; calls = refl; line = ap (Fit s) e });
}

pub key_enters : {w v : World} {s : Side} {c : Cipher} {letter : ℕ} {key before after : List ℕ} {r : Result (Unit {0}) Refusal} → letter ≡ letter_for c → 176 ≤ length before → Goes w (entry s (keying letter key before after r)) v → Entered w (key_item s c key) (Key s r) v
key_enters {w} {v} {s} {c} {letter} {key} {before} {after} {r} is room goes = record {
  on = λ begin P fresh run. (
    P ▷ entry s (keying letter key before after r),
    (w, run, key_handed P letter key before after r, goes),
    record {
      answer = r;
      before = before;
      after = after;
      room = room;
      calls = ap (λ (x : ℕ). P ▷ entry s (keying x key before after r)) is;
      line = refl;
    },
  );
}

-- ---- tickets

-- no ticket was handed in more often than drawn
pub never_more : (begin : World) (L : Log) (w : World) → Run begin L w → (t : Ticket) → taken t L ≤ drawn t L
never_more begin none w run t = omega arith
never_more begin (L ▷ e) v run t = one_more (does e.call).spends run.2 (never_more begin L run.0 run.1)
  where
    one_more : (o : Option Ticket) → Each o (λ u. Unspent u L) → ((u : Ticket) → taken u L ≤ drawn u L) → alike t o + taken t L ≤ alike t (does e.call).draws + drawn t L
    one_more None h old = omega (arith, old t)
    one_more (Some u) h old =
        ⊎_elim
        (λ z. omega (arith, z, old t))
        (λ p.
        let same : ticket u.name u.number ≡ t = λ i. ticket (sym p.1 i) (sym p.2 i) in
        let left : taken t L < drawn t L = subst (λ (x : Ticket). taken x L < drawn x L) same h in
        omega (arith, p.0))
        (same_parts t u)

-- a ticket just drawn is unspent
just_drawn : (begin : World) (P : Log) (w : World) → Run begin P w → (s : Side) (t : Ticket) → Unspent t (P ▷ entry s (drawing (Ok t)))
just_drawn begin P w run s t = omega (arith, never_more begin P w run t, same_self t)

-- ---- sectors

-- a call that a watch lets through
abbrev Passing : World → Entry → World → Type 0
Passing w e v = Goes w e v × Onward w e v

draws : (w v : World) (s : Side) (r q : Result Ticket Refusal) → Goes w (entry s (drawing r)) v → r ≡ q → Goes w (entry s (drawing q)) v
draws w v s r q goes is = subst (λ (x : Result Ticket Refusal). Goes w (entry s (drawing x)) v) is goes

pub undrawn_enters : {w v : World} {s : Side} {bytes : List ℕ} {r : Result Ticket Refusal} {q : Result Passed Refusal} {e x : Refusal} → Goes w (entry s (drawing r)) v → r ≡ Err e → q ≡ Err x → x ≡ e → Entered w (sector_item s bytes) (Sector s q) v
undrawn_enters {w} {v} {s} {r = r} {e = e} goes is out passed_on = record {
  on = λ begin P fresh run. (
    P ▷ entry s (drawing (Err e)),
    (w, run, tt, draws w v s r (Err e) goes is),
    inl (record { refusal = e; calls = refl; line = ap (Sector s) (out ∙ ap (λ (y : Refusal). Err y) passed_on) }),
  );
}

-- draw and seal leave what an end holds
held_still : (b : Bool) (x : Option Held) → cond b x x ≡ x
held_still true x = refl
held_still false x = refl

held_draw : (P : Log) (s o : Side) (t : Ticket) → holds o (P ▷ entry s (drawing (Ok t))) ≡ holds o P
held_draw P s o t = held_still (same_side o s) (holds o P)

held_seal : (P : Log) (s o : Side) (t : Ticket) (before after : List ℕ) → holds o (P ▷ entry s (sealing t before after (Ok tt))) ≡ holds o P
held_seal P s o t before after = held_still (same_side o s) (holds o P)

-- a ticket was drawn, and bytes were handed to a seal
module _ {w v : World} {s : Side} {bytes before after : List ℕ} {r : Result Ticket Refusal} {t : Ticket} (drew : Goes w (entry s (drawing r)) v) (is : r ≡ Ok t) (same : before ≡ bytes) where
  pub unsealed_enters : {u : World} {a : Result (Unit {0}) Refusal} {q : Result Passed Refusal} {e x : Refusal} → Goes v (entry s (sealing t before after a)) u → a ≡ Err e → q ≡ Err x → x ≡ e → Entered w (sector_item s bytes) (Sector s q) u
  unsealed_enters {u} {e = e} goes no-seal out passed_on =
      let seals : Goes v (entry s (sealing t bytes after (Err e))) u = subst₂ (λ (x : List ℕ) (y : Result (Unit {0}) Refusal). Goes v (entry s (sealing t x after y)) u) same no-seal goes in
      record {
        on = λ begin P fresh run. (
          P ▷ entry s (drawing (Ok t)) ▷ entry s (sealing t bytes after (Err e)),
          (v, (w, run, tt, draws w v s r (Ok t) drew is), just_drawn begin P w run s t, seals),
          inr (inl (record { refusal = e; drawn = t; after = after; calls = refl; line = ap (Sector s) (out ∙ ap (λ (y : Refusal). Err y) passed_on) })),
        );
      }

  pub carried_enters : {u z : World} {a b : Result (Unit {0}) Refusal} {o : Side} {name number : ℕ} {out : List ℕ} {p : Passed} → Goes v (entry s (sealing t before after a)) u → a ≡ Ok tt
      → Passing u (entry o (opening name number after out b)) z → o ≡ other s → name ≡ t.name → number ≡ t.number
      → p.number ≡ number → p.bearing ≡ bearing_of number → Decides p.same ((b ≡ Ok tt) × (out ≡ bytes)) → Entered w (sector_item s bytes) (Sector s (Ok p)) z
  carried_enters {u} {z} {b = b} {o = o} {name = name} {number = number} {out = out} {p = p} goes sealed opens across named numbered num bear back =
      let seals : Goes v (entry s (sealing t bytes after (Ok tt))) u = subst₂ (λ (x : List ℕ) (y : Result (Unit {0}) Refusal). Goes v (entry s (sealing t x after y)) u) same sealed goes in
      let by_name : Passing u (entry o (opening t.name t.number after out b)) z = subst₂ (λ (x y : ℕ). Passing u (entry o (opening x y after out b)) z) named numbered opens in
      let opened : Passing u (entry (other s) (opening t.name t.number after out b)) z = subst (λ (x : Side). Passing u (entry x (opening t.name t.number after out b)) z) across by_name in
      record {
        on = λ begin P fresh run.
            let A : Log = P ▷ entry s (drawing (Ok t)) in
            let B : Log = A ▷ entry s (sealing t bytes after (Ok tt)) in
            let sealing-run : Run begin B u = (v, (w, run, tt, draws w v s r (Ok t) drew is), just_drawn begin P w run s t, seals) in (
              B ▷ entry (other s) (opening t.name t.number after out b),
              (u, sealing-run, tt, opened.0),
              inr (inr (record {
                drawn = t;
                after = after;
                out = out;
                answer = b;
                passed = p;
                calls = refl;
                line = refl;
                number = num ∙ numbered;
                bearing = bear ∙ ap bearing_of numbered;
                same = back;
                alike = λ e. back.1 ((opened.1.shown B (record { start = begin; begins = fresh; run = sealing-run }) tt).opens s (other s) t bytes after out b A B (inl (refl, refl)) (inl (refl, refl))
                    (held_seal A s (other s) t bytes after ∙ held_draw P s (other s) t ∙ e ∙ sym (held_draw P s s t)));
              })),
            );
      }

pub sector_enters : {w v : World} {s : Side} {a b : List ℕ} {l : Line} → a ≡ b → Entered w (sector_item s a) l v → Entered w (sector_item s b) l v
sector_enters {w} {v} {s} {l = l} e = subst (λ (x : List ℕ). Entered w (sector_item s x) l v) e
