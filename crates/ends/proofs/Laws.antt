-- What an accepted call tells of its end. Assumes nothing.
use Rattle.std.proofs.Common.{◌≡◌, ℕ, ◌-◌, ◌^◌, ◌≤◌, Bool, true, false, not, eqb, ltb, List, length, is_some, Some, None, Ok, Err, Option, refl, arith}
use Rattle.std.proofs.lemmas.Bool.{not-false, or_parts, ltb-false, eqb-true, eqb-false}
use Rattle.refusals.specs.declared.Refusal.{Refusal}
use Rattle.refusals.specs.declared.Refusal.TheVariants.{NoKey, OtherName, SectorLength, NumbersUsedUp}
use Rattle.ends.specs.declared.ticket.Ticket.{Ticket}
use Rattle.ends.specs.Model.{Model, Call, Answers, does, Each, ticket, refuse, unsized, seal_refusal}
use Rattle.ends.specs.Model.Call.{fitting, keying, drawing, sealing, opening, wiping, telling, trailing, boxing}

pub none_refused : (b : Bool) (e : Refusal) (rest : Option Refusal) → refuse b e rest ≡ None → (b ≡ false) × (rest ≡ None)
none_refused true e rest h = absurd (let z : ◌≡◌ {A = ℕ} 0 1 = cc in omega arith)
none_refused false e rest h = (refl, h)

pub record Sealable (m : Model) (t : Ticket) (bs : List ℕ) : Type 0 where
  pub loaded : is_some m.loaded ≡ true
  pub own : t.name ≡ m.name
  pub sized : unsized bs ≡ false
  pub most : length bs ≤ 4096

pub sealable : (m : Model) (t : Ticket) (bs : List ℕ) → seal_refusal m t bs ≡ None → Sealable m t bs
sealable m t bs h =
    let one = none_refused (not (is_some m.loaded)) NoKey (refuse (not (eqb t.name m.name)) OtherName (refuse (unsized bs) SectorLength None)) h in
    let two = none_refused (not (eqb t.name m.name)) OtherName (refuse (unsized bs) SectorLength None) one.1 in
    let three = none_refused (unsized bs) SectorLength None two.1 in
    record {
      loaded = not-false (is_some m.loaded) one.0;
      own = eqb-true t.name m.name (not-false (eqb t.name m.name) two.0);
      sized = three.0;
      most = ltb-false 4096 (length bs) (or_parts (eqb (length bs) 0) (ltb 4096 (length bs)) three.0).1;
    }

-- a ticket given bears the end's name and next number, which is not the last
pub draw_law : (m : Model) (c : Call) → Answers m c → Each (does c).draws (λ t. (t ≡ ticket m.name m.next) × (m.next ≡ 2 ^ 64 - 1 → ⊥))
draw_law m (fitting o (Ok x)) a = tt
draw_law m (fitting o (Err e)) a = tt
draw_law m (keying letter key b b' (Ok u)) a = tt
draw_law m (keying letter key b b' (Err e)) a = tt
draw_law m (drawing (Ok t)) a = (a.1, eqb-false m.next (2 ^ 64 - 1) (none_refused (eqb m.next (2 ^ 64 - 1)) NumbersUsedUp None a.0).0)
draw_law m (drawing (Err e)) a = tt
draw_law m (sealing t b b' (Ok u)) a = tt
draw_law m (sealing t b b' (Err e)) a = tt
draw_law m (opening name number b b' r) a = tt
draw_law m wiping a = tt
draw_law m (telling b b' r) a = tt
draw_law m (trailing x r) a = tt
draw_law m (boxing letter x r) a = tt

-- an accepted seal spends its ticket and has at most 4096 bytes
pub seal_law : (m : Model) (c : Call) → Answers m c → Each (does c).seals (λ x. ((does c).spends ≡ Some x.owner) × (length x.bytes ≤ 4096))
seal_law m (fitting o (Ok x)) a = tt
seal_law m (fitting o (Err e)) a = tt
seal_law m (keying letter key b b' (Ok u)) a = tt
seal_law m (keying letter key b b' (Err e)) a = tt
seal_law m (drawing (Ok t)) a = tt
seal_law m (drawing (Err e)) a = tt
seal_law m (sealing t b b' (Ok u)) a = (refl, (sealable m t b a.0).most)
seal_law m (sealing t b b' (Err e)) a = tt
seal_law m (opening name number b b' r) a = tt
seal_law m wiping a = tt
seal_law m (telling b b' r) a = tt
seal_law m (trailing x r) a = tt
seal_law m (boxing letter x r) a = tt

-- only an accepted fit refits
pub fit_law : (c : Call) → Each (does c).refits (λ x. c ≡ fitting x.octic (Ok x.answer))
fit_law (fitting o (Ok a)) = refl
fit_law (fitting o (Err e)) = tt
fit_law (keying letter key b b' (Ok u)) = tt
fit_law (keying letter key b b' (Err e)) = tt
fit_law (drawing (Ok t)) = tt
fit_law (drawing (Err e)) = tt
fit_law (sealing t b b' (Ok u)) = tt
fit_law (sealing t b b' (Err e)) = tt
fit_law (opening name number b b' r) = tt
fit_law wiping = tt
fit_law (telling b b' r) = tt
fit_law (trailing x r) = tt
fit_law (boxing letter x r) = tt
