-- Seven calls of a watch, from what each promises. Assumes nothing.
use Rattle.std.proofs.Common.{◌≡◌, ℕ, not, ◌||◌, eqb, ltb, List, length, replicate, is_some, None, Some, Ok, Err, Option, Result, sym, refl, ap, ◌∙◌, subst, subst₂, arith, inl, inr}
use Rattle.std.proofs.lemmas.List.{length-replicate}
use Rattle.std.specs.Option.{option_or}
use Rattle.refusals.specs.declared.Refusal.{Refusal}
use Rattle.refusals.specs.declared.Refusal.TheVariants.{NoKey, UnknownLetter, KeyLength, SmallWork, OtherName, SectorLength}
use Rattle.towers.specs.declared.pair.Pair.{Pair}
use Rattle.towers.specs.Fitted.{Sixteen, Refuses}
use Rattle.ciphers.specs.declared.keys.Cipher.{Cipher}
use Rattle.ciphers.specs.Counter.{sealed}
use Rattle.ciphers.proofs.Padding.{sealed_length}
use Rattle.ends.specs.declared.records.Answer.{Answer}
use Rattle.ends.specs.declared.ticket.Ticket.{Ticket}
use Rattle.ends.specs.Choice.{choice_refusal, load_refusal}
use Rattle.ends.specs.Letters.{cipher_for, encipher}
use Rattle.ends.specs.Model.{Model, Call, Blocks, Answers, key_refusal, draw_refusal, seal_refusal, letter_refusal, ticket, refuse, keyed, worked}
use Rattle.ends.specs.Model.Call.{fitting, keying, drawing, sealing, opening}
use Rattle.watch.specs.declared.side.Side.{Side}
use Rattle.watch.specs.declared.side.Side.TheVariants.{First, Second}
use Rattle.watch.specs.declared.two.Watch.{Watch}
use Rattle.watch.specs.Log.{Entry, Log, none, ◌▷◌, entry}
use Rattle.watch.specs.Runs.{World, Goes, Logged}
use Rattle.watch.specs.Shows.{Onward}
use Rattle.watch.specs.Watched.{Kind, Starts, fresh, world}
use Rattle.trip.specs.Trips.{Over, over, BothFitted, Unfitted, refusal_of, sector_refusal, under, Trips}

-- what a watch promises of a call
pub record Did (w : World) (e : Entry) (v : World) : Type 0 where
  pub goes : Goes w e v
  pub onward : Onward w e v

pub did : {w v : World} {e : Entry} → Goes w e v → Onward w e v → Did w e v
did g o = record { goes = g; onward = o }

-- ---- fits

-- the end is fitted to the octic
abbrev FittedTo : ℕ → Model → Type 0
FittedTo o m = (p : Pair) × (m.fitted ≡ Some (record { octic = o; pair = p }))

-- both ends are fitted, and no other call was made
pub record Both (x y : Over) (o : ℕ) (w : World) : Type 0 where
  pub both : BothFitted x y o
  pub first : FittedTo o (w First)
  pub second : FittedTo o (w Second)
  pub named : (w First).name ≡ 1
  pub next : (w First).next ≡ 0
  pub a : Answer
  pub b : Answer
  pub logged : Logged w (none ▷ entry First (fitting o (Ok a)) ▷ entry Second (fitting o (Ok b)))

module _ {X Y : Type 0} {kx : Kind X} {ky : Kind Y} {x : X} {y : Y} {w : Watch X Y} {v : World} {o : ℕ} (new : Starts kx ky (fresh kx x 1 0) (fresh ky y 2 0) w) where
  pub first_unfitted : {e : Refusal} → Goes (world kx ky w) (entry First (fitting o (Err e))) v → Unfitted (over kx.bits (kx.mul x)) (over ky.bits (ky.mul y)) o e
  first_unfitted {e} g = inl (subst (λ (m : Model). Refuses m.bits m.times o e) new.first g.steps.answers)

  module _ {a : Answer} {u : World} (p : Did (world kx ky w) (entry First (fitting o (Ok a))) v) where
    pub second_unfitted : {e : Refusal} → Goes v (entry Second (fitting o (Err e))) u → Unfitted (over kx.bits (kx.mul x)) (over ky.bits (ky.mul y)) o e
    second_unfitted {e} g = inr (
      subst (λ (m : Model). Sixteen m.bits m.times) new.first p.goes.steps.answers.0,
      p.goes.steps.answers.1,
      subst (λ (m : Model). Refuses m.bits m.times o e) (p.goes.stays Second refl ∙ new.second) g.steps.answers,
    )

    pub both_fitted : {b : Answer} → Did v (entry Second (fitting o (Ok b))) u → Both (over kx.bits (kx.mul x)) (over ky.bits (ky.mul y)) o u
    both_fitted {b} q =
        let same = q.goes.stays First refl in
        record {
          both = record {
            first = subst (λ (m : Model). Sixteen m.bits m.times) new.first p.goes.steps.answers.0;
            second = subst (λ (m : Model). Sixteen m.bits m.times) (p.goes.stays Second refl ∙ new.second) q.goes.steps.answers.0;
            accepted = p.goes.steps.answers.1;
          };
          first = subst (FittedTo o) (sym same) (p.goes.steps.fits.pair, p.goes.steps.fits.stored);
          second = (q.goes.steps.fits.pair, q.goes.steps.fits.stored);
          named = ap (λ (m : Model). m.name) same ∙ p.goes.steps.named ∙ ap (λ (m : Model). m.name) new.first;
          next = omega (arith, ap (λ (m : Model). m.next) same, p.goes.steps.next, ap (λ (m : Model). m.next) new.first);
          a = a;
          b = b;
          logged = q.onward.logged _ (p.onward.logged none (new.logged (λ e. omega arith)) tt) tt;
        }

-- ---- keys

-- what a fitted end refuses of a key
at_fit : (m : Model) (o letter : ℕ) (key work : List ℕ) {r : Option Refusal} → FittedTo o m → key_refusal m letter key work ≡ r → load_refusal o letter key work ≡ r
at_fit m o letter key work {r} f =
    subst (λ g. letter_refusal g letter (refuse (not (eqb (length key) 16)) KeyLength (refuse (ltb (length work) 176) SmallWork None)) ≡ r) f.1

-- a letter that is not refused names a cipher
found : (c : Option Cipher) (rest : Option Refusal) → refuse (not (is_some c)) UnknownLetter rest ≡ None → (k : Cipher) × (c ≡ Some k)
found None rest h = absurd cc
found (Some k) rest h = (k, refl)

-- an open of a sector whose length is not refused
opens : (m : Model) (bytes out : List ℕ) (r : Result (Unit {0}) Refusal) {cipher : Blocks} → m.loaded ≡ Some cipher → sector_refusal bytes ≡ None → Answers m (opening 1 0 bytes out r)
    → (r ≡ Ok tt) × (out ≡ sealed cipher 1 0 bytes)
opens m bytes out (Ok u) loaded sized a = (refl, a.1 ∙ ap (λ d. worked d 1 0 bytes) loaded)
opens m bytes out (Err e) loaded sized a =
    absurd (let h = a.0 in let g = ap (λ d. refuse (not (is_some d)) NoKey (sector_refusal bytes)) loaded in cc)

-- what is accepted is not refused
pub never : {r : Result (Unit {0}) Refusal} {e : Refusal} → r ≡ Err e → r ≡ Ok tt → ⊥
never h k = let g = sym h ∙ k in cc

-- a call with a part that is known
known : {A : Type 0} {w v : World} {s : Side} {r a : A} (call : A → Call) → r ≡ a → Did w (entry s (call r)) v → Did w (entry s (call a)) v
known {w = w} {v = v} {s = s} call = subst (λ x. Did w (entry s (call x)) v)

module _ {x y : Over} {w : World} {o : ℕ} (letter : ℕ) (one two work bytes : List ℕ) (at : Both x y o w) where
  first_answer : {r : Option Refusal} → key_refusal (w First) letter one work ≡ r
      → refusal_of o letter one two work bytes ≡ option_or r (option_or (load_refusal o letter two work) (sector_refusal bytes))
  first_answer h = ap (λ r. option_or r (option_or (load_refusal o letter two work) (sector_refusal bytes))) (at_fit (w First) o letter one work at.first h)

  pub first_unkeyed : {v : World} {b : List ℕ} {e : Refusal} → Goes w (entry First (keying letter one work b (Err e))) v → Trips x y o letter one two work bytes (Err e) b bytes
  first_unkeyed g = (refl, inr (at.both, first_answer g.steps.answers.0, g.steps.answers.1))

  module _ {v : World} {b : List ℕ} (p : Did w (entry First (keying letter one work b (Ok tt))) v) where
    -- the second end refuses as with the first work area, which is zero again
    second_answer : {c : List ℕ} {r : Option Refusal} → (key_refusal (v Second) letter two b ≡ r) × (c ≡ replicate (length b) 0)
        → (refusal_of o letter one two work bytes ≡ option_or r (sector_refusal bytes)) × (c ≡ replicate (length work) 0)
    second_answer h =
        let long = ap length p.goes.steps.answers.1 ∙ length-replicate (length work) 0 in
        let room = ap (λ n. choice_refusal o letter (refuse (not (eqb (length two) 16)) KeyLength (refuse (ltb n 176) SmallWork None))) (sym long) in
        let same = at_fit (v Second) o letter two b (subst (FittedTo o) (sym (p.goes.stays Second refl)) at.second) h.0 in (
          first_answer p.goes.steps.answers.0 ∙ ap (λ r. option_or r (sector_refusal bytes)) (room ∙ same),
          h.1 ∙ ap (λ n. replicate n 0) long,
        )

    pub second_unkeyed : {u : World} {c : List ℕ} {e : Refusal} → Goes v (entry Second (keying letter two b c (Err e))) u → Trips x y o letter one two work bytes (Err e) c bytes
    second_unkeyed g = let a = second_answer g.steps.answers in (refl, inr (at.both, a.0, a.1))

    -- both ends hold a key, and no ticket was drawn yet
    module _ {u : World} {c : List ℕ} (q : Did v (entry Second (keying letter two b c (Ok tt))) u) where
      cipher : (d : Cipher) × (cipher_for letter ≡ Some d)
      cipher = found (cipher_for letter) _ (at_fit (w First) o letter one work at.first p.goes.steps.answers.0)

      first_is : u First ≡ record (w First) { name = 1; next = 0; loaded = Some (encipher cipher.0 one) }
      first_is =
          let k = p.goes.steps in
          let next : (v First).next ≡ 0 = omega (arith, k.next, at.next) in
          q.goes.stays First refl
          ∙ (λ i. record { bits = k.width i; times = k.ring i; name = (k.named ∙ at.named) i; next = next i; fitted = k.fits i; loaded = (k.holds ∙ ap (λ d. keyed d one) cipher.1) i })

      -- the first number can be drawn
      pub never_undrawn : {z : World} {e : Refusal} → Goes u (entry First (drawing (Err e))) z → ⊥
      never_undrawn {z} {e} g = let h = subst (λ (m : Model). draw_refusal m ≡ Some e) first_is g.steps.answers in cc

      module _ {z : World} {t : Ticket} (d : Did u (entry First (drawing (Ok t))) z) where
        is_first : t ≡ ticket 1 0
        is_first = d.goes.steps.answers.1 ∙ ap (λ (m : Model). ticket m.name m.next) first_is

        loaded : (z First).loaded ≡ Some (encipher cipher.0 one)
        loaded = d.goes.steps.holds ∙ ap (λ (m : Model). m.loaded) first_is

        sized : {r : Option Refusal} → seal_refusal (z First) (ticket 1 0) bytes ≡ r → sector_refusal bytes ≡ r
        sized {r} = subst₂ (λ l n. refuse (not (is_some l)) NoKey (refuse (not (eqb 1 n)) OtherName (sector_refusal bytes)) ≡ r) loaded (d.goes.steps.named ∙ ap (λ (m : Model). m.name) first_is)

        pub unsealed : {a : List ℕ} {e : Refusal} → Goes z (entry First (sealing t bytes a (Err e))) z → Trips x y o letter one two work bytes (Err e) c a
        unsealed {a} {e} g =
            let s = subst (λ n. Goes z (entry First (sealing n bytes a (Err e))) z) is_first g in
            let k = second_answer q.goes.steps.answers in
            (s.steps.answers.1, inr (at.both, k.0 ∙ sized s.steps.answers.0, k.1))

        pub opened : {a out : List ℕ} {name number : ℕ} {r : Result (Unit {0}) Refusal} → Did z (entry First (sealing t bytes a (Ok tt))) z
            → Did z (entry Second (opening name number a out r)) z → name ≡ t.name → number ≡ t.number
            → (r ≡ Ok tt) × Trips x y o letter one two work bytes (Ok a) c out × (one ≡ two → out ≡ bytes)
        opened {a} {out} {name} {number} {r} seal open' named numbered =
            let s = known (λ n. sealing n bytes a (Ok tt)) is_first seal in
            let f =
            known (λ n. opening 1 n a out r) (numbered ∙ ap (λ (n : Ticket). n.number) is_first)
            (known (λ n. opening n number a out r) (named ∙ ap (λ (n : Ticket). n.name) is_first) open') in
            let k = second_answer q.goes.steps.answers in
            let right = sized s.goes.steps.answers.0 in
            let first : a ≡ sealed (encipher cipher.0 one) 1 0 bytes = s.goes.steps.answers.1 ∙ ap (λ l. worked l 1 0 bytes) loaded in
            let long = ap length first ∙ sealed_length (encipher cipher.0 one) 1 0 bytes in
            let second : (z Second).loaded ≡ Some (encipher cipher.0 two) =
            ap (λ (m : Model). m.loaded) (d.goes.stays Second refl) ∙ q.goes.steps.holds ∙ ap (λ e. keyed e two) cipher.1 in
            let last = opens (z Second) a out r second (ap (λ n. refuse (eqb n 0 || ltb 4096 n) SectorLength None) long ∙ right) f.goes.steps.answers in
            let crossed : a ≡ under (cipher_for letter) one bytes = first ∙ sym (ap (λ e. under e one bytes) cipher.1) in
            let after : out ≡ under (cipher_for letter) two a = last.1 ∙ sym (ap (λ e. under e two a) cipher.1) in
            let keyed-log = q.onward.logged _ (p.onward.logged _ at.logged tt) tt in
            let P : Log = _ ▷ entry First (drawing (Ok (ticket 1 0))) in
            let drawn : Logged z P = (known (λ n. drawing (Ok n)) is_first d).onward.logged _ keyed-log tt in
            let Q : Log = P ▷ entry First (sealing (ticket 1 0) bytes a (Ok tt)) in
            let logged : Logged z Q = s.onward.logged P drawn (omega arith) in (
              last.0,
              (crossed, after, at.both, k.0 ∙ right, k.1),
              λ e. ((f.onward.shown Q logged tt).opens First Second (ticket 1 0) bytes a out r P Q (inl (refl, refl)) (inl (refl, refl))
                  (ap (λ key. Some (record { letter = letter; key = key })) (sym e))).1,
            )
