-- What opens a sector by the known fit does as an end over the display's ring would. Assumes nothing.
use Rattle.std.proofs.Common.{◌≡◌, ℕ, ◌≤◌, Bool, true, false, not, eqb, ltb, List, length, replicate, is_some, Some, None, Ok, Err, Option, Result, sym, refl, ap, ◌∙◌, subst, subst₂, arith}
use Rattle.std.proofs.lemmas.Bool.{eq-eqb, le-ltb}
use Rattle.std.proofs.lemmas.List.{length-replicate}
use Rattle.refusals.specs.declared.Refusal.{Refusal}
use Rattle.refusals.specs.declared.Refusal.TheVariants.{NoKey, UnknownLetter, OtherOctic, KeyLength, SmallWork, SectorLength}
use Rattle.display_ring.specs.Display.{display_mul}
use Rattle.display_ring.proofs.DisplayPairs.{sixteen}
use Rattle.towers.specs.Keeps.{Keeps}
use Rattle.towers.proofs.Unique.{kept_once}
use Rattle.ciphers.specs.declared.keys.Cipher.{Cipher}
use Rattle.ends.specs.Display.{display_refusal, Opened, Gives, AsEnd, known_pair, AtEnd, KeepsKnown, Exists}
use Rattle.ends.specs.Letters.{cipher_for, octic_of, suits}
use Rattle.ends.specs.Model.{Model, Fit, Blocks, Call, Answers, Step, Fits, does, given, loaded_after, made, answer_of, refuse, unsized, worked, keyed, letter_refusal, key_refusal, open_refusal}
use Rattle.ends.specs.Model.Call.{fitting, keying, opening}
use Rattle.ends.proofs.Known.{accepted_of, kept_of}

-- the first refusal D, or the bytes w; a refusal leaves the old bytes
abbrev Settled : Option Refusal → List ℕ → List ℕ → Result (Unit {0}) Refusal → List ℕ → Type 0
Settled D w old (Ok u) new = (D ≡ None) × (new ≡ w)
Settled D w old (Err e) new = (D ≡ Some e) × (new ≡ old)

none_some : (D : Option Refusal) (e : Refusal) → D ≡ None → D ≡ Some e → ⊥
none_some D e p q = let z : ◌≡◌ {A = ℕ} 0 1 = cc in omega arith

-- answer and bytes are settled so
settled_once : (D : Option Refusal) (w old : List ℕ) (r : Result (Unit {0}) Refusal) (new : List ℕ) (s : Result (Unit {0}) Refusal) (out : List ℕ)
    → Settled D w old r new → Settled D w old s out → (r ≡ s) × (new ≡ out)
settled_once D w old (Ok u) new (Ok v) out a b = (refl, a.1 ∙ sym b.1)
settled_once D w old (Ok u) new (Err e) out a b = absurd (none_some D e a.0 b.0)
settled_once D w old (Err e) new (Ok v) out a b = absurd (none_some D e b.0 a.0)
settled_once D w old (Err e) new (Err x) out a b = (let q : e ≡ x = cc in ap Err q, a.1 ∙ sym b.1)

opened_settled : (letter : ℕ) (key : List ℕ) (name number : ℕ) (old : List ℕ) (r : Result (Unit {0}) Refusal) (new : List ℕ)
    → Opened letter key name number old r new → Settled (display_refusal letter key old) (worked (keyed (cipher_for letter) key) name number old) old r new
opened_settled letter key name number old (Ok u) new o = o
opened_settled letter key name number old (Err e) new o = o

-- what an open answers is settled
end_settled : (m : Model) (name number : ℕ) (old out : List ℕ) (r : Result (Unit {0}) Refusal)
    → Answers m (opening name number old out r) → Settled (open_refusal m old) (worked m.loaded name number old) old r out
end_settled m name number old out (Ok u) a = a
end_settled m name number old out (Err e) a = a

-- and the other way round
settled_end : (m : Model) (name number : ℕ) (old out : List ℕ) (r : Result (Unit {0}) Refusal)
    → Settled (open_refusal m old) (worked m.loaded name number old) old r out → Answers m (opening name number old out r)
settled_end m name number old out (Ok u) a = a
settled_end m name number old out (Err e) a = a

-- what key refuses where the end is fitted to an octic, by the letter's cipher
abbrev chain : Option Cipher → ℕ → Bool → Bool → Option Refusal
chain o octic short small = refuse (not (is_some o)) UnknownLetter (refuse (not (suits octic o)) OtherOctic (refuse short KeyLength (refuse small SmallWork None)))

-- the display's refusals with what stands in the place of the sector's length
abbrev first_two : Option Cipher → Bool → Option Refusal → Option Refusal
first_two o short rest = refuse (not (is_some o)) UnknownLetter (refuse short KeyLength rest)

own_octic : (o : Option Cipher) (octic : ℕ) (short small : Bool) → ((c : Cipher) → o ≡ Some c → octic ≡ octic_of c) → small ≡ false
    → chain o octic short small ≡ first_two o short None
own_octic None octic short small own s = refl
own_octic (Some c) octic short small own s = rw (eq-eqb octic (octic_of c) (own c refl), s)

refused_too : (o : Option Cipher) (short : Bool) (rest : Option Refusal) (e : Refusal) → first_two o short None ≡ Some e → first_two o short rest ≡ Some e
refused_too None short rest e h = h
refused_too (Some c) true rest e h = h
refused_too (Some c) false rest e h = absurd (none_some None e refl h)

-- the key is accepted, so the cipher is loaded, and only the sector's length is left to refuse
passed_on : (o : Option Cipher) (key : List ℕ) (short : Bool) (long : Bool) → first_two o short None ≡ None
    → refuse (not (is_some (keyed o key))) NoKey (refuse long SectorLength None) ≡ first_two o short (refuse long SectorLength None)
passed_on None key short long h = absurd (none_some None UnknownLetter refl (sym h))
passed_on (Some c) key true long h = absurd (none_some None KeyLength refl (sym h))
passed_on (Some c) key false long h = refl

-- what the end's key refuses
key_refused : (m : Model) (f : Fit) (letter : ℕ) (key work : List ℕ) → m.fitted ≡ Some f → ((c : Cipher) → cipher_for letter ≡ Some c → f.octic ≡ octic_of c)
    → 176 ≤ length work → key_refusal m letter key work ≡ first_two (cipher_for letter) (not (eqb (length key) 16)) None
key_refused m f letter key work e own room =
    ap (λ (g : Option Fit). letter_refusal g letter (refuse (not (eqb (length key) 16)) KeyLength (refuse (ltb (length work) 176) SmallWork None))) e
    ∙ own_octic (cipher_for letter) f.octic (not (eqb (length key) 16)) (ltb (length work) 176) own (le-ltb (length work) 176 room)

-- a known letter and a key of 16 bytes are not refused
unrefused : (o : Option Cipher) (c : Cipher) (n : ℕ) → o ≡ Some c → n ≡ 16 → first_two o (not (eqb n 16)) None ≡ None
unrefused o c n h k = rw (h, eq-eqb n 16 k)

-- an end with another fit and another key
abbrev left : Model → Option Fit → Option Blocks → Model
left m f l = record m { fitted = f; loaded = l }

-- a call that draws nothing leaves the end so
undrawn : (m : Model) (f : Option Fit) (l : Option Blocks) (c : Call) → given (does c).draws ≡ 0 → Answers m c
    → l ≡ loaded_after (does c).loads m.loaded → Fits m.times m.fitted (does c).refits f → Step m c (left m f l)
undrawn m f l c none a loads fits =
    record { answers = a; width = refl; ring = refl; named = refl; next = omega arith; holds = loads; fits = fits }

module _ (letter : ℕ) (key : List ℕ) (name number : ℕ) (old : List ℕ) (r : Result (Unit {0}) Refusal) (new : List ℕ) (o : Opened letter key name number old r new) where
  gives : (m n : Model) (work cleared out : List ℕ) (k s : Result (Unit {0}) Refusal)
      → key_refusal m letter key work ≡ first_two (cipher_for letter) (not (eqb (length key) 16)) None
      → Step m (keying letter key work cleared k) n → Answers n (opening name number old out s) → Gives k s out old r new
  gives m n work cleared out (Err e) s q K a =
      settled_once (display_refusal letter key old) (worked (keyed (cipher_for letter) key) name number old) old r new (Err e) old
      (opened_settled letter key name number old r new o)
      (refused_too (cipher_for letter) (not (eqb (length key) 16)) (refuse (unsized old) SectorLength None) e (sym q ∙ K.answers.0), refl)
  gives m n work cleared out (Ok u) s q K a =
      settled_once (display_refusal letter key old) (worked (keyed (cipher_for letter) key) name number old) old r new s out
      (opened_settled letter key name number old r new o)
      (subst₂ (λ (D : Option Refusal) (w : List ℕ). Settled D w old s out)
      (ap (λ (b : Option Blocks). refuse (not (is_some b)) NoKey (refuse (unsized old) SectorLength None)) K.holds
      ∙ passed_on (cipher_for letter) key (not (eqb (length key) 16)) (unsized old) (sym q ∙ K.answers.0))
      (ap (λ (b : Option Blocks). worked b name number old) K.holds) (end_settled n name number old out s a))

  keeps_known : (e : AtEnd letter key name number old) → KeepsKnown letter e.fitted.fitted
  keeps_known e c h =
      let octic = e.own c h in
      let keeps = subst₂ (λ (f : ℕ → ℕ → ℕ) (o : ℕ). Keeps f o e.fits.fits.pair) e.ring octic e.fits.fits.keeps in
      let same = kept_once display_mul (octic_of c) e.fits.fits.pair (known_pair c) keeps (kept_of c) in
      e.fits.fits.stored ∙ (λ i. Some (record { octic = octic i; pair = same i }))

  exists : (work : List ℕ) → 176 ≤ length work → (c : Cipher) → cipher_for letter ≡ Some c → length key ≡ 16 → (own first : ℕ)
      → Exists letter key name number old r new own first
  exists work room c h k own first =
      let m : Model = made 4 display_mul own first in
      let fit : Fit = record { octic = octic_of c; pair = known_pair c } in
      let its : (d : Cipher) → cipher_for letter ≡ Some d → octic_of c ≡ octic_of d = λ d q. let e : c ≡ d = cc in ap octic_of e in
      let known = unrefused (cipher_for letter) c (length key) h k in
      record {
        at_end = record {
          before = m;
          fitted = left m (Some fit) None;
          keyed = left m (Some fit) (keyed (cipher_for letter) key);
          after = left m (Some fit) (keyed (cipher_for letter) key);
          octic = octic_of c;
          answer = answer_of (known_pair c);
          work = work;
          cleared = replicate (length work) 0;
          out = new;
          key_answer = Ok tt;
          open_answer = r;
          width = refl;
          ring = refl;
          own = its;
          room = room;
          fits =
              undrawn m (Some fit) None (fitting (octic_of c) (Ok (answer_of (known_pair c)))) refl (sixteen, accepted_of c) refl
              (record { pair = known_pair c; keeps = kept_of c; answered = refl; stored = refl });
          keys =
              undrawn (left m (Some fit) None) (Some fit) (keyed (cipher_for letter) key)
              (keying letter key work (replicate (length work) 0) (Ok tt)) refl
              (key_refused (left m (Some fit) None) fit letter key work refl its room ∙ known, refl) refl refl;
          opens =
              undrawn (left m (Some fit) (keyed (cipher_for letter) key)) (Some fit) (keyed (cipher_for letter) key)
              (opening name number old new r) refl
              (settled_end (left m (Some fit) (keyed (cipher_for letter) key)) name number old new r
              (subst (λ (D : Option Refusal). Settled D (worked (keyed (cipher_for letter) key) name number old) old r new)
              (sym (passed_on (cipher_for letter) key (not (eqb (length key) 16)) (unsized old) known))
              (opened_settled letter key name number old r new o)))
              refl refl;
        };
        fresh = refl;
        accepts = refl;
        answers = refl;
        leaves = refl;
      }

  pub as_end : AsEnd letter key name number old r new
  as_end = record {
    keeps = keeps_known;
    gives = λ e.
        gives e.fitted e.keyed e.work e.cleared e.out e.key_answer e.open_answer
        (key_refused e.fitted (record { octic = e.octic; pair = e.fits.fits.pair }) letter key e.work e.fits.fits.stored e.own e.room)
        e.keys e.opens.answers;
    exists = exists (replicate 176 0) (omega (arith, length-replicate {A = ℕ} 176 0));
  }
