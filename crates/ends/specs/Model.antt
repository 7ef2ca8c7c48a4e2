-- An end by what its calls can see of it, and what each call answers and does. Assumes nothing.
use Rattle.std.specs.Prelude.{◌≡◌, ℕ, ◌+◌, ◌-◌, ◌^◌, Bool, true, false, not, ◌||◌, List, ◌++◌, length, replicate, is_some, Some, None, Ok, Err, Option, Result, ◌==◌, nat_lt}
use Rattle.refusals.specs.declared.Refusal.{Refusal}
use Rattle.refusals.specs.declared.Refusal.TheVariants.{NoFit, UnknownLetter, OtherOctic, KeyLength, SmallWork, NoKey, OtherName, SectorLength, NumbersUsedUp}
use Rattle.octics.specs.Octics.{Accepted}
use Rattle.towers.specs.declared.pair.Pair.{Pair}
use Rattle.towers.specs.declared.trail.Trail.{Trail}
use Rattle.towers.specs.Fitted.{Sixteen, Refuses}
use Rattle.towers.specs.Keeps.{Keeps}
use Rattle.towers.specs.Trails.{Trails}
use Rattle.ciphers.specs.declared.keys.Cipher.{Cipher}
use Rattle.ciphers.specs.Keys.{cipher_of}
use Rattle.ciphers.specs.Counter.{sealed}
use Rattle.ends.specs.declared.end.End.{End}
use Rattle.ends.specs.declared.fitted.Fitted.{Fitted}
use Rattle.ends.specs.declared.fitted.Loaded.{Loaded}
use Rattle.ends.specs.declared.records.Answer.{Answer}
use Rattle.ends.specs.declared.records.Told.{Told}
use Rattle.ends.specs.declared.ticket.Ticket.{Ticket}
use Rattle.ends.specs.Letters.{cipher_for, box_of, encipher, suits}

-- ---- an end

-- a fit: the octic, and the pair that is kept for it
pub record Fit : Type 0 where
  pub octic : ℕ
  pub pair : Pair

-- a cipher under a key: what it makes of a block
abbrev pub Blocks : Type 0
Blocks = List ℕ → List ℕ

-- what calls can see of an end: the width and the product of its ring, its name, its next number, its fit and its cipher under its key
pub record Model : Type 0 where
  pub bits : ℕ
  pub times : ℕ → ℕ → ℕ
  pub name : ℕ
  pub next : ℕ
  pub fitted : Option Fit
  pub loaded : Option Blocks

-- the fit of an end
abbrev pub fit_in : Option Fitted → Option Fit
fit_in None = None
fit_in (Some f) = Some (record { octic = f.inverses.octic; pair = f.pair })

-- a key that is loaded, by what its cipher makes of a block
abbrev pub block_cipher : Loaded → Blocks
block_cipher l = cipher_of (box_of l.boxed.cipher) l.schedule

-- the cipher under the key of an end
abbrev pub blocks_in : Option Loaded → Option Blocks
blocks_in None = None
blocks_in (Some l) = Some (block_cipher l)

-- the model of an end over a ring of a width and with a product
abbrev pub model : {R : Type 0} → ℕ → (R → ℕ → ℕ → ℕ) → End R → Model
model bits mul e =
    record { bits = bits; times = mul e.ring; name = e.name; next = e.next; fitted = fit_in e.fitted; loaded = blocks_in e.loaded }

-- an end just made: no fit and no key
abbrev pub made : ℕ → (ℕ → ℕ → ℕ) → ℕ → ℕ → Model
made bits times name first = record { bits = bits; times = times; name = name; next = first; fitted = None; loaded = None }

-- ---- records

-- the ticket of a name and a number
abbrev pub ticket : ℕ → ℕ → Ticket
ticket name number = record { name = name; number = number }

-- a pair as tell gives it: the columns of its map, and then those of the reverse map
abbrev pub told_of : Pair → Told
told_of p = record { c = p.constant; ones = p.ones; columns = p.columns ++ p.reverse }

-- a pair as fit answers it
abbrev pub answer_of : Pair → Answer
answer_of p = record { c = p.constant; ones = p.ones }

-- ---- calls

-- a call, with what it was handed and what it gave back: bytes, work area and lent record before and after
pub data Call : Type 0 where
  fitting : (octic : ℕ) (r : Result Answer Refusal) → Call
  keying : (letter : ℕ) (key before after : List ℕ) (r : Result (Unit {0}) Refusal) → Call
  drawing : (r : Result Ticket Refusal) → Call
  sealing : (t : Ticket) (before after : List ℕ) (r : Result (Unit {0}) Refusal) → Call
  opening : (name number : ℕ) (before after : List ℕ) (r : Result (Unit {0}) Refusal) → Call
  wiping : Call
  telling : (before after : Told) (r : Result (Unit {0}) Refusal) → Call
  trailing : (byte : ℕ) (r : Result Trail Refusal) → Call
  boxing : (letter byte : ℕ) (r : Result ℕ Refusal) → Call

-- ---- refusals, tried in rising order

-- the refusal e where its condition holds, and else what comes after it
abbrev pub refuse : Bool → Refusal → Option Refusal → Option Refusal
refuse true e rest = Some e
refuse false e rest = rest

-- the fitted octic is that of the letter's cipher
abbrev pub suited : Option Fit → ℕ → Bool
suited None letter = false
suited (Some f) letter = suits f.octic (cipher_for letter)

-- no fit, an unknown letter or another octic, and else what comes after
abbrev pub letter_refusal : Option Fit → ℕ → Option Refusal → Option Refusal
letter_refusal f letter rest =
    refuse (not (is_some f)) NoFit
    (refuse (not (is_some (cipher_for letter))) UnknownLetter (refuse (not (suited f letter)) OtherOctic rest))

-- key: no fit, an unknown letter, another octic, a key of the wrong length, or a work area that is too small
abbrev pub key_refusal : Model → ℕ → List ℕ → List ℕ → Option Refusal
key_refusal m letter key work =
    letter_refusal m.fitted letter (refuse (not (length key == 16)) KeyLength (refuse (nat_lt (length work) 176) SmallWork None))

-- draw: the next number is the largest of 64 bits
abbrev pub draw_refusal : Model → Option Refusal
draw_refusal m = refuse (m.next == 2 ^ 64 - 1) NumbersUsedUp None

-- 0 bytes, or more than 4096
abbrev pub unsized : List ℕ → Bool
unsized bs = length bs == 0 || nat_lt 4096 (length bs)

-- seal: no key, another name, or a length out of range
abbrev pub seal_refusal : Model → Ticket → List ℕ → Option Refusal
seal_refusal m t bs =
    refuse (not (is_some m.loaded)) NoKey (refuse (not (t.name == m.name)) OtherName (refuse (unsized bs) SectorLength None))

-- open: no key, or a length out of range; any name will do
abbrev pub open_refusal : Model → List ℕ → Option Refusal
open_refusal m bs = refuse (not (is_some m.loaded)) NoKey (refuse (unsized bs) SectorLength None)

-- tell and trail: no fit
abbrev pub fit_refusal : Model → Option Refusal
fit_refusal m = refuse (not (is_some m.fitted)) NoFit None

-- box: no fit, an unknown letter, or another octic
abbrev pub box_refusal : Model → ℕ → Option Refusal
box_refusal m letter = letter_refusal m.fitted letter None

-- ---- what a call answers, and the bytes after it

-- the bytes in the counter mode, under a name and a number
abbrev pub worked : Option Blocks → ℕ → ℕ → List ℕ → List ℕ
worked None name number bs = bs
worked (Some cipher) name number bs = sealed cipher name number bs

-- the record that tell leaves
abbrev pub told_by : Option Fit → Told → Told
told_by None old = old
told_by (Some f) old = told_of f.pair

-- the trail of a byte on a fitted end
abbrev pub Trailed : Model → Option Fit → ℕ → Trail → Type 0
Trailed m None x t = ⊥
Trailed m (Some f) x t = Trails m.bits m.times f.pair x t

-- the byte of the letter's box
abbrev pub boxed_by : Option Cipher → ℕ → Option ℕ
boxed_by None x = None
boxed_by (Some c) x = Some (box_of c x)

-- accepted just if no refusal's condition holds, else refused by the first; a refusal leaves the bytes, key zeros in any case
abbrev pub Answers : Model → Call → Type 0
Answers m (fitting o (Ok a)) = Sixteen m.bits m.times × Accepted o
Answers m (fitting o (Err e)) = Refuses m.bits m.times o e
Answers m (keying letter key b b' (Ok u)) = (key_refusal m letter key b ≡ None) × (b' ≡ replicate (length b) 0)
Answers m (keying letter key b b' (Err e)) = (key_refusal m letter key b ≡ Some e) × (b' ≡ replicate (length b) 0)
Answers m (drawing (Ok t)) = (draw_refusal m ≡ None) × (t ≡ ticket m.name m.next)
Answers m (drawing (Err e)) = draw_refusal m ≡ Some e
Answers m (sealing t b b' (Ok u)) = (seal_refusal m t b ≡ None) × (b' ≡ worked m.loaded t.name t.number b)
Answers m (sealing t b b' (Err e)) = (seal_refusal m t b ≡ Some e) × (b' ≡ b)
Answers m (opening name number b b' (Ok u)) = (open_refusal m b ≡ None) × (b' ≡ worked m.loaded name number b)
Answers m (opening name number b b' (Err e)) = (open_refusal m b ≡ Some e) × (b' ≡ b)
Answers m wiping = Unit {0}
Answers m (telling b b' (Ok u)) = (fit_refusal m ≡ None) × (b' ≡ told_by m.fitted b)
Answers m (telling b b' (Err e)) = (fit_refusal m ≡ Some e) × (b' ≡ b)
Answers m (trailing x (Ok t)) = (fit_refusal m ≡ None) × Trailed m m.fitted x t
Answers m (trailing x (Err e)) = fit_refusal m ≡ Some e
Answers m (boxing letter x (Ok y)) = (box_refusal m letter ≡ None) × (boxed_by (cipher_for letter) x ≡ Some y)
Answers m (boxing letter x (Err e)) = box_refusal m letter ≡ Some e

-- ---- what a call does

-- an accepted fit
pub record Refit : Type 0 where
  pub octic : ℕ
  pub answer : Answer

-- the letter and the key of an accepted key call
pub record Held : Type 0 where
  pub letter : ℕ
  pub key : List ℕ

-- the ticket and the first bytes of an accepted seal
pub record Sector : Type 0 where
  pub owner : Ticket
  pub bytes : List ℕ

-- what a call did: an accepted fit; what the end holds from then on; the ticket given; the ticket spent; an accepted seal
pub record Effect : Type 0 where
  pub refits : Option Refit
  pub loads : Option (Option Held)
  pub draws : Option Ticket
  pub spends : Option Ticket
  pub seals : Option Sector

-- the five things that a call may do
abbrev effect : Option Refit → Option (Option Held) → Option Ticket → Option Ticket → Option Sector → Effect
effect f l d p s = record { refits = f; loads = l; draws = d; spends = p; seals = s }

-- an accepted fit forgets the key, as a wipe does; a seal spends its ticket, accepted or not
abbrev pub does : Call → Effect
does (fitting o (Ok a)) = effect (Some (record { octic = o; answer = a })) (Some None) None None None
does (fitting o (Err e)) = effect None None None None None
does (keying letter key b b' (Ok u)) = effect None (Some (Some (record { letter = letter; key = key }))) None None None
does (keying letter key b b' (Err e)) = effect None None None None None
does (drawing (Ok t)) = effect None None (Some t) None None
does (drawing (Err e)) = effect None None None None None
does (sealing t b b' (Ok u)) = effect None None None (Some t) (Some (record { owner = t; bytes = b }))
does (sealing t b b' (Err e)) = effect None None None (Some t) None
does (opening name number b b' r) = effect None None None None None
does wiping = effect None (Some None) None None None
does (telling b b' r) = effect None None None None None
does (trailing x r) = effect None None None None None
does (boxing letter x r) = effect None None None None None

-- P of what is there, if anything is
abbrev pub Each : {A : Type 0} → Option A → (A → Type 0) → Type 0
Each None P = Unit {0}
Each (Some x) P = P x

-- 1 if a ticket was given, else 0
abbrev pub given : Option Ticket → ℕ
given None = 0
given (Some t) = 1

-- ---- a step

-- the letter's cipher under a key
abbrev pub keyed : Option Cipher → List ℕ → Option Blocks
keyed None key = None
keyed (Some c) key = Some (encipher c key)

-- the cipher under the key that is held
abbrev pub blocks_by : Option Held → Option Blocks
blocks_by None = None
blocks_by (Some h) = keyed (cipher_for h.letter) h.key

-- what is loaded after a call
abbrev pub loaded_after : Option (Option Held) → Option Blocks → Option Blocks
loaded_after None old = old
loaded_after (Some h) old = blocks_by h

-- an accepted fit keeps the pair that it is defined to keep, and answers its c and ones
pub record Refitted (times : ℕ → ℕ → ℕ) (octic : ℕ) (a : Answer) (f : Option Fit) : Type 0 where
  pub pair : Pair
  pub keeps : Keeps times octic pair
  pub answered : a ≡ answer_of pair
  pub stored : f ≡ Some (record { octic = octic; pair = pair })

-- what an end has fitted after a call
abbrev pub Fits : (ℕ → ℕ → ℕ) → Option Fit → Option Refit → Option Fit → Type 0
Fits times old None f = f ≡ old
Fits times old (Some x) f = Refitted times x.octic x.answer f

-- a call takes the end m to the end n: it answers as it should, only draw moves the number, and ring and name stay
pub record Step (m : Model) (c : Call) (n : Model) : Type 0 where
  pub answers : Answers m c
  pub width : n.bits ≡ m.bits
  pub ring : n.times ≡ m.times
  pub named : n.name ≡ m.name
  pub next : n.next ≡ m.next + given (does c).draws
  pub holds : n.loaded ≡ loaded_after (does c).loads m.loaded
  pub fits : Fits m.times m.fitted (does c).refits n.fitted

-- a call takes one end to another, by their models: the contract of every call
abbrev pub Calls : {R : Type 0} → ℕ → (R → ℕ → ℕ → ℕ) → End R → Call → End R → Type 0
Calls bits mul e c e' = Step (model bits mul e) c (model bits mul e')
