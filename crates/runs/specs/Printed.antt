-- What the entries of a sheet do at two ends, and the line that each prints. Assumes nothing.
use Rattle.std.specs.Prelude.{◌≡◌, ℕ, ◌≤◌, true, ◌⊎◌, List, [], ◌∷◌, ◌++◌, length, Ok, Err, Decides, Result}
use Rattle.refusals.specs.declared.Refusal.{Refusal}
use Rattle.rings.specs.Poly.{mul_mod}
use Rattle.display_ring.specs.Display.{display_mul}
use Rattle.ciphers.specs.declared.keys.Cipher.{Cipher}
use Rattle.ciphers.specs.Letters.{letter_for}
use Rattle.ends.specs.declared.records.Answer.{Answer}
use Rattle.ends.specs.declared.ticket.Ticket.{Ticket}
use Rattle.ends.specs.Model.{made}
use Rattle.ends.specs.Model.Call.{fitting, keying, drawing, sealing, opening}
use Rattle.watch.specs.declared.side.Side.{Side}
use Rattle.watch.specs.declared.side.Side.TheVariants.{First, Second}
use Rattle.watch.specs.Sides.{other}
use Rattle.watch.specs.Log.{Log, none, ◌▷◌, entry, holds}
use Rattle.watch.specs.Runs.{World, Begins, Run}
use Rattle.watch.specs.Shows.{Shows}
use Rattle.sheets.specs.Contents.{Item, Contents, items}
use Rattle.sheets.specs.Contents.Item.{fit_item, key_item, sector_item}
use Rattle.sheets.specs.declared.faults.Fault.{Fault}
use Rattle.runs.specs.declared.line.Line.{Line}
use Rattle.runs.specs.declared.line.Line.TheVariants.{Bad, Fit, Key, Sector}
use Rattle.runs.specs.declared.line.Passed.{Passed}
use Rattle.runs.specs.Bearings.{bearing_of}

-- ---- one entry: from the log P its calls lead to the log Q, and it prints the line l

-- whether a call was accepted, without what it answered
abbrev pub outcome : {A : Type 0} → Result A Refusal → Result (Unit {0}) Refusal
outcome (Ok a) = Ok tt
outcome (Err e) = Err e

-- a fit is one call, and its line has what that was refused by
pub record Fits (P : Log) (s : Side) (octic : ℕ) (l : Line) (Q : Log) : Type 0 where
  pub answer : Result Answer Refusal
  pub calls : Q ≡ P ▷ entry s (fitting octic answer)
  pub line : l ≡ Fit s (outcome answer)

-- a key is one call, with a work area that is large enough, and its line has what that was refused by
pub record Keys (P : Log) (s : Side) (c : Cipher) (key : List ℕ) (l : Line) (Q : Log) : Type 0 where
  pub answer : Result (Unit {0}) Refusal
  pub before : List ℕ
  pub after : List ℕ
  pub room : 176 ≤ length before
  pub calls : Q ≡ P ▷ entry s (keying (letter_for c) key before after answer)
  pub line : l ≡ Key s answer

-- a sector for which no ticket is drawn
pub record Undrawn (P : Log) (s : Side) (l : Line) (Q : Log) : Type 0 where
  pub refusal : Refusal
  pub calls : Q ≡ P ▷ entry s (drawing (Err refusal))
  pub line : l ≡ Sector s (Err refusal)

-- a sector that is drawn, and whose seal is refused
pub record Unsealed (P : Log) (s : Side) (bytes : List ℕ) (l : Line) (Q : Log) : Type 0 where
  pub refusal : Refusal
  pub drawn : Ticket
  pub after : List ℕ
  pub calls : Q ≡ P ▷ entry s (drawing (Ok drawn)) ▷ entry s (sealing drawn bytes after (Err refusal))
  pub line : l ≡ Sector s (Err refusal)

-- a sector that is drawn and sealed at its end, and opened at the other under the ticket's name and number: its line has the
-- number and its bearing, and tells whether the opening was accepted and gave the first bytes, as it did if both ends held the
-- same letter and key
pub record Carried (P : Log) (s : Side) (bytes : List ℕ) (l : Line) (Q : Log) : Type 0 where
  pub drawn : Ticket
  pub after : List ℕ
  pub out : List ℕ
  pub answer : Result (Unit {0}) Refusal
  pub passed : Passed
  pub calls : Q ≡ P ▷ entry s (drawing (Ok drawn)) ▷ entry s (sealing drawn bytes after (Ok tt)) ▷ entry (other s) (opening drawn.name drawn.number after out answer)
  pub line : l ≡ Sector s (Ok passed)
  pub number : passed.number ≡ drawn.number
  pub bearing : passed.bearing ≡ bearing_of drawn.number
  pub same : Decides passed.same ((answer ≡ Ok tt) × (out ≡ bytes))
  pub alike : holds (other s) P ≡ holds s P → passed.same ≡ true

-- an entry of any kind
abbrev pub Enters : Log → Item → Line → Log → Type 0
Enters P (fit_item s octic) l Q = Fits P s octic l Q
Enters P (key_item s c key) l Q = Keys P s c key l Q
Enters P (sector_item s bytes) l Q = Undrawn P s l Q ⊎ (Unsealed P s bytes l Q ⊎ Carried P s bytes l Q)

-- entries in order: each goes on from where the one before ended, and each prints one line
abbrev pub Printed : Log → List Item → List Line → Log → Type 0
Printed P [] [] Q = Q ≡ P
Printed P [] (l ∷ ls) Q = ⊥
Printed P (x ∷ xs) [] Q = ⊥
Printed P (x ∷ xs) (l ∷ ls) Q = (M : Log) × Enters P x l M × Printed M xs ls Q

-- ---- a whole sheet

-- H stands over ring 13 under name 1, and D over the display's ring, the pairing of the field of four with constant 2, under name 2;
-- both begin at number 0
abbrev pub start : World
start First = made 4 (mul_mod 4 0x13) 1 0
start Second = made 4 display_mul 2 0

-- what a good sheet prints: a line for each entry, all through one log of the two ends from when they were made, and that log
-- shows the promise over whole runs
pub record Ran (c : Contents) (lines : List Line) : Type 0 where
  pub log : Log
  pub ends : World
  pub run : Run start log ends
  pub printed : Printed none (items c) lines log
  pub shows : Shows ends log

-- what a sheet prints: one line for a bad one, for which there is no log
abbrev pub Commissions : Result Contents Fault → List Line → Type 0
Commissions (Ok c) lines = Ran c lines
Commissions (Err f) lines = lines ≡ Bad f ∷ []

-- ---- a part of a sheet

-- whatever log took two ends to w from when they were made, an entry leads on from it to v
pub record Entered (w : World) (x : Item) (l : Line) (v : World) : Type 0 where
  pub on : (begin : World) (P : Log) → Begins begin → Run begin P w → (Q : Log) × Run begin Q v × Enters P x l Q

-- the same of some entries, whose lines join those printed so far
pub record Extended (w : World) (xs : List Item) (old new : List Line) (v : World) : Type 0 where
  pub lines : List Line
  pub joined : new ≡ old ++ lines
  pub on : (begin : World) (P : Log) → Begins begin → Run begin P w → (Q : Log) × Run begin Q v × Printed P xs lines Q
