-- What a call answers that opens one sector as an end over the display's ring would. Assumes nothing.
use Rattle.std.specs.Prelude.{◌≡◌, ℕ, ◌≤◌, not, List, length, is_some, Some, None, Ok, Err, Option, Result, ◌==◌}
use Rattle.refusals.specs.declared.Refusal.{Refusal}
use Rattle.refusals.specs.declared.Refusal.TheVariants.{UnknownLetter, KeyLength, SectorLength}
use Rattle.display_ring.specs.Display.{display_mul, pair_11b, pair_1f5}
use Rattle.towers.specs.declared.pair.Pair.{Pair}
use Rattle.ciphers.specs.declared.keys.Cipher.{Cipher}
use Rattle.ciphers.specs.declared.keys.Cipher.TheVariants.{Aes, Sm4}
use Rattle.ends.specs.declared.records.Answer.{Answer}
use Rattle.ends.specs.Letters.{cipher_for, octic_of}
use Rattle.ends.specs.Model.{Model, Fit, Step, made, refuse, unsized, worked, keyed}
use Rattle.ends.specs.Model.Call.{fitting, keying, opening}

-- an unknown letter, a key of the wrong length, or a sector of the wrong length
abbrev pub display_refusal : ℕ → List ℕ → List ℕ → Option Refusal
display_refusal letter key bs =
    refuse (not (is_some (cipher_for letter))) UnknownLetter
    (refuse (not (length key == 16)) KeyLength (refuse (unsized bs) SectorLength None))

-- the letter's cipher where nothing refuses the call, and else the first refusal
abbrev pub Admitted : ℕ → List ℕ → List ℕ → Result Cipher Refusal → Type 0
Admitted letter key bs (Ok c) = (display_refusal letter key bs ≡ None) × (cipher_for letter ≡ Some c)
Admitted letter key bs (Err e) = display_refusal letter key bs ≡ Some e

-- the bytes are worked by the letter's cipher under the key just if nothing refuses the call; a refusal leaves them as they were
abbrev pub Opened : ℕ → List ℕ → ℕ → ℕ → List ℕ → Result (Unit {0}) Refusal → List ℕ → Type 0
Opened letter key name number old (Ok u) new =
    (display_refusal letter key old ≡ None) × (new ≡ worked (keyed (cipher_for letter) key) name number old)
Opened letter key name number old (Err e) new = (display_refusal letter key old ≡ Some e) × (new ≡ old)

-- the pair that is known for the octic of a cipher
abbrev pub known_pair : Cipher → Pair
known_pair Aes = pair_11b
known_pair Sm4 = pair_1f5

-- an end over the display's ring is fitted to the letter's octic, given the key by way of a work area, and opens the bytes
pub record AtEnd (letter : ℕ) (key : List ℕ) (name number : ℕ) (old : List ℕ) : Type 0 where
  pub before : Model
  pub fitted : Model
  pub keyed : Model
  pub after : Model
  pub octic : ℕ
  pub answer : Answer
  pub work : List ℕ
  pub cleared : List ℕ
  pub out : List ℕ
  pub key_answer : Result (Unit {0}) Refusal
  pub open_answer : Result (Unit {0}) Refusal
  pub width : before.bits ≡ 4
  pub ring : before.times ≡ display_mul
  pub own : (c : Cipher) → cipher_for letter ≡ Some c → octic ≡ octic_of c
  pub room : 176 ≤ length work
  pub fits : Step before (fitting octic (Ok answer)) fitted
  pub keys : Step fitted (keying letter key work cleared key_answer) keyed
  pub opens : Step keyed (opening name number old out open_answer) after

-- the refusal of the key, which leaves the bytes, and else what the end's open answers and leaves
abbrev pub Gives : Result (Unit {0}) Refusal → Result (Unit {0}) Refusal → List ℕ
    → List ℕ → Result (Unit {0}) Refusal → List ℕ → Type 0
Gives (Err e) answer out old r new = (r ≡ Err e) × (new ≡ old)
Gives (Ok u) answer out old r new = (r ≡ answer) × (new ≡ out)

-- the end that is fitted so keeps the known pair
abbrev pub KeepsKnown : ℕ → Option Fit → Type 0
KeepsKnown letter f = (c : Cipher) → cipher_for letter ≡ Some c → f ≡ Some (record { octic = octic_of c; pair = known_pair c })

-- an end over the display's ring, made under a name with a first number, accepts the fit and the key, and its open gives r and `new`
pub record Exists (letter : ℕ) (key : List ℕ) (name number : ℕ) (old : List ℕ) (r : Result (Unit {0}) Refusal) (new : List ℕ)
    (own first : ℕ) : Type 0 where
  pub at_end : AtEnd letter key name number old
  pub fresh : at_end.before ≡ made 4 display_mul own first
  pub accepts : at_end.key_answer ≡ Ok tt
  pub answers : at_end.open_answer ≡ r
  pub leaves : at_end.out ≡ new

-- an end over the display's ring that is fitted and keyed so would answer r and leave `new`
pub record AsEnd (letter : ℕ) (key : List ℕ) (name number : ℕ) (old : List ℕ) (r : Result (Unit {0}) Refusal) (new : List ℕ)
    : Type 0 where
  -- every such end keeps the known pair
  pub keeps : (e : AtEnd letter key name number old) → KeepsKnown letter e.fitted.fitted
  -- every such end gives r and `new`
  pub gives : (e : AtEnd letter key name number old) → Gives e.key_answer e.open_answer e.out old r new
  -- there is one, whatever its name and its first number, where the letter is known and the key has 16 bytes
  pub exists : (c : Cipher) → cipher_for letter ≡ Some c → length key ≡ 16 → (own first : ℕ)
      → Exists letter key name number old r new own first

-- whatever answers and leaves what is opened so agrees with every such end
abbrev pub EachOpeningAgrees : Type 0
EachOpeningAgrees =
    (letter : ℕ) (key : List ℕ) (name number : ℕ) (old : List ℕ) (r : Result (Unit {0}) Refusal) (new : List ℕ)
    → Opened letter key name number old r new → AsEnd letter key name number old r new
