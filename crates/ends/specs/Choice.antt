-- The box that a letter names on a fitted end, and the load of a key. Assumes nothing.
use Rattle.std.specs.Prelude.{◌≡◌, ℕ, true, false, not, List, length, is_some, Some, None, Ok, Err, Option, Result, ◌==◌, nat_lt}
use Rattle.refusals.specs.declared.Refusal.{Refusal}
use Rattle.refusals.specs.declared.Refusal.TheVariants.{UnknownLetter, OtherOctic, KeyLength, SmallWork, SectorLength}
use Rattle.ciphers.specs.Counter.{sealed}
use Rattle.ends.specs.declared.boxed.Boxed.{Boxed}
use Rattle.ends.specs.declared.fitted.Loaded.{Loaded}
use Rattle.ends.specs.Letters.{cipher_for, suits}
use Rattle.ends.specs.Model.{Blocks, refuse, unsized, block_cipher, keyed}

-- an unknown letter or another octic, and else what comes after
abbrev pub choice_refusal : ℕ → ℕ → Option Refusal → Option Refusal
choice_refusal octic letter rest =
    refuse (not (is_some (cipher_for letter))) UnknownLetter (refuse (not (suits octic (cipher_for letter))) OtherOctic rest)

-- the box of the letter's cipher, whose octic is the fitted one, or the refusal
abbrev pub Chosen : ℕ → ℕ → Result Boxed Refusal → Type 0
Chosen octic letter (Ok b) = (cipher_for letter ≡ Some b.cipher) × (suits octic (cipher_for letter) ≡ true)
Chosen octic letter (Err e) = choice_refusal octic letter None ≡ Some e

-- an unknown letter, another octic, a key or a work area of the wrong length
abbrev pub load_refusal : ℕ → ℕ → List ℕ → List ℕ → Option Refusal
load_refusal octic letter key work =
    choice_refusal octic letter (refuse (not (length key == 16)) KeyLength (refuse (nat_lt (length work) 176) SmallWork None))

-- a key that is loaded is the letter's cipher under that key
abbrev pub Loads : ℕ → ℕ → List ℕ → List ℕ → Result Loaded Refusal → Type 0
Loads octic letter key work (Ok l) =
    (load_refusal octic letter key work ≡ None) × (Some (block_cipher l) ≡ keyed (cipher_for letter) key)
Loads octic letter key work (Err e) = load_refusal octic letter key work ≡ Some e

-- the counter mode in a sector, or the refusal of its length, which leaves the bytes as they were
abbrev pub Works : Blocks → ℕ → ℕ → List ℕ → Result (Unit {0}) Refusal → List ℕ → Type 0
Works cipher name number old (Ok u) new = (unsized old ≡ false) × (new ≡ sealed cipher name number old)
Works cipher name number old (Err e) new = (unsized old ≡ true) × (e ≡ SectorLength) × (new ≡ old)
