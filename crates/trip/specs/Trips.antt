-- What a round trip answers, and what it leaves in the work area and the bytes. Assumes nothing.
use Rattle.std.specs.Prelude.{◌≡◌, ℕ, ◌⊎◌, List, length, replicate, None, Some, Ok, Err, Option, Result}
use Rattle.std.specs.Option.{option_or}
use Rattle.refusals.specs.declared.Refusal.{Refusal}
use Rattle.refusals.specs.declared.Refusal.TheVariants.{SectorLength}
use Rattle.octics.specs.Octics.{Accepted}
use Rattle.towers.specs.Fitted.{Sixteen, Refuses}
use Rattle.ciphers.specs.declared.keys.Cipher.{Cipher}
use Rattle.ciphers.specs.Counter.{sealed}
use Rattle.ends.specs.Choice.{load_refusal}
use Rattle.ends.specs.Letters.{cipher_for, encipher}
use Rattle.ends.specs.Model.{refuse, unsized}

-- a ring, by its width and its product
pub record Over : Type 0 where
  pub bits : ℕ
  pub times : ℕ → ℕ → ℕ

-- a ring from its two parts
abbrev pub over : ℕ → (ℕ → ℕ → ℕ) → Over
over bits times = record { bits = bits; times = times }

-- the first end's fit is refused, or it is accepted and the second end's is refused
abbrev pub Unfitted : Over → Over → ℕ → Refusal → Type 0
Unfitted x y octic e = Refuses x.bits x.times octic e ⊎ (Sixteen x.bits x.times × Accepted octic × Refuses y.bits y.times octic e)

-- both fits are accepted
pub record BothFitted (x y : Over) (octic : ℕ) : Type 0 where
  pub first : Sixteen x.bits x.times
  pub second : Sixteen y.bits y.times
  pub accepted : Accepted octic

-- what an end with a key refuses of a sector under its own ticket
abbrev pub sector_refusal : List ℕ → Option Refusal
sector_refusal bytes = refuse (unsized bytes) SectorLength None

-- what is refused at ends that are fitted to the octic: the first end's key, or else the second's, or else the sector
abbrev pub refusal_of : ℕ → ℕ → List ℕ → List ℕ → List ℕ → List ℕ → Option Refusal
refusal_of octic letter one two work bytes =
    option_or (load_refusal octic letter one work) (option_or (load_refusal octic letter two work) (sector_refusal bytes))

-- the sector under a key, with the name 1 and the number 0, sealed or opened alike; where the letter names no cipher, as it is
abbrev pub under : Option Cipher → List ℕ → List ℕ → List ℕ
under None key bytes = bytes
under (Some c) key bytes = sealed (encipher c key) 1 0 bytes

-- accepted just if nothing is refused, and then the answer is the sector under the first key, and the bytes are the answer under the
-- second; else the first refusal, and the bytes are as they were; the work area is as it was where a fit is refused, and else zero
abbrev pub Trips : Over → Over → ℕ → ℕ → List ℕ → List ℕ → List ℕ → List ℕ → Result (List ℕ) Refusal → List ℕ → List ℕ → Type 0
Trips x y octic letter one two work bytes (Ok s) left after =
    (s ≡ under (cipher_for letter) one bytes)
    × (after ≡ under (cipher_for letter) two s)
    × BothFitted x y octic
    × (refusal_of octic letter one two work bytes ≡ None)
    × (left ≡ replicate (length work) 0)
Trips x y octic letter one two work bytes (Err e) left after =
    (after ≡ bytes)
    × ((Unfitted x y octic e × (left ≡ work))
    ⊎ (BothFitted x y octic × (refusal_of octic letter one two work bytes ≡ Some e) × (left ≡ replicate (length work) 0)))
