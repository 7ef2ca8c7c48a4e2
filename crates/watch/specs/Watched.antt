-- The two ends of a watch. Assumes nothing.
use Rattle.std.specs.Prelude.{◌≡◌, ℕ, ◌≢◌}
use Rattle.ends.specs.Model.{Model, model, made}
use Rattle.watch.specs.declared.side.Side.TheVariants.{First, Second}
use Rattle.watch.specs.declared.two.Watch.{Watch}
use Rattle.watch.specs.Log.{Entry, none}
use Rattle.watch.specs.Runs.{World, Goes, Logged}
use Rattle.watch.specs.Shows.{Onward}

-- a type of rings, by the width and the product
pub record Kind (R : Type 0) : Type 0 where
  pub bits : ℕ
  pub mul : R → ℕ → ℕ → ℕ

-- a kind from its two parts
abbrev pub kind : {R : Type 0} → ℕ → (R → ℕ → ℕ → ℕ) → Kind R
kind bits mul = record { bits = bits; mul = mul }

-- an end just made over a ring of a kind, under a name and with a first number
abbrev pub fresh : {R : Type 0} → Kind R → R → ℕ → ℕ → Model
fresh k ring name first = made k.bits (k.mul ring) name first

-- the two ends, as their models
abbrev pub world : {X Y : Type 0} → Kind X → Kind Y → Watch X Y → World
world x y w First = model x.bits x.mul w.one
world x y w Second = model y.bits y.mul w.two

-- a watch just made: its ends are as asked for, and if their names differ then a log without entries is theirs
pub record Starts {X Y : Type 0} (x : Kind X) (y : Kind Y) (one two : Model) (w : Watch X Y) : Type 0 where
  pub first : world x y w First ≡ one
  pub second : world x y w Second ≡ two
  pub logged : (one.name ≢ two.name) → Logged (world x y w) none

-- a watch lets a call through: the end that it is for steps, and the other stays
abbrev pub Passes : {X Y : Type 0} → Kind X → Kind Y → Watch X Y → Entry → Watch X Y → Type 0
Passes x y before e after = Goes (world x y before) e (world x y after)

-- whatever log its two ends had, the call is one entry more, and the longer log shows the promise
abbrev pub Extends : {X Y : Type 0} → Kind X → Kind Y → Watch X Y → Entry → Watch X Y → Type 0
Extends x y before e after = Onward (world x y before) e (world x y after)
