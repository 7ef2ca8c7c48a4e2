-- The log of two ends, in the order of the calls. Nothing stores it. Assumes nothing.
use Rattle.std.specs.Prelude.{◌≡◌, ℕ, ◌+◌, ◌/◌, ◌<◌, Bool, true, false, cond, ◌&&◌, ◌⊎◌, List, [], ◌∷◌, ◌++◌, map, length, is_some, Some, None, Option, ◌==◌}
use Rattle.std.specs.List.{range_with_len}
use Rattle.std.specs.Option.{unwrap_or}
use Rattle.ciphers.specs.Counter.{counter_block}
use Rattle.ends.specs.declared.ticket.Ticket.{Ticket}
use Rattle.ends.specs.Model.{Call, Held, Sector, does, Each}
use Rattle.watch.specs.declared.side.Side.{Side}
use Rattle.watch.specs.declared.side.Side.TheVariants.{First, Second}

infixl 50 ◌▷◌
-- an entry names the end and the call, with what that was handed and gave back
pub record Entry : Type 0 where
  pub side : Side
  pub call : Call

-- an entry from its two parts
abbrev pub entry : Side → Call → Entry
entry s c = record { side = s; call = c }

-- a log: no entry, or a log and one entry more
pub data Log : Type 0 where
  none : Log
  ◌▷◌ : Log → Entry → Log

-- e is an entry of the log, and P is the log before it
abbrev pub Came : Entry → Log → Log → Type 0
Came e P none = ⊥
Came e P (L ▷ f) = ((e ≡ f) × (P ≡ L)) ⊎ Came e P L

-- whether two calls are for one end
abbrev pub same_side : Side → Side → Bool
same_side First First = true
same_side First Second = false
same_side Second First = false
same_side Second Second = true

-- what an end holds: the letter and key of its last accepted key call, if it accepted no fit or wipe since
abbrev pub holds : Side → Log → Option Held
holds s none = None
holds s (L ▷ e) = cond (same_side s e.side) (unwrap_or (does e.call).loads (holds s L)) (holds s L)

-- Q goes on from P with no accepted fit at s
abbrev pub Since : Side → Log → Log → Type 0
Since s P none = P ≡ none
Since s P (Q ▷ e) = (P ≡ Q ▷ e) ⊎ (((same_side s e.side && is_some (does e.call).refits) ≡ false) × Since s P Q)

-- 1 if the tickets have one name and number, else 0
abbrev pub same_ticket : Ticket → Ticket → ℕ
same_ticket t u = cond (t.name == u.name && t.number == u.number) 1 0

-- 1 if there is a ticket and it has t's name and number, else 0
abbrev pub alike : Ticket → Option Ticket → ℕ
alike t None = 0
alike t (Some u) = same_ticket t u

-- how often a ticket of t's name and number was drawn at either end
abbrev pub drawn : Ticket → Log → ℕ
drawn t none = 0
drawn t (L ▷ e) = alike t (does e.call).draws + drawn t L

-- how often one was handed to a seal, accepted or not
abbrev pub taken : Ticket → Log → ℕ
taken t none = 0
taken t (L ▷ e) = alike t (does e.call).spends + taken t L

-- one of t's name and number, drawn at one of the two, is left
abbrev pub Unspent : Ticket → Log → Type 0
Unspent t L = taken t L < drawn t L

-- the ticket that a call is handed, if any, is unspent
abbrev pub Handed : Log → Call → Type 0
Handed L c = Each (does c).spends (λ t. Unspent t L)

-- the counter block of a ticket with an index
abbrev pub block : Ticket → ℕ → List ℕ
block t i = counter_block t.name t.number i

-- one for each 16 bytes begun
abbrev pub blocks : Ticket → List ℕ → List (List ℕ)
blocks t bs = map (block t) (range_with_len 0 ((length bs + 15) / 16))

-- the counter blocks of an accepted seal, if there is one
abbrev pub uses : Option Sector → List (List ℕ)
uses None = []
uses (Some x) = blocks x.owner x.bytes

-- the counter blocks of every accepted seal of the log, at both ends
abbrev pub used : Log → List (List ℕ)
used none = []
used (L ▷ e) = uses (does e.call).seals ++ used L

-- b is one of the blocks
abbrev pub Among : List ℕ → List (List ℕ) → Type 0
Among b [] = ⊥
Among b (x ∷ xs) = (b ≡ x) ⊎ Among b xs

-- no block stands twice in the list
abbrev pub NoneTwice : List (List ℕ) → Type 0
NoneTwice [] = Unit {0}
NoneTwice (x ∷ xs) = (Among x xs → ⊥) × NoneTwice xs
