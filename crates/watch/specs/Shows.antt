-- What every log of two ends shows. Assumes nothing.
use Rattle.std.specs.Prelude.{◌≡◌, ℕ, ◌≤◌, List, Ok, Result}
use Rattle.refusals.specs.declared.Refusal.{Refusal}
use Rattle.towers.specs.declared.pair.Pair.{Pair}
use Rattle.rings.specs.Poly.{mul_mod}
use Rattle.towers.specs.Keeps.{Keeps}
use Rattle.towers.specs.Lawful.{Lawful, Reverse}
use Rattle.towers.specs.Matrices.{columns as columns_of, both_ones}
use Rattle.ends.specs.declared.records.Answer.{Answer}
use Rattle.ends.specs.declared.records.Told.{Told}
use Rattle.ends.specs.declared.ticket.Ticket.{Ticket}
use Rattle.ends.specs.Model.Call.{fitting, sealing, opening, telling}
use Rattle.ends.specs.Model.{answer_of, told_of}
use Rattle.watch.specs.declared.side.Side.{Side}
use Rattle.watch.specs.Log.{Entry, entry, Log, ◌▷◌, Came, Since, holds, drawn, Handed, used, NoneTwice}
use Rattle.watch.specs.Runs.{World, Goes, Logged}

-- one lawful pair of the ring and the octic: the fit is defined to keep it and answered its c and ones, no lawful pair has
-- fewer ones, and every accepted tell up to the end's next accepted fit names it by its c, the columns of its map and those
-- of the reverse map, with its ones
pub record Names (times : ℕ → ℕ → ℕ) (s : Side) (octic : ℕ) (a : Answer) (P L : Log) : Type 0 where
  pub pair : Pair
  pub kept : Keeps times octic pair
  pub lawful : Lawful times (mul_mod 8 octic) pair.constant kept.tells.map
  pub reversed : Reverse kept.tells.map kept.tells.back
  pub columns : pair.columns ≡ columns_of kept.tells.map
  pub reverse : pair.reverse ≡ columns_of kept.tells.back
  pub ones : pair.ones ≡ both_ones kept.tells.map kept.tells.back
  pub answered : a ≡ answer_of pair
  pub fewest : (d : ℕ) (m n : ℕ → ℕ) → Lawful times (mul_mod 8 octic) d m → Reverse m n → pair.ones ≤ both_ones m n
  pub told : (before after : Told) (Q : Log) → Came (entry s (telling before after (Ok tt))) Q L →
      Since s (P ▷ entry s (fitting octic (Ok a))) Q → after ≡ told_of pair

-- the promise, over a log of the two ends w
pub record Shows (w : World) (L : Log) : Type 0 where
  -- one pair from fit to fit: each accepted fit has such a pair
  pub fits : (s : Side) (octic : ℕ) (a : Answer) (P : Log) →
      Came (entry s (fitting octic (Ok a))) P L → Names (w s).times s octic a P L
  -- and each accepted tell comes after an accepted fit
  pub tells : (s : Side) (before after : Told) (Q : Log) → Came (entry s (telling before after (Ok tt))) Q L →
      (octic : ℕ) × (a : Answer) × (P : Log) × Since s (P ▷ entry s (fitting octic (Ok a))) Q
  -- what was sealed opens: an open of an accepted seal's bytes, later and at either end, by that ticket's name and number, is
  -- accepted and gives the first bytes, if the end then holds what the sealing end held
  pub opens : (s s' : Side) (t : Ticket) (first sealed out : List ℕ) (r : Result (Unit {0}) Refusal) (P Q : Log) →
      Came (entry s (sealing t first sealed (Ok tt))) P Q → Came (entry s' (opening t.name t.number sealed out r)) Q L →
      holds s' Q ≡ holds s P → (r ≡ Ok tt) × (out ≡ first)
  -- no number twice: no name and number is drawn twice
  pub numbers : (t : Ticket) → drawn t L ≤ 1
  -- no counter block twice: none is used twice by accepted seals
  pub once : NoneTwice (used L)

-- a call takes each log of the two ends to a longer one, and that shows all this
pub record Onward (w : World) (e : Entry) (v : World) : Type 0 where
  pub logged : (L : Log) → Logged w L → Handed L e.call → Logged v (L ▷ e)
  pub shown : (L : Log) → Logged w L → Handed L e.call → Shows v (L ▷ e)

-- a call at one of two ends, whichever it is, goes on so
abbrev pub EachCallShows : Type 0
EachCallShows = (w v : World) (e : Entry) → Goes w e v → Onward w e v

-- every log of two ends of different names
abbrev pub EveryLogShows : Type 0
EveryLogShows = (w : World) (L : Log) → Logged w L → Shows w L
