-- A counter block tells its name, number and index. Assumes nothing.
use Rattle.std.proofs.Common.{◌≡◌, ℕ, ◌^◌, ◌<◌}
use Rattle.ciphers.proofs.CounterBlocks.{counter_block_tells}
use Rattle.ends.specs.declared.ticket.Ticket.{Ticket}
use Rattle.watch.specs.Log.{block}

pub record Same (t u : Ticket) (i j : ℕ) : Type 0 where
  pub name : t.name ≡ u.name
  pub num : t.number ≡ u.number
  pub index : i ≡ j

pub record Short (t : Ticket) (i : ℕ) : Type 0 where
  pub name : t.name < 2 ^ 16
  pub num : t.number < 2 ^ 64
  pub index : i < 2 ^ 16

pub block_same : (t u : Ticket) (i j : ℕ) → Short t i → Short u j → block t i ≡ block u j → Same t u i j
block_same t u i j p q e =
    let same = counter_block_tells u.name u.number j q.name q.num q.index t.name t.number i p.name p.num p.index e in
    record { name = same.0; num = same.1; index = same.2 }
