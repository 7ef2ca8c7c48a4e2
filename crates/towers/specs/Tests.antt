-- Tests that say whether a fact holds. Assumes nothing.
use Rattle.std.specs.Prelude.{Bool, true, false}

-- the test passes if P holds, and fails if it does not
abbrev pub Whether : Type 0 → Bool → Type 0
Whether P true = P
Whether P false = P → ⊥
