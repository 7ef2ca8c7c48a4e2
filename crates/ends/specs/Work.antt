-- A work area that is all zero. Assumes nothing.
use Rattle.std.specs.Prelude.{◌≡◌, ℕ, List, length, replicate}

-- every byte is 0, whatever the length
abbrev pub Zero : List ℕ → Type 0
Zero bs = bs ≡ replicate (length bs) 0
