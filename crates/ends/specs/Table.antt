-- The inverses of all bytes in the ring of an octic, in a list. Assumes nothing.
use Rattle.std.specs.Prelude.{ℕ, List, map}
use Rattle.std.specs.List.{range_with_len}
use Rattle.boxes.specs.Boxes.{inverse_mod}

-- entry x is the inverse of x modulo the octic, and 0 where there is none
unfoldable pub inverses_mod : ℕ → List ℕ
inverses_mod octic = map (inverse_mod octic) (range_with_len 0 256)
