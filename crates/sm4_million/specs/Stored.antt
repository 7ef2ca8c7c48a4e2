-- Box S as a list of bytes, and a map that is applied again and again. Assumes nothing.
use Rattle.std.specs.Prelude.{ℕ, zero, suc, List, map}
use Rattle.std.specs.List.{range_with_len}
use Rattle.boxes.specs.Boxes.{box_s}

-- the boxes of the bytes 0 to 255
unfoldable pub stored_s : List ℕ
stored_s = map box_s (range_with_len 0 256)

-- a map, applied n times
unfoldable pub iterated : (List ℕ → List ℕ) → ℕ → List ℕ → List ℕ
iterated f zero x = x
iterated f (suc n) x = f (iterated f n x)
