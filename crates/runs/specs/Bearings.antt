-- Bearings of the sweep. Assumes nothing.
use Rattle.std.specs.Prelude.{ℕ, ◌+◌, ◌*◌, ◌/◌, ◌%◌}

-- the bearing of a number, in tenths of a degree: with k as the number modulo 4096, 225 k / 256 to the nearest, a half going up
abbrev pub bearing_of : ℕ → ℕ
bearing_of n = (225 * (n % 4096) + 128) / 256
