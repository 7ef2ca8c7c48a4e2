-- The boxes' sums of bits by turned bytes. Assumes nothing.
use Rattle.std.proofs.Common.{◌≡◌, ℕ, ◌<◌}
use Rattle.boxes.specs.Boxes.{linear_a, linear_s}
use Rattle.boxes.specs.Turns.{turned}
use Rattle.boxes.proofs.Bytes.{same_on_bytes}

pub turned_a : (b : ℕ) → b < 256 → turned 4 5 6 7 b ≡ linear_a b
unfolding linear_a
turned_a b h = same_on_bytes (turned 4 5 6 7) linear_a tt b h

pub turned_s : (b : ℕ) → b < 256 → turned 1 2 5 7 b ≡ linear_s b
unfolding linear_s
turned_s b h = same_on_bytes (turned 1 2 5 7) linear_s tt b h
