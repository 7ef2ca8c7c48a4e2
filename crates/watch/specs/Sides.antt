-- The two ends. Assumes nothing.
use Rattle.watch.specs.declared.side.Side.{Side}
use Rattle.watch.specs.declared.side.Side.TheVariants.{First, Second}

-- the end across the link
abbrev pub other : Side → Side
other First = Second
other Second = First
