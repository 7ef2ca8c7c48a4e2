-- A box by the trail of a pair. Assumes nothing.
use Rattle.std.specs.Prelude.{◌≡◌, ℕ}
use Rattle.rings.specs.Poly.{mul_mod}
use Rattle.towers.specs.Keeps.{Tells}
use Rattle.towers.specs.Trails.{Trails}
use Rattle.towers.specs.declared.pair.Pair.{Pair}
use Rattle.towers.specs.declared.trail.Trail.{Trail}

-- r is a byte's box by the trail of the pair p: `before` is applied to the byte x, and `after` to the last byte of the trail;
-- where p tells a lawful pair of the ring and the octic, r is what `box` makes of x
pub record Boxed (octic : ℕ) (before after box : ℕ → ℕ) (w : ℕ) (mul : ℕ → ℕ → ℕ) (p : Pair) (x r : ℕ) : Type 0 where
  pub trail : Trail
  pub walks : Trails w mul p (before x) trail
  pub value : r ≡ after trail.byte
  pub lawful : w ≡ 4 → Tells mul (mul_mod 8 octic) p → r ≡ box x
