-- The box by a trail is the box by inversion. Assumes nothing.
use Rattle.std.proofs.Common.{◌≡◌, ℕ, ◌/◌, ◌^◌, sym, ap, ◌∙◌, inl, inr}
use Rattle.rings.specs.Poly.{mul_mod}
use Rattle.boxes.specs.Boxes.{inverse_mod}
use Rattle.boxes.proofs.Inverses.{inverse_is, inverse_none}
use Rattle.towers.specs.Boxed.{Boxed}
use Rattle.towers.specs.Trails.{OrZero, Trails, Through}
use Rattle.towers.specs.declared.pair.Pair.{Pair}
use Rattle.towers.specs.declared.trail.Trail.{Trail}

inverse_or_zero : (m a b : ℕ) → OrZero 8 (mul_mod 8 m) a b → inverse_mod m a ≡ b
inverse_or_zero m a b (inl i) = inverse_is m a b i
inverse_or_zero m a b (inr v) = inverse_none m a v.0 ∙ sym v.1

pub boxing : (octic : ℕ) (before after : ℕ → ℕ) (w : ℕ) (mul : ℕ → ℕ → ℕ) (p : Pair) (x r : ℕ) (t : Trail) → octic / 2 ^ 8 ≡ 1
    → Trails w mul p (before x) t → Through w mul p (before x) t.byte → r ≡ after t.byte
    → Boxed octic before after (λ y. after (inverse_mod octic (before y))) w mul p x r
boxing octic before after w mul p x r t degree walks through e = record {
  trail = t;
  walks = walks;
  value = e;
  lawful = λ four T. e ∙ ap after (sym (inverse_or_zero octic (before x) t.byte (through octic degree four T)));
}
