-- What a fit answers, the refusals tried in rising order. Assumes nothing.
use Rattle.std.specs.Prelude.{◌≡◌, ℕ, ◌⊎◌, Ok, Err, Result}
use Rattle.rings.specs.Laws.{Field}
use Rattle.refusals.specs.declared.Refusal.{Refusal}
use Rattle.refusals.specs.declared.Refusal.TheVariants.{NotField, NotOctic, Divisible}
use Rattle.octics.specs.Octics.{Accepted, Outside, Divided}
use Rattle.towers.specs.declared.pair.Pair.{Pair}
use Rattle.towers.specs.Keeps.{Keeps}

-- a ring of width w with product `mul` is a field of sixteen codes
abbrev pub Sixteen : ℕ → (ℕ → ℕ → ℕ) → Type 0
Sixteen w mul = (w ≡ 4) × Field w 1 mul

-- on what a fit is refused, and by which refusal
abbrev pub Refuses : ℕ → (ℕ → ℕ → ℕ) → ℕ → Refusal → Type 0
Refuses w mul o e =
    ((e ≡ NotField) × (Sixteen w mul → ⊥))
    ⊎ (((e ≡ NotOctic) × Sixteen w mul × Outside o)
    ⊎ ((e ≡ Divisible) × Sixteen w mul × Divided o))

-- the fit of a ring of width w with product `mul` to the octic o: the pair that is kept where the ring is a field of sixteen
-- codes and the octic is accepted, and else the refusal of what is amiss
abbrev pub Fitted : ℕ → (ℕ → ℕ → ℕ) → ℕ → Result Pair Refusal → Type 0
Fitted w mul o (Ok p) = Sixteen w mul × Accepted o × Keeps mul o p
Fitted w mul o (Err e) = Refuses w mul o e
