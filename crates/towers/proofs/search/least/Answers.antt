use Rattle.std.proofs.Common.{Some, None, Option, ◌∙◌, refl, subst}
use Rattle.std.specs.Option.{IsSome}
use Rattle.rings.specs.Poly.{mul_mod}
use Rattle.towers.specs.Search.{Least}
use Rattle.towers.proofs.Kept.{kept, some_kept}
use Rattle.towers.proofs.search.least.Goals as goal

is_some_by : {A : Type 0} (P : Option A → Type 0) (o : Option A) → P o → (P None → ⊥) → IsSome o
is_some_by P None p none = absurd (none p)
is_some_by P (Some x) p none = refl

pub unwrap-requires : goal.unwrap-requires
unwrap-requires g c =
    let s = c.new-2.result in
    is_some_by (Least s.powers s.coordinates (mul_mod 8 s.octic.modulus) 65536) c.least.result c.least.ensures
    (some_kept g.R.Ring.WIDTH (g.R.Ring.mul c.args.ring.now) (g.met.R.Ring.laws c.args.ring.now) c.requires.field
    c.args.octic c.requires.accepted s.powers s.coordinates c.new-2.ensures.based
    s.octic.modulus (c.new-2.ensures.octic ∙ c.new.ensures))

pub returns : goal.returns
returns g c =
    let s = c.new-2.result in
    kept g.R.Ring.WIDTH (g.R.Ring.mul c.args.ring.now) (g.met.R.Ring.laws c.args.ring.now) c.requires.field
    c.args.octic c.requires.accepted s.powers s.coordinates c.new-2.ensures.based
    s.octic.modulus (c.new-2.ensures.octic ∙ c.new.ensures) c.unwrap.result
    (subst (Least s.powers s.coordinates (mul_mod 8 s.octic.modulus) 65536) c.unwrap.ensures c.least.ensures)
