use Rattle.std.proofs.Common.{◌≡◌, ℕ, zero, suc, ◌<◌, sym, refl, ◌∙◌, arith}
use Rattle.rings.specs.Laws.{Inverse}
use Rattle.rings.specs.Poly.{mul_mod}
use Rattle.boxes.specs.Boxes.{inverse_mod}
use Rattle.boxes.proofs.Inverses.{inverse_is, inverse_zero}
use Rattle.towers.specs.Trails.{Arrives}
use Rattle.ends.specs.Table.{inverses_mod}
use Rattle.ends.proofs.Lists.{tabled, each_of}
use Rattle.ends.proofs.walk.inverses_by.Goals as goal

-- 0 has no inverse, and any other byte the one that is given
by_cases : (o x y : ℕ) → (x ≡ 0 → y ≡ 0) → (0 < x → Inverse 8 1 (mul_mod 8 o) x y) → y ≡ inverse_mod o x
by_cases o zero y none some = none refl ∙ sym (inverse_zero o)
by_cases o (suc x) y none some = sym (inverse_is o (suc x) y (some (omega arith)))

pub invariant_of-result : goal.invariant_of-result
unfolding inverses_mod
invariant_of-result g c =
    let o = c.args.octic in
    let each =
    each_of _ _ (λ x y. y ≡ inverse_mod o x)
    (λ x y q k.
    let a : Arrives g.R.Ring.WIDTH (g.R.Ring.mul c.args.ring.now) c.args.pair.now x y = k.met.1 in
    let end = a o c.requires.field c.requires.accepted c.requires.kept in
    ((λ i. (k.met.0.0 i, k.met.0.1 i)), by_cases o x y end.0 end.1))
    c.from_fn-table.result 256 c.from_fn-table.ensures.items in
    record { right = sym (tabled (inverse_mod o) c.from_fn-table.result 256 c.from_fn-table.ensures.items.long (λ i h. each i h 0)) }
