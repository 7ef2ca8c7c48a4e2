use Rattle.std.proofs.Common.{List, ℕ, [], ◌∷◌, ◌++◌, ◌∙◌, ap₂, arith}
use borrow.Rule.Slice.PartMut.{put_mid}
use Rattle.ends.proofs.Lists.{joined}
use Rattle.ends.proofs.records.ToldFromPair.from.Goals as goal

pub returns : goal.returns
returns c =
    let p = c.args.pair in
    let e =
    ap₂ (λ (x y : List ℕ). put_mid 8 8 (x ++ 0 ∷ 0 ∷ 0 ∷ 0 ∷ 0 ∷ 0 ∷ 0 ∷ 0 ∷ []) y) c.copy_from_slice.ensures.after c.copy_from_slice-2.ensures.after
    ∙ joined p.columns p.reverse (omega arith) (omega arith) in
    let a = c.from-c.ensures in
    λ i. record { c = (a i).c; ones = (a i).ones; columns = e i }
