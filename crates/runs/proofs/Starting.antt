-- A sheet from its first entry, at two ends just made. Assumes nothing.
use Rattle.std.proofs.Common.{◌≡◌, ◌^◌, ◌<◌, true, List, [], ◌++◌, None, sym, refl, ap, ◌∙◌, subst, arith, lit<}
use Rattle.watch.specs.declared.side.Side.{Side}
use Rattle.watch.specs.declared.side.Side.TheVariants.{First, Second}
use Rattle.watch.specs.Log.{none, same_side}
use Rattle.watch.specs.Runs.{World, Begins}
use Rattle.watch.specs.Shows.{EveryLogShows}
use Rattle.sheets.specs.Contents.{Item, Contents, items}
use Rattle.runs.specs.declared.line.Line.{Line}
use Rattle.runs.specs.Printed.{Printed, start, Ran, Extended}
use Rattle.runs.proofs.Extending.{extended_join}

-- what holds of both ends
each_side : (P : Side → Type 0) → P First → P Second → (s : Side) → P s
each_side P f d First = f
each_side P f d Second = d

apart : (s t : Side) → (start s).name ≡ (start t).name → same_side s t ≡ true
apart First First e = refl
apart First Second e = absurd (omega arith)
apart Second First e = absurd (omega arith)
apart Second Second e = refl

begins : Begins start
begins = record {
  no_fit = each_side (λ s. (start s).fitted ≡ None) refl refl;
  no_key = each_side (λ s. (start s).loaded ≡ None) refl refl;
  short_name = each_side (λ s. (start s).name < 2 ^ 16) (lit< tt) (lit< tt);
  short_next = each_side (λ s. (start s).next < 2 ^ 64) (lit< tt) (lit< tt);
  apart = apart;
}

-- two ends as they are just made
made_so : (w : World) → w First ≡ start First → w Second ≡ start Second → w ≡ start
made_so w f d i s = each_side (λ s. w s ≡ start s) f d s i

ran_items : (c : Contents) {w v : World} {old new : List Line} → Extended w (items c) old new v → old ≡ [] → w First ≡ start First → w Second ≡ start Second → EveryLogShows → Ran c new
ran_items c {w} {v} {old} {new} ex empty f d every =
    let p = ex.on start none begins (made_so w f d) in
    let lines : ex.lines ≡ new = sym (ex.joined ∙ ap (λ (ls : List Line). ls ++ ex.lines) empty) in
    record {
      log = p.0;
      ends = v;
      run = p.1;
      printed = subst (λ (ls : List Line). Printed none (items c) ls p.0) lines p.2;
      shows = every v p.0 (record { start = start; begins = begins; run = p.1 });
    }

-- the three sections, one after another
pub ran : (c : Contents) {w v u z : World} {old one two new : List Line} {fs ks ss : List Item} → Extended w fs old one v → fs ≡ c.fits → Extended v ks one two u → ks ≡ c.keys → Extended u ss two new z → ss ≡ c.sectors
    → old ≡ [] → w First ≡ start First → w Second ≡ start Second → EveryLogShows → Ran c new
ran c {w} {z = z} {old = old} {new = new} fits f keys k sectors s =
    ran_items c (subst (λ (xs : List Item). Extended w xs old new z) (λ i. f i ++ (k i ++ s i)) (extended_join fits (extended_join keys sectors)))
