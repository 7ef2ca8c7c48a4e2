use Rattle.std.proofs.Common.{ℕ, map, ap, ◌∙◌}
use Rattle.ends.specs.Model.{made}
use Rattle.sheets.specs.Contents.{contents, fit_of, key_of, sector_of}
use Rattle.runs.proofs.Starting.{ran}
use Rattle.runs.proofs.run.perform_sheet.Goals as goal

pub returns : goal.returns
returns c =
    ran (contents c.args.sheet.now)
    c.in_ok-perform_all.ensures (ap (map fit_of) c.deref.ensures.value)
    c.in_ok-perform_all-2.ensures (ap (map key_of) c.deref-2.ensures.value)
    c.in_ok-perform_all-3.ensures (ap (map sector_of) c.deref-3.ensures.value)
    c.new-lines.ensures.items
    c.new-ends.ensures.starts.first
    (c.new-ends.ensures.starts.second ∙ ap (λ (f : ℕ → ℕ → ℕ). made 4 f 2 0) c.display_ring.ensures)
    c.new-ends.ensures.promise
