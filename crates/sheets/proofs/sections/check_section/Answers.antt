use Rattle.std.proofs.Common.{◌≡◌, ◌-◌, ◌∙◌, ap, arith}
use Rattle.std.proofs.lemmas.Result.{err_from_is_err_and}
use Rattle.sheets.specs.Checks.{bare}
use Rattle.sheets.specs.Readings.{times}
use Rattle.sheets.specs.Steps.{ahead}
use Rattle.sheets.proofs.Checking.{checked_more, checked_bad, checked_all, section_checked}
use Rattle.sheets.proofs.sections.check_section.Goals as goal

pub loop-init : goal.loop-init
loop-init g c = let e : c.in_ok-count.count ≡ c.in_ok-count.count - 0 = omega arith in ap (λ n. bare (times n (g.E.Entry.form c.args.end) (ahead c.check_count.new.words))) e

pub loop-preserved : goal.loop-preserved
loop-preserved g c = c.loop.invariant ∙ checked_more (g.E.Entry.form c.args.end) c.in_ok-count.count c.loop.counter (ahead c.loop.words) _ (omega arith) c.in_ok-check.ensures

pub returns-in_err-check : goal.returns-in_err-check
returns-in_err-check g c =
    let p = err_from_is_err_and c.from_residual-in_err-check.result c.from_residual-in_err-check.ensures.1 in
    let h = c.in_err-check.ensures in
    rw (p.1, p.2) (
      h.0,
      section_checked g.E.Entry.form c.args.end c.in_ok-count.count (ahead c.args.words.now) (ahead c.check_count.new.words) _ c.in_ok-count.ensures
          (c.loop.invariant ∙ checked_bad (g.E.Entry.form c.args.end) c.in_ok-count.count c.loop.counter (ahead c.loop.words) _ (omega arith) h.1),
    )

pub returns : goal.returns
returns g c =
    section_checked g.E.Entry.form c.args.end c.in_ok-count.count (ahead c.args.words.now) (ahead c.check_count.new.words) _ c.in_ok-count.ensures
    (c.loop.invariant ∙ checked_all (g.E.Entry.form c.args.end) c.in_ok-count.count c.loop.counter (ahead c.loop.words) (omega arith))
