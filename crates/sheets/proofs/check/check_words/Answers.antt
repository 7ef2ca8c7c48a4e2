use Rattle.std.proofs.Common.{sym, ◌∙◌}
use Rattle.std.proofs.lemmas.Result.{err_from_is_err_and}
use Rattle.sheets.specs.Readings.{got}
use Rattle.sheets.specs.Steps.{ahead}
use Rattle.sheets.proofs.Checking.{words_checked, bad_closed}
use Rattle.sheets.proofs.check.check_words.Goals as goal

pub returns-in_err-check_sections : goal.returns-in_err-check_sections
returns-in_err-check_sections c =
    let p = err_from_is_err_and c.from_residual.result c.from_residual.ensures.1 in
    let h = c.in_err-check_sections.ensures in
    rw (p.1, p.2) (bad_closed _ h.0 ∙ sym (words_checked c.args.sheet.now c.over-words.result.text.now c.over-words.result.at _ c.over-words.ensures h.1))

pub returns : goal.returns
returns c =
    c.nothing_after.ensures
    ∙ sym (words_checked c.args.sheet.now c.over-words.result.text.now c.over-words.result.at (got tt (ahead c.check_sections.new.words)) c.over-words.ensures c.in_ok-check_sections.ensures)
