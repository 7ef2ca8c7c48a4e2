use Rattle.std.proofs.lemmas.Result.{err_from_is_err_and}
use Rattle.sheets.specs.Steps.{left}
use Rattle.sheets.proofs.Whole.{bad_sheet, more_sheet, whole_sheet}
use Rattle.sheets.proofs.read.read_words.Goals as goal

pub returns-in_err-entries : goal.returns-in_err-entries
returns-in_err-entries c =
    let p = err_from_is_err_and c.from_residual.result c.from_residual.ensures.1 in
    rw (p.1, p.2) (bad_sheet _ c.requires _ _ (left c.read_sections.new.reader) _ c.start-reader.ensures.end c.start-reader.ensures.words c.in_err-entries.ensures.read)

pub returns-in_err-nothing_after : goal.returns-in_err-nothing_after
returns-in_err-nothing_after c =
    let p = err_from_is_err_and c.from_residual-in_err-nothing_after.result c.from_residual-in_err-nothing_after.ensures.1 in
    rw (p.1, p.2)
    (more_sheet _ _ _ (left c.read_sections.new.reader) _ _ c.start-reader.ensures.end c.start-reader.ensures.words c.in_ok-entries.ensures.read c.in_err-nothing_after.ensures)

pub returns : goal.returns
returns c =
    whole_sheet _ _ _ (left c.read_sections.new.reader) _ c.start-reader.ensures.end c.start-reader.ensures.words c.in_ok-entries.ensures.read c.in_ok-nothing_after.ensures
