use Rattle.std.proofs.Common.{is_some, sym, ap, ◌∙◌}
use Rattle.std.proofs.lemmas.Bool.Decides.{not_from_Decides}
use Rattle.sheets.proofs.Decoding.{sector_none, sector_digits}
use Rattle.sheets.proofs.digits.has_sector_digits.Goals as goal

pub returns-then-not-sector_length : goal.returns-then-not-sector_length
returns-then-not-sector_length c =
    sym (ap is_some (sector_none c.args.part.now (not_from_Decides c.sector_length.result c.sector_length.ensures c.if-not-sector_length.true)))

pub returns : goal.returns
returns c = c.all_digits.ensures ∙ sector_digits c.args.part.now (c.sector_length.ensures.0 c.if-not-sector_length.false)
