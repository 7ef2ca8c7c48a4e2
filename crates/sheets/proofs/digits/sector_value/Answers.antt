use Rattle.std.proofs.lemmas.Bool.Decides.{not_from_Decides}
use Rattle.sheets.proofs.Decoding.{sector_none}
use Rattle.sheets.proofs.digits.sector_value.Goals as goal

pub returns-then-not-sector_length : goal.returns-then-not-sector_length
returns-then-not-sector_length c = sector_none c.args.part.now (not_from_Decides c.sector_length.result c.sector_length.ensures c.if-not-sector_length.true)
