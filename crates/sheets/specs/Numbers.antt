-- The number of each refusal of a sheet. Assumes nothing.
use Rattle.std.specs.Prelude.{ℕ}
use Rattle.sheets.specs.declared.faults.SheetRefusal.{SheetRefusal}
use Rattle.sheets.specs.declared.faults.SheetRefusal.TheVariants.{TooLong, BadWord, WordAfter}

abbrev pub number_of : SheetRefusal → ℕ
-- over 16,384 bytes
number_of TooLong = 13
-- a word is missing or of the wrong form, or a count is above 64
number_of BadWord = 14
-- a word stands after the last section
number_of WordAfter = 15
