-- What the check of a sheet promises. Assumes nothing.
use Rattle.std.specs.Prelude.{◌≡◌, Ok, Err, List, Result}
use Rattle.sheets.specs.declared.faults.Fault.{Fault}
use Rattle.sheets.specs.declared.faults.SheetRefusal.TheVariants.{BadWord}
use Rattle.sheets.specs.Contents.{Contents}
use Rattle.sheets.specs.Spots.{Spot}
use Rattle.sheets.specs.Readings.{Reading, got, bad}

-- a reading without its value
abbrev pub bare : {A : Type 0} → Reading A → Reading (Unit {0})
bare (got v ws) = got tt ws
bare (bad p) = bad p

-- the reading o comes to what r says, and vs are the words that it leaves
abbrev pub ComesTo : {A : Type 0} → Reading A → Result A Fault → List Spot → Type 0
ComesTo o (Ok x) vs = o ≡ got x vs
ComesTo o (Err f) vs = (f.refusal ≡ BadWord) × (o ≡ bad f.place)

-- what a check answers: that a sheet is good, or its refusal and the place of that
abbrev pub verdict : Result Contents Fault → Result (Unit {0}) Fault
verdict (Ok c) = Ok tt
verdict (Err f) = Err f
