-- The lines of a sheet, byte for byte. Assumes nothing.
use Rattle.std.specs.Prelude.{ℕ, Bool, true, false, List, [], ◌∷◌, ◌++◌, Ok, Err, codes, decimal, vec_items}
pub use Rattle.refusals.specs.Numbers.{answer_of}
use Rattle.refusals.specs.Numbers.{number_of}
use Rattle.sheets.specs.Numbers.{number_of as sheet_number_of}
use Rattle.watch.specs.declared.side.Side.{Side}
use Rattle.watch.specs.declared.side.Side.TheVariants.{First, Second}
use Rattle.runs.specs.declared.line.Line.{Line}
use Rattle.runs.specs.declared.line.Line.TheVariants.{Bad, Fit, Key, Sector}
use Rattle.runs.specs.declared.printout.Printout.{Printout}
use Rattle.runs.specs.declared.printout.Printout.TheVariants.{One, Each}

-- the first end is H and the second D
abbrev pub letter_of : Side → List ℕ
letter_of First = codes "H"
letter_of Second = codes "D"

-- Y where the first bytes came back, and else N
abbrev pub mark_of : Bool → List ℕ
mark_of true = codes "Y"
mark_of false = codes "N"

-- the fields of a line, a space between each two
abbrev pub spaced : List ℕ → List (List ℕ) → List ℕ
spaced f [] = f
spaced f (x ∷ xs) = f ++ (32 ∷ spaced x xs)

-- E, the refusal and the place; or F, K or S, the end and 0 or the refusal, and after an accepted sector its number, its bearing and Y or N
abbrev pub text_of : Line → List ℕ
text_of (Bad f) = spaced (codes "E") (decimal (sheet_number_of f.refusal) ∷ decimal f.place ∷ [])
text_of (Fit s r) = spaced (codes "F") (letter_of s ∷ decimal (answer_of r) ∷ [])
text_of (Key s r) = spaced (codes "K") (letter_of s ∷ decimal (answer_of r) ∷ [])
text_of (Sector s (Ok p)) = spaced (codes "S") (letter_of s ∷ codes "0" ∷ decimal p.number ∷ decimal p.bearing ∷ mark_of p.same ∷ [])
text_of (Sector s (Err e)) = spaced (codes "S") (letter_of s ∷ decimal (number_of e) ∷ [])

-- a line, and the newline that ends it
abbrev pub with_newline : Line → List ℕ
with_newline l = text_of l ++ (10 ∷ [])

-- the lines of a printout
abbrev pub lines_of : Printout → List Line
lines_of (One l) = l ∷ []
lines_of (Each ls) = vec_items ls
