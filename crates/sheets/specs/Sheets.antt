-- What the bytes of a sheet hold. Assumes nothing.
use Rattle.std.specs.Prelude.{ℕ, cond, List, [], ◌∷◌, length, Ok, Err, Result, nat_le}
use Rattle.sheets.specs.declared.faults.Fault.{Fault}
use Rattle.sheets.specs.declared.faults.SheetRefusal.TheVariants.{TooLong, BadWord, WordAfter}
use Rattle.sheets.specs.Contents.{Item, fit_item, key_item, sector_item, Contents}
use Rattle.sheets.specs.Spots.{Spot, spots}
use Rattle.sheets.specs.Forms.{side_of, cipher_of, octic_of, key_bytes, sector_bytes}
use Rattle.sheets.specs.Readings.{Reading, got, bad, word_as, then, section}

-- a fit: an end and an octic
abbrev pub fit_read : ℕ → List Spot → Reading Item
fit_read end ws = then (word_as side_of end ws) (λ s vs. then (word_as octic_of end vs) (λ o us. got (fit_item s o) us))

-- a key: an end, a cipher and the key
abbrev pub key_read : ℕ → List Spot → Reading Item
key_read end ws =
    then (word_as side_of end ws) (λ s vs. then (word_as cipher_of end vs) (λ c us. then (word_as key_bytes end us) (λ k ts. got (key_item s c k) ts)))

-- a sector: an end and the sector's bytes
abbrev pub sector_read : ℕ → List Spot → Reading Item
sector_read end ws = then (word_as side_of end ws) (λ s vs. then (word_as sector_bytes end vs) (λ b us. got (sector_item s b) us))

-- the three sections, in their order
abbrev pub sections : ℕ → List Spot → Reading Contents
sections end ws =
    then (section fit_read end ws)
    (λ fs vs. then (section key_read end vs) (λ ks us. then (section sector_read end us) (λ ss ts. got (record { fits = fs; keys = ks; sectors = ss }) ts)))

-- no word may be left
abbrev pub ended : Reading Contents → Result Contents Fault
ended (got c []) = Ok c
ended (got c (w ∷ ws)) = Err (record { refusal = WordAfter; place = w.place })
ended (bad p) = Err (record { refusal = BadWord; place = p })

-- what the words of a sheet come to
unfoldable pub words_hold : List ℕ → Result Contents Fault
words_hold s = ended (sections (length s) (spots 0 s))

-- what a sheet comes to: its entries, or a refusal and its place
abbrev pub sheet_of : List ℕ → Result Contents Fault
sheet_of s = cond (nat_le (length s) 16384) (words_hold s) (Err (record { refusal = TooLong; place = 16384 }))
