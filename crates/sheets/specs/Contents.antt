-- What a sheet holds: its entries, as plain values. Assumes nothing.
use Rattle.std.specs.Prelude.{◌≡◌, ℕ, List, ◌++◌, map, Ok, Err, vec_items, Result, IsOk}
use Rattle.ciphers.specs.declared.keys.Cipher.{Cipher}
use Rattle.watch.specs.declared.side.Side.{Side}
use Rattle.sheets.specs.declared.entries.FitEntry.{FitEntry}
use Rattle.sheets.specs.declared.entries.KeyEntry.{KeyEntry}
use Rattle.sheets.specs.declared.entries.SectorEntry.{SectorEntry}
use Rattle.sheets.specs.declared.entries.Sheet.{Sheet}
use Rattle.sheets.specs.declared.faults.Fault.{Fault}
use Rattle.sheets.specs.declared.faults.ReadError.{ReadError}
use Rattle.sheets.specs.declared.faults.ReadError.TheVariants.{Bad, NoMemory}

-- an entry: a fit of an end to an octic, a key for an end, or a sector that an end seals
pub data Item : Type 0 where
  fit_item : (s : Side) (octic : ℕ) → Item
  key_item : (s : Side) (c : Cipher) (key : List ℕ) → Item
  sector_item : (s : Side) (bytes : List ℕ) → Item

-- the entries of the three sections
pub record Contents : Type 0 where
  pub fits : List Item
  pub keys : List Item
  pub sectors : List Item

-- all entries, in the order of the sections
abbrev pub items : Contents → List Item
items c = c.fits ++ (c.keys ++ c.sectors)

-- an entry as a plain value
abbrev pub fit_of : FitEntry → Item
fit_of e = fit_item e.side e.octic

abbrev pub key_of : KeyEntry → Item
key_of e = key_item e.side e.cipher e.key

abbrev pub sector_of : SectorEntry → Item
sector_of e = sector_item e.side (vec_items e.bytes)

-- the entries of a sheet that was read
abbrev pub contents : Sheet → Contents
contents s = record { fits = map fit_of (vec_items s.fits); keys = map key_of (vec_items s.keys); sectors = map sector_of (vec_items s.sectors) }

-- r is what a sheet's reading comes to, or there was no memory for the entries of a good sheet
abbrev pub Answered : Result Contents Fault → Result Sheet ReadError → Type 0
Answered o (Ok s) = o ≡ Ok (contents s)
Answered o (Err (Bad f)) = o ≡ Err f
Answered o (Err NoMemory) = IsOk o
