-- What makes a good sheet, word by word, and which word of a bad one is refused. Assumes nothing.
use Rattle.std.specs.Prelude.{◌≡◌, ◌↔◌, ◌⊎◌, ℕ, ◌<◌, ◌≤◌, List, [], ◌∷◌, ◌++◌, map, length, flat_map, All, Some, Ok, Err}
use Rattle.ciphers.specs.declared.keys.Cipher.{Cipher}
use Rattle.watch.specs.declared.side.Side.{Side}
use Rattle.sheets.specs.declared.faults.Fault.{Fault}
use Rattle.sheets.specs.declared.faults.SheetRefusal.{SheetRefusal}
use Rattle.sheets.specs.declared.faults.SheetRefusal.TheVariants.{TooLong, BadWord, WordAfter}
use Rattle.sheets.specs.Contents.{Item, fit_item, key_item, sector_item, Contents}
use Rattle.sheets.specs.Spots.{Spot, spot, spots}
use Rattle.sheets.specs.Forms.{count_of, side_of, cipher_of, octic_of, key_bytes, sector_bytes}
use Rattle.sheets.specs.Sheets.{sheet_of}

-- ---- good sheets

-- what a word of a sheet can stand for
pub data Meaning : Type 0 where
  a_count : (n : ℕ) → Meaning
  an_end : (s : Side) → Meaning
  a_cipher : (c : Cipher) → Meaning
  an_octic : (octic : ℕ) → Meaning
  a_key : (key : List ℕ) → Meaning
  a_sector : (bytes : List ℕ) → Meaning

-- the word w stands for the meaning
abbrev pub StandsFor : List ℕ → Meaning → Type 0
StandsFor w (a_count n) = count_of w ≡ Some n
StandsFor w (an_end s) = side_of w ≡ Some s
StandsFor w (a_cipher c) = cipher_of w ≡ Some c
StandsFor w (an_octic octic) = octic_of w ≡ Some octic
StandsFor w (a_key key) = key_bytes w ≡ Some key
StandsFor w (a_sector bytes) = sector_bytes w ≡ Some bytes

-- the words stand for these, one word for each, in this order
abbrev pub Spell : List (List ℕ) → List Meaning → Type 0
Spell [] [] = Unit {0}
Spell [] (m ∷ ms) = ⊥
Spell (w ∷ ws) [] = ⊥
Spell (w ∷ ws) (m ∷ ms) = StandsFor w m × Spell ws ms

-- what the words of an entry stand for
abbrev pub entry_meanings : Item → List Meaning
entry_meanings (fit_item s octic) = an_end s ∷ an_octic octic ∷ []
entry_meanings (key_item s c key) = an_end s ∷ a_cipher c ∷ a_key key ∷ []
entry_meanings (sector_item s bytes) = an_end s ∷ a_sector bytes ∷ []

-- what the words of a section stand for: the count of its entries, and the entries in order
abbrev pub section_meanings : List Item → List Meaning
section_meanings xs = a_count (length xs) ∷ flat_map entry_meanings xs

-- what the words of a sheet stand for: its three sections in order
abbrev pub sheet_meanings : Contents → List Meaning
sheet_meanings c = section_meanings c.fits ++ (section_meanings c.keys ++ section_meanings c.sectors)

-- the kinds of entry
abbrev pub IsFit : Item → Type 0
IsFit x = (s : Side) × (octic : ℕ) × (x ≡ fit_item s octic)

abbrev pub IsKey : Item → Type 0
IsKey x = (s : Side) × (c : Cipher) × (key : List ℕ) × (x ≡ key_item s c key)

abbrev pub IsSector : Item → Type 0
IsSector x = (s : Side) × (bytes : List ℕ) × (x ≡ sector_item s bytes)

-- each section has entries of its own kind
abbrev pub InSections : Contents → Type 0
InSections c = All IsFit c.fits × All IsKey c.keys × All IsSector c.sectors

-- the words ws make a good sheet, with the entries c
abbrev pub Makes : List (List ℕ) → Contents → Type 0
Makes ws c = InSections c × Spell ws (sheet_meanings c)

-- ---- refused sheets

-- a good sheet begins with the words ws
abbrev pub GoodStart : List (List ℕ) → Type 0
GoodStart ws = (more : List (List ℕ)) × (c : Contents) × Makes (ws ++ more) c

-- after the words ws another word is due: a good sheet begins with them and goes on
abbrev pub WordDue : List (List ℕ) → Type 0
WordDue ws = (w : List ℕ) × GoodStart (ws ++ w ∷ [])

-- the words without their places
abbrev pub words : List Spot → List (List ℕ)
words ws = map (λ w. w.bytes) ws

-- the words of a text
abbrev pub words_in : List ℕ → List (List ℕ)
words_in s = words (spots 0 s)

-- the text s has the word w at place p, and the words before stand before it
abbrev pub WordAt : List ℕ → ℕ → List Spot → List ℕ → Type 0
WordAt s p before w = (after : List Spot) × (spots 0 s ≡ before ++ spot p w ∷ after)

-- at place p of the text s there is a word where one is due, and no good sheet begins with the words up to and with it
abbrev pub BadWordAt : List ℕ → ℕ → Type 0
BadWordAt s p = (before : List Spot) × (w : List ℕ) × WordAt s p before w × WordDue (words before) × ¬ (GoodStart (words before ++ w ∷ []))

-- the text s ends at place p, and another word is due
abbrev pub MissingAt : List ℕ → ℕ → Type 0
MissingAt s p = (p ≡ length s) × WordDue (words_in s)

-- at place p of the text s there is a word, and the words before it make a good sheet
abbrev pub WordAfterAt : List ℕ → ℕ → Type 0
WordAfterAt s p = (before : List Spot) × (w : List ℕ) × (c : Contents) × WordAt s p before w × Makes (words before) c

-- what a refusal says of the text s, and of its place p
abbrev pub RefusedAt : List ℕ → SheetRefusal → ℕ → Type 0
RefusedAt s TooLong p = (16384 < length s) × (p ≡ 16384)
RefusedAt s BadWord p = (length s ≤ 16384) × (MissingAt s p ⊎ BadWordAt s p)
RefusedAt s WordAfter p = (length s ≤ 16384) × WordAfterAt s p

-- a text is read to entries just if it has at most 16,384 bytes and its words are those of the entries in order; and where it is
-- refused, the refusal and its place are as RefusedAt says: a bad word is the first after which nothing makes a good sheet
pub record Judged (s : List ℕ) : Type 0 where
  pub good : (c : Contents) → (sheet_of s ≡ Ok c) ↔ ((length s ≤ 16384) × Makes (words_in s) c)
  pub refused : (f : Fault) → sheet_of s ≡ Err f → RefusedAt s f.refusal f.place
