-- What the steps of reading a sheet promise, in the words of its definition. Assumes nothing.
use Rattle.std.specs.Prelude.{◌≡◌, ℕ, List, [], ◌∷◌, map, drop, Some, None, Ok, Err, vec_items, Option, Result, Vec}
use Rattle.std.specs.declared.alloc.AllocError.{AllocError}
use Rattle.std.specs.declared.alloc.Global.{Global}
use Rattle.words.specs.declared.Word.{Word}
use Rattle.words.specs.declared.reader.Reader.{Reader}
use Rattle.sheets.specs.declared.faults.Fault.{Fault}
use Rattle.sheets.specs.declared.faults.ReadError.{ReadError}
use Rattle.sheets.specs.declared.faults.ReadError.TheVariants.{Bad, NoMemory}
use Rattle.sheets.specs.declared.faults.SheetRefusal.TheVariants.{BadWord, WordAfter}
use Rattle.sheets.specs.declared.tokens.Due.{Due}
use Rattle.sheets.specs.declared.tokens.Due.TheVariants.{Count as DueCount, Letter as DueLetter, Digits as DueDigits}
use Rattle.sheets.specs.declared.tokens.Token.{Token}
use Rattle.sheets.specs.declared.tokens.Token.TheVariants.{Count, Letter, Digits}
use Rattle.sheets.specs.declared.sheet_reader.SheetReader.{SheetReader}
use Rattle.sheets.specs.Spots.{Spot, spot, spots}
use Rattle.sheets.specs.Forms.{count_of, letter_of, bytes_of}
use Rattle.sheets.specs.Readings.{Reading, got, bad, word_as}

-- the words of s from place a on
abbrev pub left_at : List ℕ → ℕ → List Spot
left_at s a = spots a (drop a s)

-- the words that a reader of words has before it
abbrev pub ahead : Reader → List Spot
ahead r = left_at r.text.now r.at

-- the words that a reader has before it
abbrev pub left : SheetReader → List Spot
left r = ahead r.words

-- a word as a plain value
abbrev pub spot_of : Word → Spot
spot_of w = spot w.place w.part.now

-- the first of the words, if there is one, is taken
abbrev pub Taken : List Spot → Option Word → List Spot → Type 0
Taken ws None vs = (ws ≡ []) × (vs ≡ [])
Taken ws (Some w) vs = ws ≡ spot_of w ∷ vs

-- what a word has to be to make the token that is due: a count, a letter, or any word where digits are due
abbrev pub shape : Due → List ℕ → Option ℕ
shape DueCount = count_of
shape DueLetter = letter_of
shape DueDigits = λ _. Some 0

-- a token's word as a plain value
abbrev pub token_spot : Token → Spot
token_spot (Count part place value) = spot place part.now
token_spot (Letter part place letter) = spot place part.now
token_spot (Digits part place) = spot place part.now

-- a token is of the kind that was due, and holds what its word stands for
abbrev pub Shaped : Due → Token → Type 0
Shaped DueCount (Count part place value) = count_of part.now ≡ Some value
Shaped DueCount (Letter part place letter) = ⊥
Shaped DueCount (Digits part place) = ⊥
Shaped DueLetter (Count part place value) = ⊥
Shaped DueLetter (Letter part place letter) = letter_of part.now ≡ Some letter
Shaped DueLetter (Digits part place) = ⊥
Shaped DueDigits (Count part place value) = ⊥
Shaped DueDigits (Letter part place letter) = ⊥
Shaped DueDigits (Digits part place) = Unit {0}

-- a refusal of the word at a place
abbrev pub bad_word : ℕ → ReadError
bad_word p = Bad (record { refusal = BadWord; place = p })

-- what a word is as a token, where it is due
abbrev pub Made : Due → Word → Option Token → Type 0
Made due w None = shape due w.part.now ≡ None
Made due w (Some t) = (token_spot t ≡ spot_of w) × Shaped due t

-- the first word is taken as a token, or refused
abbrev pub Tokened : Due → ℕ → List Spot → Result Token ReadError → List Spot → Type 0
Tokened due end ws (Ok t) vs = (ws ≡ token_spot t ∷ vs) × Shaped due t
Tokened due end ws (Err (Bad f)) vs = (f.refusal ≡ BadWord) × (word_as (shape due) end ws ≡ bad f.place)
Tokened due end ws (Err NoMemory) vs = Unit {0}

-- what a token's word stands for by f, or that its place is refused
abbrev pub Stands : {A X : Type 0} → (List ℕ → Option A) → (X → A) → Token → Result X ReadError → Type 0
Stands f item t (Ok x) = f (token_spot t).bytes ≡ Some (item x)
Stands f item t (Err (Bad e)) = (e.refusal ≡ BadWord) × (f (token_spot t).bytes ≡ None) × (e.place ≡ (token_spot t).place)
Stands f item t (Err NoMemory) = Unit {0}

-- the entries of a list, as plain values
abbrev pub listed : {A X : Type 0} → (X → A) → Vec X Global → List A
listed item v = map item (vec_items v)

-- r is what the reading o came to, with the words vs left, or there was no memory
abbrev pub Came : {A X : Type 0} → (X → A) → Reading A → Result X ReadError → List Spot → Type 0
Came item o (Ok x) vs = o ≡ got (item x) vs
Came item o (Err (Bad f)) vs = (f.refusal ≡ BadWord) × (o ≡ bad f.place)
Came item o (Err NoMemory) vs = Unit {0}

-- one step of reading, from the reader a to the reader b: r is what the reading o comes to
pub record Step {A X : Type 0} (item : X → A) (o : ℕ → List Spot → Reading A) (a : SheetReader) (r : Result X ReadError) (b : SheetReader) : Type 0 where
  pub read : Came item (o a.end (left a)) r (left b)
  pub kept : b.end ≡ a.end

-- bs are the bytes of the digits ds, or ds are no digits
abbrev pub Decoded : List ℕ → Option (Unit {0}) → List ℕ → Type 0
Decoded ds (Some u) bs = bytes_of ds ≡ Some bs
Decoded ds None bs = bytes_of ds ≡ None

-- r holds the bytes o, or there was no memory
abbrev pub Held : Option (List ℕ) → Result (Option (Vec ℕ Global)) AllocError → Type 0
Held o (Ok (Some v)) = o ≡ Some (vec_items v)
Held o (Ok None) = o ≡ None
Held o (Err e) = Unit {0}

-- no word may be left
abbrev pub no_more : List Spot → Result (Unit {0}) Fault
no_more [] = Ok tt
no_more (w ∷ ws) = Err (record { refusal = WordAfter; place = w.place })
