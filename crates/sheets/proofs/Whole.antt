-- The words of a sheet as a whole, from its sections and the words after them. Assumes nothing.
use Rattle.std.proofs.Common.{◌≡◌, ℕ, List, [], ◌∷◌, length, Ok, Err, IsOk, refl, ◌∙◌}
use Rattle.sheets.specs.declared.faults.Fault.{Fault}
use Rattle.sheets.specs.declared.faults.ReadError.{ReadError}
use Rattle.sheets.specs.declared.faults.ReadError.TheVariants.{Bad, NoMemory}
use Rattle.sheets.specs.Contents.{Contents, contents, Answered}
use Rattle.sheets.specs.Spots.{Spot, spots}
use Rattle.sheets.specs.Readings.{got}
use Rattle.sheets.specs.Sheets.{sections, ended, words_hold}
use Rattle.sheets.specs.Steps.{Came, no_more}

pub defined : (s : List ℕ) → words_hold s ≡ ended (sections (length s) (spots 0 s))
unfolding words_hold
defined s = refl

-- the sections are refused
pub bad_sheet : (s : List ℕ) → IsOk (words_hold s) → (end : ℕ) (ws vs : List Spot) (e : ReadError) → end ≡ length s → ws ≡ spots 0 s
    → Came contents (sections end ws) (Err e) vs → Answered (words_hold s) (Err e)
bad_sheet s g end ws vs (Bad f) i j c = defined s ∙ rw (← i, ← j, c.1, ← c.0)
bad_sheet s g end ws vs NoMemory i j c = g

-- a word is left, or none
pub more_sheet : (s : List ℕ) (end : ℕ) (ws vs : List Spot) (x : Contents) (f : Fault) → end ≡ length s → ws ≡ spots 0 s
    → sections end ws ≡ got x vs → Err f ≡ no_more vs → words_hold s ≡ Err f
more_sheet s end ws [] x f i j c n = absurd (cc)
more_sheet s end ws (w ∷ vs) x f i j c n = defined s ∙ rw (← i, ← j, c) (cc)

pub whole_sheet : (s : List ℕ) (end : ℕ) (ws vs : List Spot) (x : Contents) → end ≡ length s → ws ≡ spots 0 s
    → sections end ws ≡ got x vs → Ok tt ≡ no_more vs → words_hold s ≡ Ok x
whole_sheet s end ws [] x i j c n = defined s ∙ rw (← i, ← j, c)
whole_sheet s end ws (w ∷ vs) x i j c n = absurd (cc)
