-- What the words of an entry name. Assumes nothing.
use Rattle.std.specs.Prelude.{ℕ, cond, ◌&&◌, List, [], ◌∷◌, Some, None, Option, ◌==◌}
use Rattle.fitter.specs.declared.entry.Choice.{Choice}
use Rattle.fitter.specs.declared.entry.Choice.TheVariants.{Ring13, Ring19, Ring1F, Powers, FourWith2, FourWith3}
use Rattle.fitter.specs.declared.entry.Published.{Published}

-- "13", "19" and "1F"
abbrev pub two_bytes : ℕ → ℕ → Option Choice
two_bytes a b =
    cond (a == 49 && b == 51) (Some Ring13) (cond (a == 49 && b == 57) (Some Ring19) (cond (a == 49 && b == 70) (Some Ring1F) None))

-- "13P", "4:2" and "4:3"
abbrev pub three_bytes : ℕ → ℕ → ℕ → Option Choice
three_bytes a b c =
    cond (a == 49 && (b == 51 && c == 80)) (Some Powers)
    (cond (a == 52 && (b == 58 && c == 50)) (Some FourWith2) (cond (a == 52 && (b == 58 && c == 51)) (Some FourWith3) None))

-- the ring that a word names
abbrev pub ring_of : List ℕ → Option Choice
ring_of [] = None
ring_of (a ∷ []) = None
ring_of (a ∷ b ∷ []) = two_bytes a b
ring_of (a ∷ b ∷ c ∷ []) = three_bytes a b c
ring_of (a ∷ b ∷ c ∷ d ∷ ds) = None

-- the pairs that were published for ring 13
abbrev pub of_13 : ℕ → Option Published
of_13 octic =
    cond (octic == 0x11b)
    (Some (record { constant = 12; ones = 45; columns = 0x01 ∷ 0xe0 ∷ 0x5d ∷ 0xb0 ∷ 0x42 ∷ 0xe5 ∷ 0x10 ∷ 0x82 ∷ [] }))
    (cond (octic == 0x1f5) (Some (record { constant = 15; ones = 44; columns = 0x01 ∷ 0x50 ∷ 0x0d ∷ 0x7a ∷ 0xc5 ∷ 0x5a ∷ 0x32 ∷ 0x08 ∷ [] })) None)

-- the pair that was published for a ring and an octic
abbrev pub published_of : Choice → ℕ → Option Published
published_of Ring13 octic = of_13 octic
published_of Ring19 octic = None
published_of Ring1F octic = None
published_of Powers octic = of_13 octic
published_of FourWith2 octic = None
published_of FourWith3 octic = None
