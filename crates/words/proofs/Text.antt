-- Text that is written byte by byte. Assumes nothing.
use Rattle.std.proofs.Common.{ℕ, ◌+◌, ◌<◌, List, [], length, get_or, take, flat_map, sym, ap, ◌∙◌}
use Rattle.std.proofs.lemmas.List.{flat_map_more, take_more}
use Rattle.std.proofs.Output.{has_written_append, has_written_of_eq}
use Rattle.std.specs.declared.fmt.Formatter.{Formatter}
use Rattle.std.specs.Fmt.{HasWritten}

-- the text of the first i bytes, and then that of byte i
pub written_more : {W : Type 0} {took : W → List ℕ → W → Type 0} {f g h : Formatter W} (text : ℕ → List ℕ) (bs : List ℕ) (i : ℕ) → i < length bs
    → HasWritten took f (flat_map text (take i bs)) g → HasWritten took g (text (get_or bs i 0)) h → HasWritten took f (flat_map text (take (i + 1) bs)) h
written_more text bs i l p q =
    has_written_of_eq _ _ _ _ _ (flat_map_more text [] (take i bs) (get_or bs i 0) ∙ ap (flat_map text) (sym (take_more bs i 0 l))) (has_written_append _ _ _ _ _ _ p q)
