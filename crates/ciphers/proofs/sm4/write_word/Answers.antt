use Rattle.std.proofs.Common.{◌≡◌, ℕ, ◌+◌, ◌-◌, ◌*◌, ◌++◌, take, drop, ap, ◌∙◌, arith}
use Rattle.std.proofs.lemmas.List.{drop-drop}
use Rattle.ciphers.proofs.sm4.write_word.Goals as goal

pub returns : goal.returns
returns c =
    let xs = c.args.bytes.now in
    let a = 4 * c.args.i in
    let four : a + (a + 4 - a) ≡ a + 4 = omega arith in
    let word = c.copy_from_slice.ensures.after ∙ c.to_be_bytes.ensures in
    let rest = drop-drop (a + 4 - a) a xs ∙ ap (λ (n : ℕ). drop n xs) four in
    λ j. take a xs ++ (word j ++ rest j)
