use Rattle.std.proofs.Common.{ℕ, List, ◌++◌, map, drop, sym, ap, ◌∙◌}
use Rattle.std.specs.List.{range_with_len}
use Rattle.ciphers.specs.Sm4.{word_at, bytes_of}
use Rattle.ciphers.proofs.Sm4Steps.{schedule_back}
use Rattle.ciphers.proofs.keys.sm4_words.Goals as goal

pub returns : goal.returns
returns g c =
    let rest = drop 128 c.args.work.now in
    let back = schedule_back (g.B.Substitute.boxed c.args.boxes.now) c.args.key.now rest c.expand.ensures.words in
    let e = c.read_keys.ensures ∙ ap (λ (l : List ℕ). map (word_at l) (range_with_len 0 32)) c.expand.ensures.held ∙ back in
    record { schedule = e; held = c.expand.ensures.held ∙ ap (λ (l : List ℕ). bytes_of l ++ rest) (sym e) }
