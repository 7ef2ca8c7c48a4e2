use Rattle.std.proofs.Common.{ℕ, List, sym, subst}
use Rattle.sheets.specs.Steps.{Taken, left_at}
use Rattle.sheets.proofs.Lefts.{next_taken}
use Rattle.sheets.proofs.steps.next_word.Goals as goal

pub returns-clause-taken : goal.returns-clause-taken
returns-clause-taken c =
    let s = c.args.words.now.text.now in
    let a = c.args.words.now.at in
    let b = c.word.new.self.at in
    subst (λ (t : List ℕ). Taken (left_at s a) c.word.result (left_at t b)) (sym c.word.ensures.kept) (next_taken s a c.word.result b c.args.words.now.inside c.word.ensures.next)
