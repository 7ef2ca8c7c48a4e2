use Rattle.std.proofs.Common.{◌≡◌, ◌-◌, ◌<◌, get_or, drop, arith}
use Rattle.std.proofs.lemmas.Grind.{common_steps}
use Rattle.words.proofs.first.Goals as goal

pub returns-clause-before : goal.returns-clause-before
returns-clause-before g c = λ k h l.
    let e : get_or c.args.text.now k 0 ≡ get_or (drop c.args.at c.args.text.now) (k - c.args.at) 0 = grind (arith, common_steps) in
    let m : k - c.args.at < c.unwrap_or.result = omega arith in
    rw e (grind (arith, common_steps))
