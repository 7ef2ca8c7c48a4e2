use Rattle.std.proofs.Common.{◌≡◌, length, arith, refl}
use Rattle.std.proofs.lemmas.Grind.{common_steps}
use Rattle.words.proofs.reader.Reader.word.Goals as goal

pub returns-then-place-end-clause-next : goal.returns-then-place-end-clause-next
returns-then-place-end-clause-next c =
    let e : c.first-place.result ≡ length c.args.self.now.text.now = grind (arith, common_steps, c.first-place.ensures.stops, c.first-end.ensures.stops) in (
      λ k h l. let b = c.first-place.ensures.before k h (omega arith) in grind (arith, common_steps),
      omega arith,
    )

pub returns-clause-next : goal.returns-clause-next
returns-clause-next c = record {
  from = omega arith;
  skipped = λ k h l. let b = c.first-place.ensures.before k h l in grind (arith, common_steps);
  begun = omega arith;
  within = omega arith;
  part = refl;
  whole = λ k h l. let b = c.first-end.ensures.before k h l in grind (arith, common_steps);
  ended = λ l. (c.first-end.ensures.stops l).0 tt;
}
