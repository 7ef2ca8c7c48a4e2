use Rattle.std.proofs.Common.{rules}
use Rattle.std.proofs.lemmas.List.FromFn.{fill_by_all}
use Rattle.boxes.specs.Boxes.{box_s}
use Rattle.sm4_million.specs.Stored.{stored_s}
use Rattle.sm4_million.proofs.every_byte.Goals as goal

pub returns : goal.returns
unfolding stored_s
returns c = fill_by_all box_s c.from_fn.result 256 0 c.from_fn.ensures.items.long (λ k h. let called = (c.from_fn.ensures.items.at k 0 h).2 in search rules)
