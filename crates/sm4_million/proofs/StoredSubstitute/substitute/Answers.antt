use Rattle.std.proofs.Common.{ℕ, List, get_or, ap, ◌∙◌, arith}
use Rattle.std.proofs.lemmas.List.FromFn.{get_or-map-range_with_len}
use Rattle.boxes.specs.Boxes.{box_s}
use Rattle.sm4_million.specs.Stored.{stored_s}
use Rattle.sm4_million.proofs.StoredSubstitute.substitute.Goals as goal

pub returns : goal.returns
unfolding stored_s
returns c =
    ap (λ (l : List ℕ). get_or l c.args.x 0) c.args.self.now.right
    ∙ get_or-map-range_with_len box_s 0 256 c.args.x c.args.x 0 (omega arith) (omega arith)
