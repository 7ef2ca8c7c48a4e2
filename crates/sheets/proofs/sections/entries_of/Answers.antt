use Rattle.std.proofs.Common.{◌∙◌, arith}
use Rattle.std.proofs.lemmas.Result.{err_from_is_err_and}
use Rattle.sheets.specs.Steps.{left}
use Rattle.sheets.proofs.Times.{so_far_push, so_far_all, so_far_err}
use Rattle.sheets.proofs.sections.entries_of.Goals as goal

pub returns-in_err-read : goal.returns-in_err-read
returns-in_err-read g c =
    let p = err_from_is_err_and c.from_residual.result c.from_residual.ensures.1 in
    record {
      read = rw (p.1, p.2) (so_far_err g.E.Entry.item g.E.Entry.form _ _ _ c.loop.counter _ _ _ c.in_err-read.field-0.0 (left c.read.new.reader) (omega arith) c.loop.invariant.0 c.in_err-read.ensures.read c.loop.invariant.1);
      kept = c.read.ensures.kept ∙ c.loop.invariant.0;
    }

pub loop-preserved : goal.loop-preserved
loop-preserved g c = (
  c.in_ok-read.ensures.kept ∙ c.loop.invariant.0,
  so_far_push g.E.Entry.item g.E.Entry.form _ _ _ c.loop.counter _ _ _ _ _ _ (omega arith) c.loop.invariant.0 c.in_ok-read.ensures.read c.in_ok-push.ensures.items c.loop.invariant.1,
)

pub returns : goal.returns
returns g c = record { read = so_far_all _ _ _ c.loop.counter _ _ (omega arith) c.loop.invariant.1; kept = c.loop.invariant.0 }
