use Rattle.std.proofs.Common.{refl}
use Rattle.std.proofs.lemmas.Result.{err_from_is_err_and}
use Rattle.runs.proofs.Entering.{undrawn_enters, unsealed_enters, carried_enters}
use Rattle.runs.proofs.perform.carry.Goals as goal

pub returns-in_err-ticket : goal.returns-in_err-ticket
returns-in_err-ticket g c =
    let p = err_from_is_err_and c.from_residual.result c.from_residual.ensures.1 in
    undrawn_enters c.draw.ensures.goes c.in_err-ticket.was p.1 p.2

pub returns-in_err-seal : goal.returns-in_err-seal
returns-in_err-seal g c =
    let p = err_from_is_err_and c.from_residual-in_err-seal.result c.from_residual-in_err-seal.ensures.1 in
    unsealed_enters c.draw.ensures.goes c.in_ok-ticket.was c.requires c.seal.ensures.goes c.in_err-seal.was p.1 p.2

pub returns : goal.returns
returns g c =
    carried_enters c.draw.ensures.goes c.in_ok-ticket.was c.requires c.seal.ensures.goes c.in_ok-seal.was
    (c.open-opened.ensures.goes, c.open-opened.ensures.onward) c.other.ensures c.name-name.ensures c.number-number.ensures
    refl c.bearing.ensures c.came_back.ensures
