use Rattle.std.proofs.Common.{refl, inl}
use Rattle.std.proofs.lemmas.Result.{err_from_is_err_and}
use Rattle.trip.proofs.Calls.{did, first_unfitted, second_unfitted, both_fitted, first_unkeyed, second_unkeyed, never_undrawn, unsealed, opened, never}
use Rattle.trip.proofs.round_trip.Goals as goal

pub returns-in_err-fit-clause-answer : goal.returns-in_err-fit-clause-answer
returns-in_err-fit-clause-answer g c =
    let p = err_from_is_err_and c.from_residual.result c.from_residual.ensures.1 in
    rw (p.1, p.2) (refl, inl (first_unfitted c.new-w.ensures.starts (rw c.in_err-fit.was at c.fit.ensures.goes), refl))

pub returns-in_err-fit-2-clause-answer : goal.returns-in_err-fit-2-clause-answer
returns-in_err-fit-2-clause-answer g c =
    let p = err_from_is_err_and c.from_residual-in_err-fit-2.result c.from_residual-in_err-fit-2.ensures.1 in
    let f = rw c.in_ok-fit.was at (did c.fit.ensures.goes c.fit.ensures.onward) in
    rw (p.1, p.2) (refl, inl (second_unfitted c.new-w.ensures.starts f (rw c.in_err-fit-2.was at c.fit-2.ensures.goes), refl))

pub returns-in_err-key-clause-answer : goal.returns-in_err-key-clause-answer
returns-in_err-key-clause-answer g c =
    let p = err_from_is_err_and c.from_residual-in_err-key.result c.from_residual-in_err-key.ensures.1 in
    let f = rw c.in_ok-fit.was at (did c.fit.ensures.goes c.fit.ensures.onward) in
    let at = both_fitted c.new-w.ensures.starts f (rw c.in_ok-fit-2.was at (did c.fit-2.ensures.goes c.fit-2.ensures.onward)) in
    rw (p.1, p.2) (first_unkeyed c.args.letter c.args.first.now c.args.second.now c.args.work.now c.args.bytes.now at (rw c.in_err-key.was at c.key.ensures.goes))

pub returns-in_err-key-2-clause-answer : goal.returns-in_err-key-2-clause-answer
returns-in_err-key-2-clause-answer g c =
    let p = err_from_is_err_and c.from_residual-in_err-key-2.result c.from_residual-in_err-key-2.ensures.1 in
    let f = rw c.in_ok-fit.was at (did c.fit.ensures.goes c.fit.ensures.onward) in
    let at = both_fitted c.new-w.ensures.starts f (rw c.in_ok-fit-2.was at (did c.fit-2.ensures.goes c.fit-2.ensures.onward)) in
    let k = rw c.in_ok-key.was at (did c.key.ensures.goes c.key.ensures.onward) in
    rw (p.1, p.2) (second_unkeyed c.args.letter c.args.first.now c.args.second.now c.args.work.now c.args.bytes.now at k (rw c.in_err-key-2.was at c.key-2.ensures.goes))

pub returns-in_err-ticket-clause-answer : goal.returns-in_err-ticket-clause-answer
returns-in_err-ticket-clause-answer g c =
    let f = rw c.in_ok-fit.was at (did c.fit.ensures.goes c.fit.ensures.onward) in
    let at = both_fitted c.new-w.ensures.starts f (rw c.in_ok-fit-2.was at (did c.fit-2.ensures.goes c.fit-2.ensures.onward)) in
    let k = rw c.in_ok-key.was at (did c.key.ensures.goes c.key.ensures.onward) in
    let l = rw c.in_ok-key-2.was at (did c.key-2.ensures.goes c.key-2.ensures.onward) in
    absurd (never_undrawn c.args.letter c.args.first.now c.args.second.now c.args.work.now c.args.bytes.now at k l (rw c.in_err-ticket.was at c.draw.ensures.goes))

pub returns-in_err-seal : goal.returns-in_err-seal
returns-in_err-seal g c =
    let p = err_from_is_err_and c.from_residual-in_err-seal.result c.from_residual-in_err-seal.ensures.1 in
    let f = rw c.in_ok-fit.was at (did c.fit.ensures.goes c.fit.ensures.onward) in
    let at = both_fitted c.new-w.ensures.starts f (rw c.in_ok-fit-2.was at (did c.fit-2.ensures.goes c.fit-2.ensures.onward)) in
    let k = rw c.in_ok-key.was at (did c.key.ensures.goes c.key.ensures.onward) in
    let l = rw c.in_ok-key-2.was at (did c.key-2.ensures.goes c.key-2.ensures.onward) in
    let d = rw c.in_ok-ticket.was at (did c.draw.ensures.goes c.draw.ensures.onward) in
    let u = unsealed c.args.letter c.args.first.now c.args.second.now c.args.work.now c.args.bytes.now at k l d (rw c.in_err-seal.was at c.seal.ensures.goes) in
    record { back = λ same. u.0; answer = rw (p.1, p.2) u }

pub returns-in_err-open : goal.returns-in_err-open
returns-in_err-open g c =
    let f = rw c.in_ok-fit.was at (did c.fit.ensures.goes c.fit.ensures.onward) in
    let at = both_fitted c.new-w.ensures.starts f (rw c.in_ok-fit-2.was at (did c.fit-2.ensures.goes c.fit-2.ensures.onward)) in
    let k = rw c.in_ok-key.was at (did c.key.ensures.goes c.key.ensures.onward) in
    let l = rw c.in_ok-key-2.was at (did c.key-2.ensures.goes c.key-2.ensures.onward) in
    let d = rw c.in_ok-ticket.was at (did c.draw.ensures.goes c.draw.ensures.onward) in
    let o = opened c.args.letter c.args.first.now c.args.second.now c.args.work.now c.args.bytes.now at k l d
    (rw c.in_ok-seal.was at (did c.seal.ensures.goes c.seal.ensures.onward)) (did c.open.ensures.goes c.open.ensures.onward)
    c.name-name.ensures c.number-number.ensures in
    absurd (never c.in_err-open.was o.0)

pub returns : goal.returns
returns g c =
    let f = rw c.in_ok-fit.was at (did c.fit.ensures.goes c.fit.ensures.onward) in
    let at = both_fitted c.new-w.ensures.starts f (rw c.in_ok-fit-2.was at (did c.fit-2.ensures.goes c.fit-2.ensures.onward)) in
    let k = rw c.in_ok-key.was at (did c.key.ensures.goes c.key.ensures.onward) in
    let l = rw c.in_ok-key-2.was at (did c.key-2.ensures.goes c.key-2.ensures.onward) in
    let d = rw c.in_ok-ticket.was at (did c.draw.ensures.goes c.draw.ensures.onward) in
    let o = opened c.args.letter c.args.first.now c.args.second.now c.args.work.now c.args.bytes.now at k l d
    (rw c.in_ok-seal.was at (did c.seal.ensures.goes c.seal.ensures.onward)) (did c.open.ensures.goes c.open.ensures.onward)
    c.name-name.ensures c.number-number.ensures in
    record { back = o.2; answer = o.1 }
