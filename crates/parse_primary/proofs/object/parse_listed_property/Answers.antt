use Rattle.std.proofs.Common.{[], refl, arith}
use Rattle.std.proofs.lemmas.Result.{err_from_is_err_and}
use Rattle.laws_primary.proofs.PropertyLists.{property_stops, property_taken, step_stops, step_taken}
use Rattle.laws_primary.proofs.laws_shared.Bracketed.{opened_later}
use Rattle.laws_primary.proofs.laws_shared.Signs.{stands_not}
use Rattle.parse_primary.proofs.object.parse_listed_property.Goals as goal

pub returns-in_err-property : goal.returns-in_err-property
returns-in_err-property g c =
    let p = err_from_is_err_and c.from_residual.result c.from_residual.ensures.1 in
    rw (p.1, p.2) (λ text f a. property_stops _ _ a c.requires.more (c.in_err-property.ensures text f a))

pub delimited_step-requires-clause-at : goal.delimited_step-requires-clause-at
delimited_step-requires-clause-at g c = (c.in_ok-property.ensures _ _ c.requires.at).at.at

pub delimited_step-requires-clause-opened : goal.delimited_step-requires-clause-opened
delimited_step-requires-clause-opened g c = let x = c.in_ok-property.ensures _ _ c.requires.at in opened_later x.same (let i = x.further in let j = c.requires.at.behind in omega arith) c.requires.opened

pub returns-in_err-delimited_step : goal.returns-in_err-delimited_step
returns-in_err-delimited_step g c =
    let p = err_from_is_err_and c.from_residual-in_err-delimited_step.result c.from_residual-in_err-delimited_step.ensures.1 in
    rw (p.1, p.2) (λ text f a. step_stops _ _ _ (property_taken a (stands_not a refl c.requires.more) [] (c.in_ok-property.ensures text f a)) c.in_err-delimited_step.ensures)

pub returns : goal.returns
returns g c = λ text f a ids. step_taken c.args.opening _ (property_taken a (stands_not a refl c.requires.more) ids (c.in_ok-property.ensures text f a)) c.in_ok-delimited_step.ensures
