use Rattle.std.proofs.Common.{[], arith}
use Rattle.std.proofs.lemmas.Result.{err_from_is_err_and}
use Rattle.laws_modules.proofs.laws_primary.laws_shared.Bracketed.{opened_later}
use Rattle.laws_modules.proofs.laws_primary.laws_shared.Signs.{stands_not}
use Rattle.laws_modules.proofs.NameLists.{item_stops, item_taken, step_stops, step_taken}
use Rattle.std.proofs.Common.{refl}
use Rattle.parse_modules.proofs.name_list.parse_listed_item.Goals as goal

pub returns-in_err-item : goal.returns-in_err-item
returns-in_err-item g c =
    let p = err_from_is_err_and c.from_residual.result c.from_residual.ensures.1 in
    rw (p.1, p.2) (λ text f a. item_stops c.args.list _ _ a c.requires.more (c.in_err-item.ensures text f a))

pub delimited_step-requires-clause-at : goal.delimited_step-requires-clause-at
delimited_step-requires-clause-at g c = (c.in_ok-item.ensures _ _ c.requires.at).at.at

pub delimited_step-requires-clause-opened : goal.delimited_step-requires-clause-opened
delimited_step-requires-clause-opened g c = let x = c.in_ok-item.ensures _ _ c.requires.at in opened_later x.same (let i = x.further in let j = c.requires.at.behind in omega arith) c.requires.opened

pub returns-in_err-delimited_step : goal.returns-in_err-delimited_step
returns-in_err-delimited_step g c =
    let p = err_from_is_err_and c.from_residual-in_err-delimited_step.result c.from_residual-in_err-delimited_step.ensures.1 in
    rw (p.1, p.2) (λ text f a. step_stops c.args.list _ _ _ (item_taken c.args.list a (stands_not a refl c.requires.more) [] (c.in_ok-item.ensures text f a)) c.in_err-delimited_step.ensures)

pub returns : goal.returns
returns g c = λ text f a ids. step_taken c.args.list c.args.opening _ (item_taken c.args.list a (stands_not a refl c.requires.more) ids (c.in_ok-item.ensures text f a)) c.in_ok-delimited_step.ensures
