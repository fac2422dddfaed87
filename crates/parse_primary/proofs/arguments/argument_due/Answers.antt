use Rattle.std.proofs.Common.{Bool, ap, subst}
use Rattle.std.proofs.lemmas.Result.{err_from_is_err_and}
use Rattle.laws_primary.specs.laws_shared.Arguments.{Due}
use Rattle.laws_primary.proofs.ArgumentLists.{due_step, due_stops, is_due, not_due}
use Rattle.parse_primary.proofs.arguments.argument_due.Goals as goal

pub returns-in_err-delimited_step : goal.returns-in_err-delimited_step
returns-in_err-delimited_step g c = λ text f a.
    let p = err_from_is_err_and c.from_residual.result c.from_residual.ensures.1 in
    rw (p.1, p.2) (λ i. due_stops _ _ c.args.first _ a i c.in_err-delimited_step.ensures)

pub returns-in-Element : goal.returns-in-Element
returns-in-Element g c = λ text f a. let z = due_step c.args.opening c.args.first c.in_ok-delimited_step.field-0 c.delimited_step.result c.in_ok-delimited_step.was a c.delimited_step.ensures in subst (λ (b : Bool). Due text f c.args.first c.args.p.now c.delimited_step.new.self b) (ap is_due c.in-Element.is) z

pub returns-in-End : goal.returns-in-End
returns-in-End g c = λ text f a. let z = due_step c.args.opening c.args.first c.in_ok-delimited_step.field-0 c.delimited_step.result c.in_ok-delimited_step.was a c.delimited_step.ensures in subst (λ (b : Bool). Due text f c.args.first c.args.p.now c.delimited_step.new.self b) (not_due c.in-End.is) z
