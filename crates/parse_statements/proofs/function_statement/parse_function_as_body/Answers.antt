use Rattle.std.proofs.Common.{arith, ◌∙◌}
use Rattle.std.proofs.lemmas.Result.{err_from_is_err_and}
use Rattle.parse_shared.proofs.laws_shared.Moving.{stops_so}
use Rattle.parse_control.proofs.laws_statements.FunctionStatements.{body_answers, body_marked, checked_place, no_body}
use Rattle.parse_statements.proofs.function_statement.parse_function_as_body.Goals as goal

pub returns-in_err-parts : goal.returns-in_err-parts
returns-in_err-parts g c = λ text f a.
    let p = err_from_is_err_and c.from_residual.result c.from_residual.ensures.1 in
    rw (p.1, p.2) (stops_so _ _ _ (λ n. no_body a c.requires.word n) (c.in_err-parts.ensures text f a))

pub check_plain_function-requires-clause-at : goal.check_plain_function-requires-clause-at
check_plain_function-requires-clause-at g c = (c.in_ok-parts.ensures _ _ c.requires.at).whole.at.at

pub check_plain_function-requires-clause-mark : goal.check_plain_function-requires-clause-mark
check_plain_function-requires-clause-mark g c = body_marked c.requires.at c.requires.word _ (c.in_ok-parts.ensures _ _ c.requires.at) _ _ (c.new-head.ensures.start ∙ c.cur_start-start.ensures) c.new-head.ensures.end

pub end_span-span-requires : goal.end_span-span-requires
end_span-span-requires g c =
    let y = c.in_ok-parts.ensures _ _ c.requires.at in
    let i = y.whole.further in let s = c.cur_start-start.ensures in
    let e = checked_place c.requires.at c.requires.word _ y c.in_ok-check_plain_function.ensures in omega arith

pub returns : goal.returns
returns g c = λ text f a. body_answers a c.requires.word _ (c.in_ok-parts.ensures text f a) c.in_ok-check_plain_function.ensures _ (c.end_span-span.ensures.start ∙ c.cur_start-start.ensures) c.end_span-span.ensures.end c.in_ok-node.ensures

pub new-head-requires : goal.new-head-requires
new-head-requires g c =
    let y = (c.in_ok-parts.ensures _ _ c.requires.at).head in
    let i = y.further in let e = y.is in let s = c.cur_start-start.ensures in omega arith
