use Rattle.std.proofs.Common.{◌∙◌, ap, arith}
use Rattle.std.proofs.lemmas.Result.{err_from_is_err_and}
use Rattle.js_base.specs.Contexts.{has_flag, in_flag}
use Rattle.parse_shared.proofs.laws_shared.Moving.{standing}
use Rattle.parse_shared.proofs.laws_shared.Nesting.{later_room, nested_room, nests_later}
use Rattle.laws_statements.proofs.CompoundStatements.{body_stops, head_same, headed_answers, headed_stops, headed_whole}
use Rattle.parse_control.proofs.compound_statement.parse_headed_statement.Goals as goal

pub advance-requires-clause-whole : goal.advance-requires-clause-whole
advance-requires-clause-whole t c = headed_whole c.requires.at c.requires.word

pub parse_paren_expression-requires-clause-at : goal.parse_paren_expression-requires-clause-at
parse_paren_expression-requires-clause-at t c = standing (c.in_ok-advance.ensures _ _ c.requires.at).at

pub parse_paren_expression-requires-clause-nests : goal.parse_paren_expression-requires-clause-nests
parse_paren_expression-requires-clause-nests t c = nests_later c.requires.nests (let r = nested_room c.requires.at (c.in_ok-advance.ensures _ _ c.requires.at) in omega arith)

pub returns-in_err-head : goal.returns-in_err-head
returns-in_err-head t c = λ b text f a.
    let p = err_from_is_err_and c.from_residual-in_err-head.result c.from_residual-in_err-head.ensures.1 in
    let m = c.in_ok-advance.ensures text f a in
    rw (p.1, p.2) (headed_stops a c.requires.word m b _ _ (c.in_err-head.ensures text f m.at))

pub statement-requires : goal.statement-requires
statement-requires t c =
    let m = c.in_ok-advance.ensures _ _ c.requires.at in
    let x = c.in_ok-head.ensures _ _ m.at in
    let r = nested_room c.requires.at m in
    let s = later_room (let i = x.further in let j = m.at.behind in omega arith) x.same in
    c.requires.nests _ _ (standing x.at, ap (has_flag in_flag) (head_same c.requires.at c.requires.word m x).ctx ∙ c.requires.allows_in) (omega arith)

pub returns-in_err-body : goal.returns-in_err-body
returns-in_err-body t c = λ b text f a.
    let p = err_from_is_err_and c.from_residual-in_err-body.result c.from_residual-in_err-body.ensures.1 in
    let m = c.in_ok-advance.ensures text f a in
    let x = c.in_ok-head.ensures text f m.at in
    rw (p.1, p.2) (body_stops a c.requires.word m x b _ _ (c.in_err-body.ensures text f x.at))

pub end_span-span-requires : goal.end_span-span-requires
end_span-span-requires t c =
    let m = c.in_ok-advance.ensures _ _ c.requires.at in
    let x = c.in_ok-head.ensures _ _ m.at in
    let y = c.in_ok-body.ensures _ _ x.at in
    let i = m.further in let j = m.at.behind in let k = x.further in let l = x.at.behind in let n = y.further in let s = c.cur_start-start.ensures in omega arith

pub returns : goal.returns
returns t c = λ b text f a.
    let m = c.in_ok-advance.ensures text f a in
    let x = c.in_ok-head.ensures text f m.at in
    headed_answers a c.requires.word m x (c.in_ok-body.ensures text f x.at) b _ (c.end_span-span.ensures.start ∙ c.cur_start-start.ensures) c.end_span-span.ensures.end c.in_ok-node.ensures
