use Rattle.laws_operators.proofs.HeadOperands.{made_no_target}
use Rattle.std.proofs.Common.{ap, arith, ◌∙◌, refl}
use Rattle.parse_shared.specs.laws_shared.Moves.{unpassable}
use Rattle.std.proofs.lemmas.Result.{err_from_is_err_and}
use Rattle.laws_operators.proofs.ArraysAssigned.{array_assigned, array_stops, no_equals, once_at, once_cut, once_kind, once_place, once_room}
use Rattle.parse_targets.proofs.Assigned.{assign_some_at, assigns}
use Rattle.laws_operators.proofs.Assignments.{row_assign}
use Rattle.parse_shared.proofs.laws_shared.Giving.{memory_stops}
use Rattle.parse_shared.proofs.laws_shared.Moving.{standing}
use Rattle.parse_shared.proofs.laws_shared.Nesting.{nested_room}
use Rattle.parse_operators.proofs.assignment.parse_literal_assignment.Goals as goal

pub returns-then-at-clause-answers : goal.returns-then-at-clause-answers
returns-then-at-clause-answers t c = c.parse_destructuring_assignment.ensures.answers

pub parse_destructuring_assignment-requires-clause-equals : goal.parse_destructuring_assignment-requires-clause-equals
parse_destructuring_assignment-requires-clause-equals t c = c.at.ensures.0 c.if-at.true

pub tell_not_simple-requires-clause-marked : goal.tell_not_simple-requires-clause-marked
tell_not_simple-requires-clause-marked t c = c.requires.marked (no_equals c.at.ensures c.if-at.false)

pub advance-requires-clause-at : goal.advance-requires-clause-at
advance-requires-clause-at t c = standing (once_at c.in_ok-tell_not_simple.ensures c.requires.at)

pub advance-requires-clause-whole : goal.advance-requires-clause-whole
advance-requires-clause-whole t c = (once_cut c.in_ok-tell_not_simple.ensures ∙ c.requires.whole, ap unpassable (once_kind c.in_ok-tell_not_simple.ensures) ∙ (assigns c.args.p.now.token.kind c.requires.operator).no_end)

pub returns-in_err-advance-clause-answers : goal.returns-in_err-advance-clause-answers
returns-in_err-advance-clause-answers t c = λ text f o a na e k x h.
    let p = err_from_is_err_and c.from_residual-in_err-advance.result c.from_residual-in_err-advance.ensures.1 in
    rw (p.1, p.2) (memory_stops _ _ _ _ c.in_err-advance.ensures)

pub assignment-requires : goal.assignment-requires
assignment-requires t c =
    let b = once_at c.in_ok-tell_not_simple.ensures c.requires.at in
    let m = c.in_ok-advance.ensures _ _ b in
    let r = nested_room b m in
    let e = once_room c.in_ok-tell_not_simple.ensures in
    c.requires.nests _ _ (standing m.at) (omega arith)

pub returns-in_err-right-clause-answers : goal.returns-in_err-right-clause-answers
returns-in_err-right-clause-answers t c = λ text f o a na e k x h.
    let p = err_from_is_err_and c.from_residual-in_err-right.result c.from_residual-in_err-right.ensures.1 in
    let m = c.in_ok-advance.ensures text f (once_at c.in_ok-tell_not_simple.ensures x.answer.at) in
    rw (p.1, p.2) (array_stops a x.answer c.requires.whole c.requires.operator h (no_equals c.at.ensures c.if-at.false) na k c.in_ok-tell_not_simple.ensures m _ _ _ (c.in_err-right.ensures text f m.at))

pub end_span-span-requires : goal.end_span-span-requires
end_span-span-requires t c =
    let b = once_at c.in_ok-tell_not_simple.ensures c.requires.at in
    let m = c.in_ok-advance.ensures _ _ b in
    let r = (c.in_ok-right.ensures _ _ m.at).answer in
    let e = once_place c.in_ok-tell_not_simple.ensures in
    let g = b.behind in let d = m.further in let h = m.at.behind in let i = r.further in let s = c.requires.start in omega arith

pub returns-clause-answers : goal.returns-clause-answers
returns-clause-answers t c = λ text f o a na e k x h.
    let m = c.in_ok-advance.ensures text f (once_at c.in_ok-tell_not_simple.ensures x.answer.at) in
    array_assigned a x.answer c.requires.whole c.requires.operator h (no_equals c.at.ensures c.if-at.false) na k c.in_ok-tell_not_simple.ensures m _ (row_assign c.cur_kind.ensures c.map_assignment_operator-operator.ensures.row) x.holds x.keeps (c.in_ok-right.ensures text f m.at) (c.end_span-span.ensures.start ∙ e) c.end_span-span.ensures.end c.in_ok-node.ensures

pub map_assignment_operator-operator-requires : goal.map_assignment_operator-operator-requires
map_assignment_operator-operator-requires t c = assign_some_at c.cur_kind.ensures c.requires.operator

pub returns-then-at-clause-node : goal.returns-then-at-clause-node
returns-then-at-clause-node t c = c.parse_destructuring_assignment.ensures.node

pub returns-clause-node : goal.returns-clause-node
returns-clause-node t c = made_no_target refl (λ cs. refl) c.in_ok-node.ensures
