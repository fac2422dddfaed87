use Rattle.std.specs.Prelude.{Ok, Err}
use Rattle.laws_operators.proofs.HeadOperands.{behind_assign, behind_operand, made_no_target, operand_memory, operand_unread}
use Rattle.parse_shared.proofs.laws_shared.Giving.{memory_stops}
use Rattle.std.proofs.Common.{inl, arith, sym, ◌∙◌, refl}
use Rattle.std.proofs.lemmas.Result.{err_from_is_err_and}
use Rattle.laws_operators.proofs.ArraysAssigned.{not_simple_marked}
use Rattle.laws_operators.proofs.Assignments.{shifted, assign_listed, row_assign, assign_answers, assign_marked, assign_refused, assign_whole, right_fails}
use Rattle.parse_targets.proofs.ArraysBeforeSigns.{is_cover}
use Rattle.laws_operators.proofs.Conditionals.{test_none}
use Rattle.parse_shared.proofs.laws_shared.Moving.{standing, stops_so, stops_behind, same_both}
use Rattle.parse_shared.proofs.laws_shared.Nesting.{nests_later, later_room, nested_room}
use Rattle.parse_targets.proofs.Refused.{refused}
use Rattle.laws_operators.proofs.Refusals.{stood}
use Rattle.parse_shared.proofs.laws_shared.Verdicts.{after, grown_then}
use Rattle.parse_operators.proofs.assignment.parse_assignment_without_arrow.Goals as goal

pub returns-in_err-left-clause-answers : goal.returns-in_err-left-clause-answers
returns-in_err-left-clause-answers t c = λ text f a. let p = err_from_is_err_and c.from_residual.result c.from_residual.ensures.1 in rw (p.1, p.2) (stops_so _ _ _ (λ z. test_none f (is_cover a) (c.requires.operand text f a) z) (c.in_err-left.ensures text f a))

pub parse_conditional_expression_rest-requires-clause-at : goal.parse_conditional_expression_rest-requires-clause-at
parse_conditional_expression_rest-requires-clause-at t c = standing (c.in_ok-operator_here.ensures _ _ (c.in_ok-left.ensures _ _ c.requires.at).answer.at).at

pub parse_conditional_expression_rest-requires-clause-nests : goal.parse_conditional_expression_rest-requires-clause-nests
parse_conditional_expression_rest-requires-clause-nests t c =
    let x = shifted (c.in_ok-left.ensures _ _ c.requires.at) (c.in_ok-operator_here.ensures _ _ (c.in_ok-left.ensures _ _ c.requires.at).answer.at) in
    nests_later c.requires.nests (later_room (let a = x.answer.further in let b = c.requires.at.behind in omega arith) x.answer.same)

pub parse_conditional_expression_rest-requires-clause-start : goal.parse_conditional_expression_rest-requires-clause-start
parse_conditional_expression_rest-requires-clause-start t c =
    let x = shifted (c.in_ok-left.ensures _ _ c.requires.at) (c.in_ok-operator_here.ensures _ _ (c.in_ok-left.ensures _ _ c.requires.at).answer.at) in
    let a = x.answer.further in let s = c.cur_start-start.ensures in omega arith

pub parse_conditional_expression_rest-requires-clause-whole : goal.parse_conditional_expression_rest-requires-clause-whole
parse_conditional_expression_rest-requires-clause-whole t c = (c.in_ok-operator_here.ensures _ _ (c.in_ok-left.ensures _ _ c.requires.at).answer.at).uncut

pub parse_conditional_expression_rest-requires-clause-unassigned : goal.parse_conditional_expression_rest-requires-clause-unassigned
parse_conditional_expression_rest-requires-clause-unassigned t c = assign_listed c.cur_kind.ensures c.is_assignment_operator.ensures c.if-not-is_assignment_operator.true

pub returns-then-not-is_assignment_operator-clause-answers : goal.returns-then-not-is_assignment_operator-clause-answers
returns-then-not-is_assignment_operator-clause-answers t c = λ text f a.
    let x = c.in_ok-left.ensures text f a in
    c.parse_conditional_expression_rest.ensures.answers text f _ a (c.requires.operand text f a) c.cur_start-start.ensures (shifted x (c.in_ok-operator_here.ensures text f x.answer.at))

pub is_array_or_object-requires : goal.is_array_or_object-requires
is_array_or_object-requires t c = let x = c.in_ok-left.ensures _ _ c.requires.at in stood (shifted x (c.in_ok-operator_here.ensures _ _ x.answer.at))

pub parse_literal_assignment-requires-clause-at : goal.parse_literal_assignment-requires-clause-at
parse_literal_assignment-requires-clause-at t c = standing (c.in_ok-operator_here.ensures _ _ (c.in_ok-left.ensures _ _ c.requires.at).answer.at).at

pub parse_literal_assignment-requires-clause-nests : goal.parse_literal_assignment-requires-clause-nests
parse_literal_assignment-requires-clause-nests t c =
    let x = shifted (c.in_ok-left.ensures _ _ c.requires.at) (c.in_ok-operator_here.ensures _ _ (c.in_ok-left.ensures _ _ c.requires.at).answer.at) in
    nests_later c.requires.nests (later_room (let a = x.answer.further in let b = c.requires.at.behind in omega arith) x.answer.same)

pub parse_literal_assignment-requires-clause-start : goal.parse_literal_assignment-requires-clause-start
parse_literal_assignment-requires-clause-start t c =
    let x = shifted (c.in_ok-left.ensures _ _ c.requires.at) (c.in_ok-operator_here.ensures _ _ (c.in_ok-left.ensures _ _ c.requires.at).answer.at) in
    let a = x.answer.further in let s = c.cur_start-start.ensures in omega arith

pub parse_literal_assignment-requires-clause-whole : goal.parse_literal_assignment-requires-clause-whole
parse_literal_assignment-requires-clause-whole t c = (c.in_ok-operator_here.ensures _ _ (c.in_ok-left.ensures _ _ c.requires.at).answer.at).uncut

pub parse_literal_assignment-requires-clause-operator : goal.parse_literal_assignment-requires-clause-operator
parse_literal_assignment-requires-clause-operator t c = assign_listed c.cur_kind.ensures c.is_assignment_operator.ensures c.if-not-is_assignment_operator.false

pub parse_literal_assignment-requires-clause-read : goal.parse_literal_assignment-requires-clause-read
parse_literal_assignment-requires-clause-read t c =
    let y = c.in_ok-left.ensures _ _ c.requires.at in
    let o = c.in_ok-operator_here.ensures _ _ y.answer.at in
    let x = shifted y o in
    record { text = _; flags = _; first = c.args.p.now; begins = c.requires.at; start_is = c.cur_start-start.ensures; kept_is = c.kept_so_far-kept.ensures; read = x; literal = sym (c.is_array_or_object.ensures _ _ _ _ x.holds) ∙ c.if-is_array_or_object.true }

pub parse_literal_assignment-requires-clause-marked : goal.parse_literal_assignment-requires-clause-marked
parse_literal_assignment-requires-clause-marked t c = λ n k.
    let y = c.in_ok-left.ensures _ _ c.requires.at in
    let o = c.in_ok-operator_here.ensures _ _ y.answer.at in
    let x = shifted y o in
    not_simple_marked c.requires.at x.answer o.uncut (assign_listed c.cur_kind.ensures c.is_assignment_operator.ensures c.if-not-is_assignment_operator.false) (sym (c.is_array_or_object.ensures _ _ _ _ x.holds) ∙ c.if-is_array_or_object.true) n _ c.cur_start-start.ensures (k ∙ c.kept_so_far-kept.ensures)

pub returns-then-is_array_or_object-clause-answers : goal.returns-then-is_array_or_object-clause-answers
returns-then-is_array_or_object-clause-answers t c = λ text f a.
    let y = c.in_ok-left.ensures text f a in
    let x = shifted y (c.in_ok-operator_here.ensures text f y.answer.at) in
    c.parse_literal_assignment.ensures.answers text f _ a (c.requires.operand text f a) c.cur_start-start.ensures c.kept_so_far-kept.ensures x (sym (c.is_array_or_object.ensures _ _ _ _ x.holds) ∙ c.if-is_array_or_object.true)

pub cover-requires : goal.cover-requires
cover-requires t c = let x = c.in_ok-left.ensures _ _ c.requires.at in stood (shifted x (c.in_ok-operator_here.ensures _ _ x.answer.at))

pub refuse_target-requires-clause-at : goal.refuse_target-requires-clause-at
refuse_target-requires-clause-at t c = standing (c.in_ok-operator_here.ensures _ _ (c.in_ok-left.ensures _ _ c.requires.at).answer.at).at

pub refuse_target-requires-clause-start : goal.refuse_target-requires-clause-start
refuse_target-requires-clause-start t c =
    let x = shifted (c.in_ok-left.ensures _ _ c.requires.at) (c.in_ok-operator_here.ensures _ _ (c.in_ok-left.ensures _ _ c.requires.at).answer.at) in
    let a = x.answer.further in let s = c.cur_start-start.ensures in omega arith

pub refuse_target-requires-clause-marked : goal.refuse_target-requires-clause-marked
refuse_target-requires-clause-marked t c = λ k.
    let y = c.in_ok-left.ensures _ _ c.requires.at in
    let o = c.in_ok-operator_here.ensures _ _ y.answer.at in
    let x = shifted y o in
    assign_marked c.requires.at x.answer o.uncut (assign_listed c.cur_kind.ensures c.is_assignment_operator.ensures c.if-not-is_assignment_operator.false) (sym (c.is_array_or_object.ensures _ _ _ _ x.holds) ∙ c.if-is_array_or_object.false) (c.in_default.ensures _ _ _ _ x.holds) _ c.cur_start-start.ensures (k ∙ c.kept_so_far-kept.ensures)

pub returns-in_default-clause-answers : goal.returns-in_default-clause-answers
returns-in_default-clause-answers t c = λ text f a.
    let y = c.in_ok-left.ensures text f a in
    let o = c.in_ok-operator_here.ensures text f y.answer.at in
    let x = shifted y o in
    refused _ _ x.answer.at x.answer.same x.answer.verdict c.refuse_target.ensures (assign_refused x.answer (c.requires.operand text f a) o.uncut (assign_listed c.cur_kind.ensures c.is_assignment_operator.ensures c.if-not-is_assignment_operator.false) (inl (sym (c.is_array_or_object.ensures _ _ _ _ x.holds) ∙ c.if-is_array_or_object.false)) (c.in_default.ensures _ _ _ _ x.holds))

pub advance-requires-clause-at : goal.advance-requires-clause-at
advance-requires-clause-at t c = standing (c.in_ok-operator_here.ensures _ _ (c.in_ok-left.ensures _ _ c.requires.at).answer.at).at

pub advance-requires-clause-whole : goal.advance-requires-clause-whole
advance-requires-clause-whole t c = assign_whole (c.in_ok-operator_here.ensures _ _ (c.in_ok-left.ensures _ _ c.requires.at).answer.at) (assign_listed c.cur_kind.ensures c.is_assignment_operator.ensures c.if-not-is_assignment_operator.false)

pub assignment-requires : goal.assignment-requires
assignment-requires t c =
    let y = c.in_ok-left.ensures _ _ c.requires.at in
    let o = c.in_ok-operator_here.ensures _ _ y.answer.at in
    let x = (shifted y o).answer in
    let m = c.in_ok-advance.ensures _ _ o.at in
    let r = nested_room o.at m in
    let s = later_room (let a = x.further in let b = c.requires.at.behind in omega arith) x.same in
    c.requires.nests _ _ (standing m.at) (omega arith)

pub returns-in_err-right-clause-answers : goal.returns-in_err-right-clause-answers
returns-in_err-right-clause-answers t c = λ text f a.
    let p = err_from_is_err_and c.from_residual-in_err-right.result c.from_residual-in_err-right.ensures.1 in
    let y = c.in_ok-left.ensures text f a in
    let o = c.in_ok-operator_here.ensures text f y.answer.at in
    let x = shifted y o in
    let m = c.in_ok-advance.ensures text f o.at in
    let g = c.in-Some.ensures _ _ _ _ x.holds in
    rw (p.1, p.2) (stops_behind _ _ (same_both x.answer.same m.same) (λ g. after x.answer.verdict (grown_then m.kept g)) (λ n. right_fails x.answer (c.requires.operand text f a) o.uncut (assign_listed c.cur_kind.ensures c.is_assignment_operator.ensures c.if-not-is_assignment_operator.false) m g.tree g.is n) (c.in_err-right.ensures text f m.at))

pub end_span-span-requires : goal.end_span-span-requires
end_span-span-requires t c =
    let y = c.in_ok-left.ensures _ _ c.requires.at in
    let o = c.in_ok-operator_here.ensures _ _ y.answer.at in
    let x = (shifted y o).answer in
    let m = c.in_ok-advance.ensures _ _ o.at in
    let r = (c.in_ok-right.ensures _ _ m.at).answer in
    let a = x.further in let b = o.at.behind in let d = m.further in let e = m.at.behind in let g = r.further in let s = c.cur_start-start.ensures in omega arith

pub returns-clause-answers : goal.returns-clause-answers
returns-clause-answers t c = λ text f a.
    let y = c.in_ok-left.ensures text f a in
    let o = c.in_ok-operator_here.ensures text f y.answer.at in
    let x = shifted y o in
    let m = c.in_ok-advance.ensures text f o.at in
    assign_answers _ a (c.requires.operand text f a) x o.uncut (assign_listed c.cur_kind.ensures c.is_assignment_operator.ensures c.if-not-is_assignment_operator.false) (row_assign c.cur_kind-2.ensures c.map_assignment_operator-operator.ensures.row) m (c.in-Some.ensures _ _ _ _ x.holds) (c.in_ok-right.ensures text f m.at) (c.end_span-span.ensures.start ∙ c.cur_start-start.ensures) c.end_span-span.ensures.end c.in_ok-node.ensures

pub operator_here-requires : goal.operator_here-requires
operator_here-requires t c = standing (c.in_ok-left.ensures _ _ c.requires.at).answer.at

pub returns-in_err-left-clause-operand : goal.returns-in_err-left-clause-operand
returns-in_err-left-clause-operand t c = λ text f a i. let p = err_from_is_err_and c.from_residual.result c.from_residual.ensures.1 in rw (p.1, p.2) (operand_unread i _ _ a (c.in_err-left.ensures text f a))

pub returns-then-not-is_assignment_operator-clause-operand : goal.returns-then-not-is_assignment_operator-clause-operand
returns-then-not-is_assignment_operator-clause-operand t c = λ text f a i.
    let x = c.in_ok-left.ensures text f a in
    behind_operand i (shifted x (c.in_ok-operator_here.ensures text f x.answer.at)) _ _ c.parse_conditional_expression_rest.ensures.operand

pub returns-then-is_array_or_object-clause-operand : goal.returns-then-is_array_or_object-clause-operand
returns-then-is_array_or_object-clause-operand t c = λ text f a i.
    let x = c.in_ok-left.ensures text f a in
    behind_assign i (shifted x (c.in_ok-operator_here.ensures text f x.answer.at)) _ _ (assign_listed c.cur_kind.ensures c.is_assignment_operator.ensures c.if-not-is_assignment_operator.false) c.parse_literal_assignment.ensures.node

pub returns-in_default-clause-operand : goal.returns-in_default-clause-operand
returns-in_default-clause-operand t c = λ text f a i.
    let x = c.in_ok-left.ensures text f a in
    behind_assign i (shifted x (c.in_ok-operator_here.ensures text f x.answer.at)) c.args.p.now (Err _) (assign_listed c.cur_kind.ensures c.is_assignment_operator.ensures c.if-not-is_assignment_operator.false) tt

pub returns-in_err-right-clause-operand : goal.returns-in_err-right-clause-operand
returns-in_err-right-clause-operand t c = λ text f a i.
    let p = err_from_is_err_and c.from_residual-in_err-right.result c.from_residual-in_err-right.ensures.1 in
    let x = c.in_ok-left.ensures text f a in
    rw (p.1, p.2) (behind_assign i (shifted x (c.in_ok-operator_here.ensures text f x.answer.at)) c.args.p.now (Err _) (assign_listed c.cur_kind.ensures c.is_assignment_operator.ensures c.if-not-is_assignment_operator.false) tt)

pub returns-clause-operand : goal.returns-clause-operand
returns-clause-operand t c = λ text f a i.
    let x = c.in_ok-left.ensures text f a in
    behind_assign i (shifted x (c.in_ok-operator_here.ensures text f x.answer.at)) _ (Ok _) (assign_listed c.cur_kind.ensures c.is_assignment_operator.ensures c.if-not-is_assignment_operator.false) (made_no_target refl (λ cs. refl) c.in_ok-node.ensures)

pub returns-in_err-operator_here-clause-answers : goal.returns-in_err-operator_here-clause-answers
returns-in_err-operator_here-clause-answers t c = λ text f a. let p = err_from_is_err_and c.from_residual-in_err-operator_here.result c.from_residual-in_err-operator_here.ensures.1 in rw (p.1, p.2) (memory_stops _ _ _ _ c.in_err-operator_here.ensures)

pub returns-in_err-operator_here-clause-operand : goal.returns-in_err-operator_here-clause-operand
returns-in_err-operator_here-clause-operand t c = λ text f a i. let p = err_from_is_err_and c.from_residual-in_err-operator_here.result c.from_residual-in_err-operator_here.ensures.1 in rw (p.1, p.2) (operand_memory _ _ c.args.p.now c.args.p.now _ c.in_err-operator_here.ensures)

pub returns-in_err-advance-clause-answers : goal.returns-in_err-advance-clause-answers
returns-in_err-advance-clause-answers t c = λ text f a. let p = err_from_is_err_and c.from_residual-in_err-advance.result c.from_residual-in_err-advance.ensures.1 in rw (p.1, p.2) (memory_stops _ _ _ _ c.in_err-advance.ensures)

pub returns-in_err-advance-clause-operand : goal.returns-in_err-advance-clause-operand
returns-in_err-advance-clause-operand t c = λ text f a i. let p = err_from_is_err_and c.from_residual-in_err-advance.result c.from_residual-in_err-advance.ensures.1 in rw (p.1, p.2) (operand_memory _ _ c.args.p.now c.args.p.now _ c.in_err-advance.ensures)

pub returns-in_err-node-clause-answers : goal.returns-in_err-node-clause-answers
returns-in_err-node-clause-answers t c = λ text f a. let p = err_from_is_err_and c.from_residual-in_err-node.result c.from_residual-in_err-node.ensures.1 in rw (p.1, p.2) tt

pub returns-in_err-node-clause-operand : goal.returns-in_err-node-clause-operand
returns-in_err-node-clause-operand t c = λ text f a i. let p = err_from_is_err_and c.from_residual-in_err-node.result c.from_residual-in_err-node.ensures.1 in rw (p.1, p.2) tt
