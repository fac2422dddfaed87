use Rattle.std.proofs.Common.{arith, refl, ◌∙◌}
use Rattle.std.proofs.lemmas.Result.{err_from_is_err_and}
use Rattle.parse_shared.proofs.laws_shared.Moving.{standing, stops_so}
use Rattle.laws_operators.proofs.Refusals.{postfix_marked, update_listed, stood, update_some_at, both_of, none_behind, row_update}
use Rattle.parse_targets.proofs.Refused.{refused}
use Rattle.laws_operators.proofs.Updates.{nothing_read, left_alone, postfix_answers, postfix_fails, update_plain}
use Rattle.parse_shared.proofs.laws_shared.Here.{uncut}
use Rattle.parse_operators.proofs.update.parse_update_expression.Goals as goal

pub parse_prefix_update-requires-clause-operator : goal.parse_prefix_update-requires-clause-operator
parse_prefix_update-requires-clause-operator t c = update_listed c.cur_kind.ensures c.is_update_operator.ensures c.if-is_update_operator.true

pub returns-in_err-operand : goal.returns-in_err-operand
returns-in_err-operand t c = λ text f a. let p = err_from_is_err_and c.from_residual.result c.from_residual.ensures.1 in rw (p.1, p.2) (stops_so _ _ _ (λ z. nothing_read a (update_listed c.cur_kind.ensures c.is_update_operator.ensures c.if-is_update_operator.false) z) (c.in_err-operand.ensures text f a))

pub returns-then-not-stands_behind : goal.returns-then-not-stands_behind
returns-then-not-stands_behind t c = λ text f a. let x = c.in_ok-operand.ensures text f a in left_alone a (update_listed c.cur_kind.ensures c.is_update_operator.ensures c.if-is_update_operator.false) x (none_behind x.answer.at c.stands_behind.ensures c.if-not-stands_behind.true)

pub map_update_operator-operator-requires : goal.map_update_operator-operator-requires
map_update_operator-operator-requires t c = update_some_at c.cur_kind-2.ensures (both_of _ _ c.stands_behind.ensures c.if-not-stands_behind.false).1

pub cover-requires : goal.cover-requires
cover-requires t c = stood (c.in_ok-operand.ensures _ _ c.requires.at)

pub refuse_target-requires-clause-at : goal.refuse_target-requires-clause-at
refuse_target-requires-clause-at t c = standing (c.in_ok-operand.ensures _ _ c.requires.at).answer.at

pub refuse_target-requires-clause-start : goal.refuse_target-requires-clause-start
refuse_target-requires-clause-start t c = let x = (c.in_ok-operand.ensures _ _ c.requires.at).answer.further in let s = c.cur_start-start.ensures in omega arith

pub refuse_target-requires-clause-marked : goal.refuse_target-requires-clause-marked
refuse_target-requires-clause-marked t c = λ k.
    let x = c.in_ok-operand.ensures _ _ c.requires.at in
    let b = both_of _ _ c.stands_behind.ensures c.if-not-stands_behind.false in
    postfix_marked c.requires.at x.answer b.1 b.0 (c.in_default.ensures _ _ _ _ x.holds) _ c.cur_start-start.ensures (k ∙ c.kept_so_far-kept.ensures)

pub returns-in_default : goal.returns-in_default
returns-in_default t c = λ text f a.
    let x = c.in_ok-operand.ensures text f a in
    let b = both_of _ _ c.stands_behind.ensures c.if-not-stands_behind.false in
    refused _ _ x.answer.at x.answer.same x.answer.verdict c.refuse_target.ensures (postfix_fails a (update_listed c.cur_kind.ensures c.is_update_operator.ensures c.if-is_update_operator.false) x.answer b.0 _ b.1 refl (c.in_default.ensures _ _ _ _ x.holds))

pub advance-requires-clause-at : goal.advance-requires-clause-at
advance-requires-clause-at t c = standing (c.in_ok-operand.ensures _ _ c.requires.at).answer.at

pub advance-requires-clause-whole : goal.advance-requires-clause-whole
advance-requires-clause-whole t c =
    let x = (c.in_ok-operand.ensures _ _ c.requires.at).answer in
    let b = both_of _ _ c.stands_behind.ensures c.if-not-stands_behind.false in
    let u = update_plain _ b.1 in (uncut x.at u.1, u.2)

pub end_span-span-requires : goal.end_span-span-requires
end_span-span-requires t c =
    let x = (c.in_ok-operand.ensures _ _ c.requires.at).answer in
    let m = c.in_ok-advance.ensures _ _ x.at in
    let a = x.further in let b = x.at.behind in let d = m.further in let s = c.cur_start-start.ensures in omega arith

pub returns : goal.returns
returns t c = λ text f a.
    let x = c.in_ok-operand.ensures text f a in
    let b = both_of _ _ c.stands_behind.ensures c.if-not-stands_behind.false in
    let m = c.in_ok-advance.ensures text f x.answer.at in
    postfix_answers _ a (update_listed c.cur_kind.ensures c.is_update_operator.ensures c.if-is_update_operator.false) x b.0 b.1 (row_update c.cur_kind-2.ensures c.map_update_operator-operator.ensures.row) m (c.in-Some.ensures _ _ _ _ x.holds) (c.end_span-span.ensures.start ∙ c.cur_start-start.ensures) c.end_span-span.ensures.end c.in_ok-node.ensures
