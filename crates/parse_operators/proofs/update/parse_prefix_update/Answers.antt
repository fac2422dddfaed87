use Rattle.std.proofs.Common.{arith, refl, ◌∙◌}
use Rattle.std.proofs.lemmas.Result.{err_from_is_err_and}
use Rattle.parse_shared.proofs.laws_shared.Signs.{plain_sign, whole_sign}
use Rattle.parse_shared.proofs.laws_shared.Giving.{gives_up_here}
use Rattle.parse_shared.proofs.laws_shared.Moving.{standing, stops_behind, same_both}
use Rattle.parse_shared.proofs.laws_shared.Nesting.{nested_room}
use Rattle.laws_operators.proofs.Refusals.{prefix_marked, refused_behind, stood, row_update}
use Rattle.laws_operators.proofs.Updates.{no_operand, wrong_operand, prefix_answers, update_plain}
use Rattle.parse_shared.proofs.laws_shared.Verdicts.{after, grown_then}
use Rattle.parse_operators.proofs.update.parse_prefix_update.Goals as goal

pub unary-requires : goal.unary-requires
unary-requires t c = let m = c.in_ok-advance.ensures _ _ c.requires.at in c.requires.nests _ _ (standing m.at) (nested_room c.requires.at m)

pub returns-in_err-operand : goal.returns-in_err-operand
returns-in_err-operand t c = λ text f a.
    let p = err_from_is_err_and c.from_residual-in_err-operand.result c.from_residual-in_err-operand.ensures.1 in
    let m = c.in_ok-advance.ensures text f a in
    let u = update_plain _ c.requires.operator in
    rw (p.1, p.2) (stops_behind _ _ m.same (λ g. grown_then m.kept g) (no_operand a _ c.requires.operator refl (plain_sign _ a refl u.1 u.2 u.0) m) (c.in_err-operand.ensures text f m.at))

pub cover-requires : goal.cover-requires
cover-requires t c = let m = c.in_ok-advance.ensures _ _ c.requires.at in stood (c.in_ok-operand.ensures _ _ m.at)

pub ends_operand-requires : goal.ends_operand-requires
ends_operand-requires t c = let m = c.in_ok-advance.ensures _ _ c.requires.at in standing (c.in_ok-operand.ensures _ _ m.at).answer.at

pub set_unexpected-requires : goal.set_unexpected-requires
set_unexpected-requires t c = let m = c.in_ok-advance.ensures _ _ c.requires.at in (c.in_ok-ends_operand.ensures _ _ (c.in_ok-operand.ensures _ _ m.at).answer.at).at.at

pub returns-then-not-branch : goal.returns-then-not-branch
returns-then-not-branch t c = λ text f a.
    let m = c.in_ok-advance.ensures text f a in
    let x = c.in_ok-operand.ensures text f m.at in
    let o = c.in_ok-ends_operand.ensures text f x.answer.at in
    let u = update_plain _ c.requires.operator in
    stops_behind _ _ (same_both m.same (same_both x.answer.same o.same)) (λ g. grown_then m.kept (after x.answer.verdict (grown_then o.kept g))) (λ n. n) (gives_up_here _ _ c.set_unexpected.result o.at c.set_unexpected.ensures (wrong_operand a _ c.requires.operator refl (plain_sign _ a refl u.1 u.2 u.0) m x.answer (c.in_default.ensures _ _ _ _ x.holds)))

pub refuse_target-requires-clause-at : goal.refuse_target-requires-clause-at
refuse_target-requires-clause-at t c = let m = c.in_ok-advance.ensures _ _ c.requires.at in standing (c.in_ok-ends_operand.ensures _ _ (c.in_ok-operand.ensures _ _ m.at).answer.at).at

pub refuse_target-requires-clause-start : goal.refuse_target-requires-clause-start
refuse_target-requires-clause-start t c =
    let m = c.in_ok-advance.ensures _ _ c.requires.at in
    let x = (c.in_ok-operand.ensures _ _ m.at).answer in
    let o = (c.in_ok-ends_operand.ensures _ _ x.at).place in
    let a = x.further in let s = c.cur_start-operand_start.ensures in omega arith

pub refuse_target-requires-clause-marked : goal.refuse_target-requires-clause-marked
refuse_target-requires-clause-marked t c = λ k.
    let m = c.in_ok-advance.ensures _ _ c.requires.at in
    let x = c.in_ok-operand.ensures _ _ m.at in
    let o = c.in_ok-ends_operand.ensures _ _ x.answer.at in
    prefix_marked c.requires.at c.requires.operator m x.answer o c.if-not-branch.false (c.in_default.ensures _ _ _ _ x.holds) _ c.cur_start-operand_start.ensures (k ∙ c.kept_so_far-kept.ensures)

pub returns-in_default : goal.returns-in_default
returns-in_default t c = λ text f a.
    let m = c.in_ok-advance.ensures text f a in
    let x = c.in_ok-operand.ensures text f m.at in
    let o = c.in_ok-ends_operand.ensures text f x.answer.at in
    let u = update_plain _ c.requires.operator in
    stops_behind _ _ m.same (λ g. grown_then m.kept g) (λ n. n) (refused_behind _ _ x.answer.same x.answer.verdict o c.refuse_target.ensures (wrong_operand a _ c.requires.operator refl (plain_sign _ a refl u.1 u.2 u.0) m x.answer (c.in_default.ensures _ _ _ _ x.holds)))

pub end_span-span-requires : goal.end_span-span-requires
end_span-span-requires t c =
    let m = c.in_ok-advance.ensures _ _ c.requires.at in
    let x = (c.in_ok-operand.ensures _ _ m.at).answer in
    let a = m.further in let b = x.further in let d = m.at.behind in let s = c.cur_start-start.ensures in omega arith

pub returns : goal.returns
returns t c = λ text f a.
    let m = c.in_ok-advance.ensures text f a in
    let x = c.in_ok-operand.ensures text f m.at in
    prefix_answers _ a c.requires.operator (row_update c.cur_kind.ensures c.map_update_operator-operator.ensures.row) m x (c.in-Some.ensures _ _ _ _ x.holds) (c.end_span-span.ensures.start ∙ c.cur_start-start.ensures) c.end_span-span.ensures.end c.in_ok-node.ensures

pub advance-requires-clause-whole : goal.advance-requires-clause-whole
advance-requires-clause-whole t c = let u = update_plain _ c.requires.operator in whole_sign _ c.requires.at refl u.1 u.2
