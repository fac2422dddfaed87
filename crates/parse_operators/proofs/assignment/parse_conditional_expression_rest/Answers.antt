use Rattle.laws_operators.proofs.HeadOperands.{made_no_target}
use Rattle.std.proofs.Common.{◌≡◌, arith, refl, sym, ap, ◌∙◌, subst, inl, inr}
use Rattle.std.proofs.lemmas.Bool.{false≢true}
use Rattle.std.proofs.lemmas.Result.{err_from_is_err_and}
use Rattle.js_base.specs.declared.kind.Kind.TheVariants.{Question}
use Rattle.js_base.specs.declared.span.Span.{Span}
use Rattle.js_base.specs.declared.token.Token.{Token}
use Rattle.laws_operators.specs.Rests.{Asked}
use Rattle.laws_operators.proofs.Conditionals.{test_alone, no_assign_here, asked_here, asked_later, first_fails, colon_fails, colon_missing, second_fails, conditional_answers}
use Rattle.parse_shared.proofs.laws_shared.Signs.{other_kind, plain_sign}
use Rattle.parse_shared.proofs.laws_shared.Moving.{standing, stops_behind, same_both}
use Rattle.parse_shared.proofs.laws_shared.Nesting.{nested_room, nests_later, later_room}
use Rattle.parse_shared.proofs.laws_shared.Verdicts.{after, grown_then}
use Rattle.parse_shared.proofs.laws_shared.PlainSigns.{question_plain}
use Rattle.parse_operators.proofs.assignment.parse_conditional_expression_rest.Goals as goal

pub returns-then-not-at-clause-answers : goal.returns-then-not-at-clause-answers
returns-then-not-at-clause-answers t c = λ text f first a na e x. test_alone na x (other_kind Question _ (λ k. false≢true (sym c.if-not-at.true ∙ c.at.ensures.1 k))) (no_assign_here x.answer.at c.requires.whole c.requires.unassigned)

pub assignment_with_in-requires-clause-at : goal.assignment_with_in-requires-clause-at
assignment_with_in-requires-clause-at t c = standing (c.in_ok-advance.ensures _ _ c.requires.at).at

pub assignment_with_in-requires-clause-nests : goal.assignment_with_in-requires-clause-nests
assignment_with_in-requires-clause-nests t c = nests_later c.requires.nests (let r = nested_room c.requires.at (c.in_ok-advance.ensures _ _ c.requires.at) in omega arith)

pub returns-in_err-consequent-clause-answers : goal.returns-in_err-consequent-clause-answers
returns-in_err-consequent-clause-answers t c = λ text f first a na e x.
    let p = err_from_is_err_and c.from_residual-in_err-consequent.result c.from_residual-in_err-consequent.ensures.1 in
    let m = c.in_ok-advance.ensures text f x.answer.at in
    rw (p.1, p.2) (stops_behind _ _ (same_both x.answer.same m.same) (λ g. after x.answer.verdict (grown_then m.kept g)) (λ n. first_fails x.answer na (c.at.ensures.0 c.if-not-at.false) m n) (c.in_err-consequent.ensures text f m.at))

pub expect_conditional_alternative-requires-clause-at : goal.expect_conditional_alternative-requires-clause-at
expect_conditional_alternative-requires-clause-at t c =
    let m = c.in_ok-advance.ensures _ _ c.requires.at in
    standing (c.in_ok-consequent.ensures _ _ m.at).answer.at

pub expect_conditional_alternative-requires-clause-asked : goal.expect_conditional_alternative-requires-clause-asked
expect_conditional_alternative-requires-clause-asked t c =
    let m = c.in_ok-advance.ensures _ _ c.requires.at in
    let x = (c.in_ok-consequent.ensures _ _ m.at).answer in
    let k : c.args.p.now.token.kind ≡ Question = c.at.ensures.0 c.if-not-at.false in
    asked_later x.same (let a = x.further in let b = m.at.behind in omega arith) (subst (λ (s : Span). Asked c.advance.new.p s) (sym (c.span-question.ensures ∙ ap (λ (t : Token). t.span) c.cur_token.ensures)) (asked_here c.requires.at k (plain_sign Question c.requires.at k refl refl question_plain) m))

pub returns-in_err-expect_conditional_alternative-clause-answers : goal.returns-in_err-expect_conditional_alternative-clause-answers
returns-in_err-expect_conditional_alternative-clause-answers t c = λ text f first a na e x.
    let p = err_from_is_err_and c.from_residual-in_err-expect_conditional_alternative.result c.from_residual-in_err-expect_conditional_alternative.ensures.1 in
    let m = c.in_ok-advance.ensures text f x.answer.at in
    let y = c.in_ok-consequent.ensures text f m.at in
    rw (p.1, p.2) (stops_behind _ _ (same_both x.answer.same (same_both m.same y.answer.same)) (λ g. after x.answer.verdict (grown_then m.kept (after y.answer.verdict g))) (λ n. colon_fails x.answer na (c.at.ensures.0 c.if-not-at.false) m y.answer n) (colon_missing _ _ _ y.answer.at c.in_err-expect_conditional_alternative.ensures))

pub assignment-requires : goal.assignment-requires
assignment-requires t c =
    let m = c.in_ok-advance.ensures _ _ c.requires.at in
    let y = (c.in_ok-consequent.ensures _ _ m.at).answer in
    let d = c.in_ok-expect_conditional_alternative.ensures.1 _ _ y.at in
    let r = nested_room c.requires.at m in
    let s = later_room (let a = y.further in let b = m.at.behind in omega arith) y.same in
    let u = nested_room y.at d in
    c.requires.nests _ _ (standing d.at) (omega arith)

pub returns-in_err-alternate-clause-answers : goal.returns-in_err-alternate-clause-answers
returns-in_err-alternate-clause-answers t c = λ text f first a na e x.
    let p = err_from_is_err_and c.from_residual-in_err-alternate.result c.from_residual-in_err-alternate.ensures.1 in
    let m = c.in_ok-advance.ensures text f x.answer.at in
    let y = c.in_ok-consequent.ensures text f m.at in
    let k = c.in_ok-expect_conditional_alternative.ensures in
    let d = k.1 text f y.answer.at in
    rw (p.1, p.2) (stops_behind _ _ (same_both x.answer.same (same_both m.same (same_both y.answer.same d.same))) (λ g. after x.answer.verdict (grown_then m.kept (after y.answer.verdict (grown_then d.kept g)))) (λ n. second_fails x.answer na (c.at.ensures.0 c.if-not-at.false) m y.answer k.0 d n) (c.in_err-alternate.ensures text f d.at))

pub end_span-span-requires : goal.end_span-span-requires
end_span-span-requires t c =
    let m = c.in_ok-advance.ensures _ _ c.requires.at in
    let y = (c.in_ok-consequent.ensures _ _ m.at).answer in
    let d = c.in_ok-expect_conditional_alternative.ensures.1 _ _ y.at in
    let z = (c.in_ok-alternate.ensures _ _ d.at).answer in
    let s = c.requires.start in let b = c.requires.at.behind in let e = m.further in let g = m.at.behind in let h = y.further in let i = y.at.behind in let j = d.further in let k = d.at.behind in let l = z.further in omega arith

pub returns-clause-answers : goal.returns-clause-answers
returns-clause-answers t c = λ text f first a na e x.
    let m = c.in_ok-advance.ensures text f x.answer.at in
    let y = c.in_ok-consequent.ensures text f m.at in
    let k = c.in_ok-expect_conditional_alternative.ensures in
    let d = k.1 text f y.answer.at in
    conditional_answers _ a na x (c.at.ensures.0 c.if-not-at.false) m y k.0 d (c.in_ok-alternate.ensures text f d.at) (c.end_span-span.ensures.start ∙ e) c.end_span-span.ensures.end c.in_ok-node.ensures

pub returns-then-not-at-clause-operand : goal.returns-then-not-at-clause-operand
returns-then-not-at-clause-operand t c = inl (refl, refl)

pub returns-in_err-advance-clause-operand : goal.returns-in_err-advance-clause-operand
returns-in_err-advance-clause-operand t c = let p = err_from_is_err_and c.from_residual.result c.from_residual.ensures.1 in rw (p.1) (c.at.ensures.0 c.if-not-at.false)

pub returns-in_err-consequent-clause-operand : goal.returns-in_err-consequent-clause-operand
returns-in_err-consequent-clause-operand t c = let p = err_from_is_err_and c.from_residual-in_err-consequent.result c.from_residual-in_err-consequent.ensures.1 in rw (p.1) (c.at.ensures.0 c.if-not-at.false)

pub returns-in_err-expect_conditional_alternative-clause-operand : goal.returns-in_err-expect_conditional_alternative-clause-operand
returns-in_err-expect_conditional_alternative-clause-operand t c = let p = err_from_is_err_and c.from_residual-in_err-expect_conditional_alternative.result c.from_residual-in_err-expect_conditional_alternative.ensures.1 in rw (p.1) (c.at.ensures.0 c.if-not-at.false)

pub returns-in_err-alternate-clause-operand : goal.returns-in_err-alternate-clause-operand
returns-in_err-alternate-clause-operand t c = let p = err_from_is_err_and c.from_residual-in_err-alternate.result c.from_residual-in_err-alternate.ensures.1 in rw (p.1) (c.at.ensures.0 c.if-not-at.false)

pub returns-clause-operand : goal.returns-clause-operand
returns-clause-operand t c = inr (c.at.ensures.0 c.if-not-at.false, made_no_target refl (λ cs. refl) c.in_ok-node.ensures)
