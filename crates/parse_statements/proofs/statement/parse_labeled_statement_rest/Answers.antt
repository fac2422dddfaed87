use Rattle.std.proofs.Common.{◌∙◌, ap, arith, refl}
use Rattle.std.proofs.lemmas.Result.{err_from_is_err_and}
use Rattle.js_base.specs.Contexts.{has_flag, in_flag}
use Rattle.js_base.specs.declared.kind.Kind.TheVariants.{Colon}
use Rattle.js_base.specs.declared.span.Span.{Span}
use Rattle.parse_shared.specs.js_cursor.Parsers.{Parser}
use Rattle.parse_shared.proofs.laws_shared.Giving.{memory_stops}
use Rattle.parse_shared.proofs.laws_shared.Signs.{whole_sign}
use Rattle.parse_control.proofs.laws_statements.Labels.{made_at, made_colon, made_room, made_in, label_stops, label_answers}
use Rattle.parse_shared.proofs.laws_shared.Moving.{standing}
use Rattle.parse_shared.proofs.laws_shared.Nesting.{nested_room}
use Rattle.parse_statements.proofs.statement.parse_labeled_statement_rest.Goals as goal

pub advance-requires-clause-at : goal.advance-requires-clause-at
advance-requires-clause-at t c = standing (made_at c.requires.at c.in_ok-label.ensures)

pub advance-requires-clause-whole : goal.advance-requires-clause-whole
advance-requires-clause-whole t c = whole_sign Colon (made_at c.requires.at c.in_ok-label.ensures) (made_colon c.requires.colon c.in_ok-label.ensures) refl refl

pub returns-in_err-advance : goal.returns-in_err-advance
returns-in_err-advance t c = λ text f first id a e x i b.
    let p = err_from_is_err_and c.from_residual-in_err-advance.result c.from_residual-in_err-advance.ensures.1 in
    rw (p.1, p.2) (memory_stops _ _ _ _ c.in_err-advance.ensures)

pub statement-requires : goal.statement-requires
statement-requires t c =
    let d = c.in_ok-label.ensures in
    let a = made_at c.requires.at d in
    let m = c.in_ok-advance.ensures _ _ a in
    let r = nested_room a m in let s = made_room d in
    c.requires.nests _ _ (standing m.at, ap (has_flag in_flag) m.same.ctx ∙ made_in c.requires.allows_in d) (omega arith)

pub returns-in_err-body : goal.returns-in_err-body
returns-in_err-body t c = λ text f first id a e x i b.
    let p = err_from_is_err_and c.from_residual-in_err-body.result c.from_residual-in_err-body.ensures.1 in
    let d = c.in_ok-label.ensures in
    let m = c.in_ok-advance.ensures text f (made_at x.answer.at d) in
    rw (p.1, p.2) (label_stops a x i e d m b _ _ (c.in_err-body.ensures text f m.at))

pub end_span-span-requires : goal.end_span-span-requires
end_span-span-requires t c =
    let d = c.in_ok-label.ensures in
    let a = made_at c.requires.at d in
    let m = c.in_ok-advance.ensures _ _ a in
    let y = c.in_ok-body.ensures _ _ m.at in
    let u = c.start-start.ensures in let i = c.requires.start in let j = a.behind in let k = m.further in let l = m.at.behind in let n = y.further in let s = ap (λ (q : Parser). q.prev_token_end) d.stays in omega arith

pub returns : goal.returns
returns t c = λ text f first id a e x i b.
    let d = c.in_ok-label.ensures in
    let m = c.in_ok-advance.ensures text f (made_at x.answer.at d) in
    label_answers a x i e d m b _ (c.in_ok-body.ensures text f m.at) (c.end_span-span.ensures.start ∙ (c.start-start.ensures ∙ ap (λ (s : Span). s.start) e)) c.end_span-span.ensures.end c.in_ok-node.ensures
