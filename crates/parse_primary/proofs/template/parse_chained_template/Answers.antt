use Rattle.std.proofs.Common.{ap, arith, subst, sym, ◌∙◌}
use Rattle.std.proofs.lemmas.Result.{err_from_is_err_and}
use Rattle.js_base.specs.declared.diagnostic.Diagnostic.{Diagnostic}
use Rattle.js_grammar.specs.Marks.{Mark}
use Rattle.laws_primary.specs.js_cursor.Moves.{KeepsDiagnostic}
use Rattle.laws_primary.specs.js_cursor.Parsers.{Parser}
use Rattle.laws_primary.specs.js_cursor.Places.{goal as goal_of}
use Rattle.laws_primary.proofs.Templates.{template_marked, template_stops, template_tagged, template_told}
use Rattle.parse_primary.proofs.template.parse_chained_template.Goals as goal

pub returns-in_err-template-clause-read : goal.returns-in_err-template-clause-read
returns-in_err-template-clause-read g c =
    let p = err_from_is_err_and c.from_residual.result c.from_residual.ensures.1 in
    rw (p.1, p.2) (λ text f a. template_stops _ _ a c.requires.template (c.in_err-template.ensures text f a))

pub end_span-quoted-requires : goal.end_span-quoted-requires
end_span-quoted-requires g c = let x = (c.in_ok-template.ensures _ _ c.requires.at).read.answer.further in let s = c.cur_start-opening.ensures in omega arith

pub error-requires-clause-at : goal.error-requires-clause-at
error-requires-clause-at g c = (c.in_ok-template.ensures _ _ c.requires.at).read.answer.at.at

pub error-requires-clause-mark : goal.error-requires-clause-mark
error-requires-clause-mark g c =
    subst (λ (d : Diagnostic). Mark (goal_of c.parse_template_literal.new.p) c.parse_template_literal.new.p.text d) (sym c.diagnostic_at.ensures)
    (template_marked c.requires.at c.requires.template (c.in_ok-template.ensures _ _ c.requires.at) (c.end_span-quoted.ensures.start ∙ c.cur_start-opening.ensures) c.end_span-quoted.ensures.end)

pub end_span-span-requires : goal.end_span-span-requires
end_span-span-requires g c =
    let x = (c.in_ok-template.ensures _ _ c.requires.at).read.answer.further in
    let b = c.requires.at.behind in
    let s = c.requires.start in
    let e = ap (λ (z : Parser). z.prev_token_end) c.in_ok-error.ensures.is in
    omega arith

pub returns-clause-read : goal.returns-clause-read
returns-clause-read g c = λ text f a.
    template_tagged a c.requires.template (c.in_ok-template.ensures text f a)
    (subst (λ (d : Diagnostic). KeepsDiagnostic d c.parse_template_literal.new.p c.error.new.self) c.diagnostic_at.ensures c.in_ok-error.ensures)
    c.end_span-span.ensures.start c.end_span-span.ensures.end c.in_ok-node.ensures

pub returns-clause-told : goal.returns-clause-told
returns-clause-told g c =
    template_told c.end_span-quoted.result (c.in_ok-template.ensures _ _ c.requires.at)
    (subst (λ (d : Diagnostic). KeepsDiagnostic d c.parse_template_literal.new.p c.error.new.self) c.diagnostic_at.ensures c.in_ok-error.ensures)
    c.in_ok-node.ensures (c.end_span-quoted.ensures.start ∙ c.cur_start-opening.ensures) c.end_span-quoted.ensures.end
