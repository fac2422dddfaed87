use Rattle.std.proofs.Common.{◌∙◌, ap, arith, refl, sym}
use Rattle.std.proofs.lemmas.Result.{err_from_is_err_and}
use Rattle.std.specs.Prelude.{◌∷◌, []}
use Rattle.js_base.specs.declared.kind.Kind.TheVariants.{At, Dot, LParen}
use Rattle.js_base.specs.Kinds.{one_of_kinds}
use Rattle.parse_shared.proofs.laws_shared.Moving.{standing}
use Rattle.parse_shared.proofs.laws_shared.Nesting.{nested_room, nests_later}
use Rattle.parse_shared.proofs.laws_shared.Signs.{whole_sign}
use Rattle.parse_primary.proofs.laws_primary.DecoratorMembers.{decorator_answers, decorator_stops, form_stops}
use Rattle.parse_members.proofs.decorator.parse_decorator.Goals as goal

pub advance-requires-clause-whole : goal.advance-requires-clause-whole
advance-requires-clause-whole t c = whole_sign At c.requires.at c.requires.sign refl refl

pub parse_decorator_expression-requires-clause-at : goal.parse_decorator_expression-requires-clause-at
parse_decorator_expression-requires-clause-at t c = standing (c.in_ok-advance.ensures _ _ c.requires.at).at

pub parse_decorator_expression-requires-clause-nests : goal.parse_decorator_expression-requires-clause-nests
parse_decorator_expression-requires-clause-nests t c = nests_later c.requires.nests (let r = nested_room c.requires.at (c.in_ok-advance.ensures _ _ c.requires.at) in omega arith)

pub returns-in_err-expression : goal.returns-in_err-expression
returns-in_err-expression t c = λ text f a.
    let p = err_from_is_err_and c.from_residual-in_err-expression.result c.from_residual-in_err-expression.ensures.1 in
    let m = c.in_ok-advance.ensures text f a in
    rw (p.1, p.2) (decorator_stops a c.requires.sign m _ _ (c.in_err-expression.ensures text f m.at))

pub refuse_form-requires : goal.refuse_form-requires
refuse_form-requires t c = standing (c.in_ok-expression.ensures _ _ (c.in_ok-advance.ensures _ _ c.requires.at).at).at

pub returns-then-goes_on : goal.returns-then-goes_on
returns-then-goes_on t c = λ text f a.
    let m = c.in_ok-advance.ensures text f a in
    form_stops a c.requires.sign m (c.in_ok-expression.ensures text f m.at) (ap (one_of_kinds (LParen ∷ Dot ∷ [])) (sym c.cur_kind.ensures) ∙ (sym c.goes_on.ensures ∙ c.if-goes_on.true)) _ c.refuse_form.result c.refuse_form.ensures

pub end_span-span-requires : goal.end_span-span-requires
end_span-span-requires t c =
    let m = c.in_ok-advance.ensures _ _ c.requires.at in
    let x = c.in_ok-expression.ensures _ _ m.at in
    let s = c.cur_start-start.ensures in let i = m.further in let j = m.at.behind in let k = x.further in omega arith

pub returns : goal.returns
returns t c = λ text f a.
    let m = c.in_ok-advance.ensures text f a in
    decorator_answers a c.requires.sign m (c.in_ok-expression.ensures text f m.at) (ap (one_of_kinds (LParen ∷ Dot ∷ [])) (sym c.cur_kind.ensures) ∙ (sym c.goes_on.ensures ∙ c.if-goes_on.false)) (c.end_span-span.ensures.start ∙ c.cur_start-start.ensures) c.end_span-span.ensures.end c.in_ok-node.ensures
