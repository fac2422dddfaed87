use Rattle.std.proofs.Common.{ap, arith, refl}
use Rattle.std.proofs.lemmas.Result.{err_from_is_err_and}
use Rattle.js_grammar.specs.Productions.{at, field_of, Assignment}
use Rattle.laws_classes.specs.laws_primary.laws_shared.Nesting.{room}
use Rattle.laws_classes.proofs.laws_primary.laws_shared.Contexts.{out_of_context, params_at, stops_in_context}
use Rattle.laws_classes.proofs.laws_primary.laws_shared.Moving.{standing}
use Rattle.parse_classes.proofs.field.assignment_in_field.Goals as goal

pub element-requires : goal.element-requires
element-requires t c = c.requires.nests _ _ (standing (params_at c.requires.at c.context-outer.ensures c.in_field.ensures c.set_context.ensures)) (let e = ap room c.set_context.ensures in omega arith)

pub returns-in_err-value : goal.returns-in_err-value
returns-in_err-value t c = λ text f a. let p = err_from_is_err_and c.from_residual.result c.from_residual.ensures.1 in rw (p.1, p.2) (stops_in_context text (at Assignment (field_of f)) _ _ _ _ _ a.at c.set_context.ensures (c.in_err-value.ensures text _ (params_at a c.context-outer.ensures c.in_field.ensures c.set_context.ensures)))

pub returns : goal.returns
returns t c = λ text f a. out_of_context refl a c.context-outer.ensures c.set_context.ensures (c.in_ok-value.ensures text _ (params_at a c.context-outer.ensures c.in_field.ensures c.set_context.ensures)) c.set_context-2.ensures
