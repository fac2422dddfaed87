use Rattle.std.proofs.Common.{ap, arith, refl}
use Rattle.std.proofs.lemmas.Result.{err_from_is_err_and}
use Rattle.js_grammar.specs.Productions.{params_of}
use Rattle.laws_shared.specs.Methods.{parameters_of}
use Rattle.laws_shared.specs.Nesting.{room}
use Rattle.laws_shared.proofs.Contexts.{params_at, whole_out_of_context, whole_stops_in_context}
use Rattle.laws_shared.proofs.Moving.{standing}
use Rattle.parse_shared.proofs.context.parameters_in_method.Goals as goal

pub method_parameters-requires : goal.method_parameters-requires
method_parameters-requires t c = c.requires.nests _ _ (standing (params_at c.requires.at c.context-outer.ensures c.in_method.ensures c.set_context.ensures)) (let e = ap room c.set_context.ensures in omega arith)

pub returns-in_err-parameters : goal.returns-in_err-parameters
returns-in_err-parameters t c = λ text f a. let p = err_from_is_err_and c.from_residual.result c.from_residual.ensures.1 in rw (p.1, p.2) (whole_stops_in_context text (parameters_of c.args.form (params_of c.args.is_async c.args.generator f)) _ _ _ _ _ a.at c.set_context.ensures (c.in_err-parameters.ensures text _ (params_at a c.context-outer.ensures c.in_method.ensures c.set_context.ensures)))

pub returns : goal.returns
returns t c = λ text f a. whole_out_of_context refl a c.context-outer.ensures c.set_context.ensures (c.in_ok-parameters.ensures text _ (params_at a c.context-outer.ensures c.in_method.ensures c.set_context.ensures)) c.set_context-2.ensures
