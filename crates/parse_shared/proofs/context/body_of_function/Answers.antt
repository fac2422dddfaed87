use Rattle.std.proofs.Common.{ap, arith, refl}
use Rattle.std.proofs.lemmas.Result.{err_from_is_err_and}
use Rattle.js_grammar.specs.Productions.{Flags, at, body_of, Body}
use Rattle.laws_shared.specs.Nesting.{room}
use Rattle.laws_shared.proofs.Contexts.{function_body_at, out_of_context, stops_in_context}
use Rattle.laws_shared.proofs.Moving.{standing}
use Rattle.parse_shared.proofs.context.body_of_function.Goals as goal

pub body-requires : goal.body-requires
body-requires t c =
    let a = function_body_at c.requires.at c.context-outer.ensures c.and_in.ensures c.and_yield.ensures c.with_await-inner.ensures c.and_new_target.ensures c.and_return.ensures c.set_context.ensures in
    c.requires.nests _ _ (standing a, ap (λ (f : Flags). f.in_) a.flags_are) (let e = ap room c.set_context.ensures in omega arith)

pub returns-in_err-body : goal.returns-in_err-body
returns-in_err-body t c = λ text f a. let p = err_from_is_err_and c.from_residual.result c.from_residual.ensures.1 in rw (p.1, p.2) (stops_in_context text (at Body (body_of c.args.is_async c.args.is_generator f)) _ _ _ _ _ a.at c.set_context.ensures (c.in_err-body.ensures text _ (function_body_at a c.context-outer.ensures c.and_in.ensures c.and_yield.ensures c.with_await-inner.ensures c.and_new_target.ensures c.and_return.ensures c.set_context.ensures)))

pub returns : goal.returns
returns t c = λ text f a. out_of_context refl a c.context-outer.ensures c.set_context.ensures (c.in_ok-body.ensures text _ (function_body_at a c.context-outer.ensures c.and_in.ensures c.and_yield.ensures c.with_await-inner.ensures c.and_new_target.ensures c.and_return.ensures c.set_context.ensures)) c.set_context-2.ensures
