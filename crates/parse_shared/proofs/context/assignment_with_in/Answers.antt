use Rattle.std.proofs.Common.{ap, arith, refl}
use Rattle.std.proofs.lemmas.Result.{err_from_is_err_and}
use Rattle.js_grammar.specs.Productions.{at, plus_in, Assignment}
use Rattle.laws_shared.specs.Nesting.{room}
use Rattle.laws_shared.proofs.Contexts.{in_at, out_of_context, stops_in_context}
use Rattle.laws_shared.proofs.Moving.{standing}
use Rattle.parse_shared.proofs.context.assignment_with_in.Goals as goal

pub element-requires : goal.element-requires
element-requires t c = c.requires.nests _ _ (standing (in_at c.requires.at c.context-outer.ensures c.and_in.ensures c.set_context.ensures)) (let e = ap room c.set_context.ensures in omega arith)

pub returns-in_err-assignment : goal.returns-in_err-assignment
returns-in_err-assignment t c = λ text f a. let p = err_from_is_err_and c.from_residual.result c.from_residual.ensures.1 in rw (p.1, p.2) (stops_in_context text (at Assignment (plus_in f)) _ _ _ _ _ a.at c.set_context.ensures (c.in_err-assignment.ensures text _ (in_at a c.context-outer.ensures c.and_in.ensures c.set_context.ensures)))

pub returns : goal.returns
returns t c = λ text f a. out_of_context refl a c.context-outer.ensures c.set_context.ensures (c.in_ok-assignment.ensures text _ (in_at a c.context-outer.ensures c.and_in.ensures c.set_context.ensures)) c.set_context-2.ensures
