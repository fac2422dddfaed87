use Rattle.std.proofs.Common.{ap, arith, refl, ◌∙◌}
use Rattle.std.proofs.lemmas.Result.{err_from_is_err_and}
use Rattle.js_base.specs.declared.diagnostic.Diagnostic.{Diagnostic}
use Rattle.js_base.specs.declared.diagnostic.DiagnosticKind.TheVariants.{ClassDeclaration}
use Rattle.js_base.specs.Diagnostics.{class_of}
use Rattle.parse_shared.proofs.laws_shared.Moving.{stops_so}
use Rattle.parse_control.proofs.laws_statements.ClassStatements.{class_stood, class_told, no_class_body}
use Rattle.parse_declarations.proofs.SpansMarked.{span_marked}
use Rattle.parse_statements.proofs.class_statement.parse_class_as_body.Goals as goal

pub returns-in_err-class : goal.returns-in_err-class
returns-in_err-class g c = λ text f a. let p = err_from_is_err_and c.from_residual.result c.from_residual.ensures.1 in rw (p.1, p.2) (stops_so _ _ _ (λ n. no_class_body a c.requires.class) (c.in_err-class.ensures.taken text f a))

pub end_span-span-requires : goal.end_span-span-requires
end_span-span-requires g c = let x = (c.in_ok-class.ensures.taken _ _ c.requires.at).answer in let i = x.further in let s = c.cur_start-start.ensures in omega arith

pub error-requires-clause-at : goal.error-requires-clause-at
error-requires-clause-at g c = (c.in_ok-class.ensures.taken _ _ c.requires.at).answer.at.at

pub error-requires-clause-mark : goal.error-requires-clause-mark
error-requires-clause-mark g c =
    let x = (c.in_ok-class.ensures.taken _ _ c.requires.at).answer in
    span_marked c.requires.at (class_stood c.requires.at c.requires.class) x.at x.same x.walked x.further ClassDeclaration _ c.diagnostic_at.ensures (λ s i j. ((i, j), (refl, refl))) (c.end_span-span.ensures.start ∙ c.cur_start-start.ensures) c.end_span-span.ensures.end

pub returns : goal.returns
returns g c = λ text f a. class_told a c.requires.class (c.in_ok-class.ensures.taken text f a) c.in_ok-class.ensures.kind c.in_ok-error.ensures (ap (λ (d : Diagnostic). class_of d.kind) c.diagnostic_at.ensures)
