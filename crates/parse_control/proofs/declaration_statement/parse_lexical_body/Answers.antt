use Rattle.std.proofs.Common.{false, ap, arith, refl, subst, ◌∙◌}
use Rattle.std.proofs.lemmas.Result.{err_from_is_err_and}
use Rattle.js_base.specs.declared.diagnostic.Diagnostic.{Diagnostic}
use Rattle.js_base.specs.declared.diagnostic.DiagnosticKind.TheVariants.{LexicalDeclarationSingleStatement}
use Rattle.js_base.specs.Diagnostics.{class_of}
use Rattle.parse_shared.specs.js_cursor.Moves.{KeepsDiagnostic}
use Rattle.parse_shared.proofs.laws_shared.Moving.{stops_so}
use Rattle.parse_declarations.proofs.SpansMarked.{span_marked}
use Rattle.laws_statements.proofs.LetStatements.{a_word_stands, lexical_last, lexical_told, lexical_word, no_lexical_body}
use Rattle.parse_control.proofs.declaration_statement.parse_lexical_body.Goals as goal

pub parse_declaration-requires-clause-word : goal.parse_declaration-requires-clause-word
parse_declaration-requires-clause-word g c = lexical_word false c.args.kind c.args.p.now c.requires.begins

pub returns-in_err-declaration-clause-taken : goal.returns-in_err-declaration-clause-taken
returns-in_err-declaration-clause-taken g c = λ text f a. let p = err_from_is_err_and c.from_residual.result c.from_residual.ensures.1 in rw (p.1, p.2) (stops_so _ _ _ (λ n. no_lexical_body c.args.kind a c.requires.begins) (c.in_err-declaration.ensures text f a))

pub end_span-span-requires : goal.end_span-span-requires
end_span-span-requires g c = let x = c.in_ok-declaration.ensures _ _ c.requires.at in let i = x.further in let s = c.cur_start-start.ensures in omega arith

pub error-requires-clause-at : goal.error-requires-clause-at
error-requires-clause-at g c = (c.in_ok-declaration.ensures _ _ c.requires.at).at.at

pub error-requires-clause-mark : goal.error-requires-clause-mark
error-requires-clause-mark g c =
    let x = c.in_ok-declaration.ensures _ _ c.requires.at in
    span_marked c.requires.at (a_word_stands false c.args.kind c.args.p.now c.requires.begins) x.at x.same x.walked x.further LexicalDeclarationSingleStatement _ c.diagnostic_at.ensures (λ s i j. ((i, j), (refl, refl))) (c.end_span-span.ensures.start ∙ c.cur_start-start.ensures) c.end_span-span.ensures.end

pub returns-clause-taken : goal.returns-clause-taken
returns-clause-taken g c = λ text f a. lexical_told a c.requires.begins (c.in_ok-declaration.ensures text f a) c.in_ok-error.ensures (ap (λ (d : Diagnostic). class_of d.kind) c.diagnostic_at.ensures)

pub returns-clause-told : goal.returns-clause-told
returns-clause-told g c = lexical_last c.end_span-span.result (c.in_ok-declaration.ensures _ _ c.requires.at) (subst (λ (d : Diagnostic). KeepsDiagnostic d c.parse_declaration.new.p c.error.new.self) c.diagnostic_at.ensures c.in_ok-error.ensures) (c.end_span-span.ensures.start ∙ c.cur_start-start.ensures) c.end_span-span.ensures.end
