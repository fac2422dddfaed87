use Rattle.std.proofs.Common.{◌≡◌, ◌∙◌, refl, subst, sym}
use Rattle.js_base.specs.declared.diagnostic.Diagnostic.{Diagnostic}
use Rattle.js_base.specs.declared.diagnostic.DiagnosticKind.TheVariants as fault
use Rattle.js_grammar.specs.Marks.{Mark}
use Rattle.parse_shared.specs.js_cursor.Places.{goal as goal_of}
use Rattle.parse_shared.specs.js_cursor.Moves.{KeepsDiagnostic}
use Rattle.parse_shared.specs.laws_shared.Told.{unrelated_at}
use Rattle.parse_primary.specs.laws_primary.Imports.{behind_new_at}
use Rattle.parse_primary.proofs.laws_primary.ImportWords.{passed_marked}
use Rattle.parse_members.proofs.import_call.refuse_behind_new.Goals as goal

pub end_span-span-requires : goal.end_span-span-requires
end_span-span-requires g c = c.requires.behind.before

pub error-requires-clause-mark : goal.error-requires-clause-mark
error-requires-clause-mark g c =
    subst (λ (d : Diagnostic). Mark (goal_of c.args.p.now) c.args.p.now.text d) (sym c.diagnostic_at.ensures)
    (passed_marked fault.NewDynamicImport (λ g t s x. (x, (refl, refl))) c.requires.behind c.requires.at c.end_span-span.result c.end_span-span.ensures.start c.end_span-span.ensures.end)

pub returns : goal.returns
returns g c =
    let e : unrelated_at fault.NewDynamicImport c.end_span-span.result ≡ behind_new_at c.args.start c.args.p.now.prev_token_end = rw (c.end_span-span.ensures.start, c.end_span-span.ensures.end) refl in
    subst (λ (d : Diagnostic). KeepsDiagnostic d c.args.p.now c.error.new.self) (c.diagnostic_at.ensures ∙ e) c.in_ok-error.ensures
