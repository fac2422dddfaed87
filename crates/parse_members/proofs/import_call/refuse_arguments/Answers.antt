use Rattle.std.proofs.Common.{refl, subst, sym}
use Rattle.js_base.specs.declared.diagnostic.Diagnostic.{Diagnostic}
use Rattle.js_base.specs.declared.diagnostic.DiagnosticKind.TheVariants.{ImportArguments}
use Rattle.js_grammar.specs.Marks.{Mark}
use Rattle.parse_shared.specs.js_cursor.Places.{goal as goal_of}
use Rattle.parse_shared.proofs.laws_shared.Classes.{gives_up_by, unexpected_ends}
use Rattle.parse_primary.proofs.laws_primary.ImportWords.{passed_marked, told_ends}
use Rattle.parse_members.proofs.import_call.refuse_arguments.Goals as goal

pub returns-then-at : goal.returns-then-at
returns-then-at g c = gives_up_by _ _ c.set_unexpected.result c.set_unexpected.ensures (λ d u. unexpected_ends c.requires.at.at d u)

pub end_span-span-requires : goal.end_span-span-requires
end_span-span-requires g c = c.requires.behind.before

pub set_fatal_error-requires-clause-mark : goal.set_fatal_error-requires-clause-mark
set_fatal_error-requires-clause-mark g c =
    subst (λ (d : Diagnostic). Mark (goal_of c.args.p.now) c.args.p.now.text d) (sym c.diagnostic_at.ensures)
    (passed_marked ImportArguments (λ g t s x. (x, (refl, refl))) c.requires.behind c.requires.at.at c.end_span-span.result c.end_span-span.ensures.start c.end_span-span.ensures.end)

pub returns : goal.returns
returns g c = told_ends ImportArguments c.end_span-span.result _ _ c.set_fatal_error.result refl c.diagnostic_at.ensures c.set_fatal_error.ensures
