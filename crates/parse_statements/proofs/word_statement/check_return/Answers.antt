use Rattle.std.proofs.Common.{ap, sym, subst, ◌∙◌}
use Rattle.js_base.specs.Contexts.{has_flag, new_target_flag}
use Rattle.js_base.specs.declared.diagnostic.Diagnostic.{Diagnostic}
use Rattle.js_base.specs.declared.diagnostic.DiagnosticKind.{DiagnosticKind}
use Rattle.js_grammar.specs.Marks.{Mark}
use Rattle.parse_shared.specs.js_cursor.Moves.{KeepsDiagnostic}
use Rattle.parse_shared.specs.js_cursor.Places.{goal as goal_at}
use Rattle.parse_shared.specs.laws_shared.Told.{unrelated_at}
use Rattle.parse_control.specs.laws_statements.WordStatements.{fault_of_return}
use Rattle.parse_statements.proofs.word_statement.check_return.Goals as goal

pub error-requires-clause-mark : goal.error-requires-clause-mark
error-requires-clause-mark g c = subst (λ (d : Diagnostic). Mark (goal_at c.args.p.now) c.args.p.now.text d) (sym (c.diagnostic_at.ensures ∙ ap (λ (k : DiagnosticKind). unrelated_at k c.args.word) c.return_fault-kind.ensures)) (c.requires.mark _)
