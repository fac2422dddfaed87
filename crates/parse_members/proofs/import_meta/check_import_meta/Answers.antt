use Rattle.std.proofs.Common.{subst, sym}
use Rattle.js_base.specs.declared.diagnostic.Diagnostic.{Diagnostic}
use Rattle.js_grammar.specs.Marks.{Mark}
use Rattle.parse_shared.specs.js_cursor.Places.{goal as goal_at}
use Rattle.parse_members.proofs.import_meta.check_import_meta.Goals as goal

pub error-requires-clause-mark : goal.error-requires-clause-mark
error-requires-clause-mark g c = subst (λ (d : Diagnostic). Mark (goal_at c.args.p.now) c.args.p.now.text d) (sym c.diagnostic_at.ensures) c.requires.mark
