use Rattle.std.proofs.Common.{sym, subst}
use Rattle.js_base.specs.declared.diagnostic.Diagnostic.{Diagnostic}
use Rattle.js_grammar.specs.Marks.{Mark}
use Rattle.parse_shared.specs.js_cursor.Places.{goal as source}
use Rattle.parse_targets.proofs.widening.tell_rest_target.Goals as goal

pub error-requires-clause-mark : goal.error-requires-clause-mark
error-requires-clause-mark g c = subst (λ (d : Diagnostic). Mark (source c.args.p.now) c.args.p.now.text d) (sym c.diagnostic_at.ensures) c.requires.mark
