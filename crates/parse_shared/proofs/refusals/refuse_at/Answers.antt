use Rattle.std.proofs.Common.{subst, sym}
use Rattle.js_base.specs.declared.diagnostic.Diagnostic.{Diagnostic}
use Rattle.js_grammar.specs.Marks.{Mark}
use Rattle.laws_shared.specs.js_cursor.Places.{goal as goal_at}
use Rattle.parse_shared.proofs.GivingUp.{told_ends}
use Rattle.parse_shared.proofs.refusals.refuse_at.Goals as goal

pub set_fatal_error-requires-clause-mark : goal.set_fatal_error-requires-clause-mark
set_fatal_error-requires-clause-mark g c = subst (λ (d : Diagnostic). Mark (goal_at c.args.p.now) c.args.p.now.text d) (sym c.diagnostic_at.ensures) c.requires.mark

pub returns : goal.returns
returns g c = told_ends _ _ c.set_fatal_error.result c.diagnostic_at.ensures c.requires.ends c.set_fatal_error.ensures
