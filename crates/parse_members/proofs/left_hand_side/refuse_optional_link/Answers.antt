use Rattle.std.proofs.Common.{◌≡◌, subst, sym}
use Rattle.js_base.specs.declared.diagnostic.Diagnostic.{Diagnostic}
use Rattle.js_grammar.specs.Marks.{Mark}
use Rattle.parse_shared.specs.js_cursor.Moves.{GivesUp}
use Rattle.parse_shared.specs.js_cursor.Places.{goal as goal_of}
use Rattle.parse_members.proofs.left_hand_side.refuse_optional_link.Goals as goal

pub set_fatal_error-requires-clause-mark : goal.set_fatal_error-requires-clause-mark
set_fatal_error-requires-clause-mark g c = subst (λ (d : Diagnostic). Mark (goal_of c.args.p.now) c.args.p.now.text d) (sym c.diagnostic_at.ensures) c.requires.mark

pub returns : goal.returns
returns g c = subst (λ (e : Diagnostic). GivesUp (λ d. d ≡ e) c.args.p.now c.set_fatal_error.new.self c.set_fatal_error.result) c.diagnostic_at.ensures c.set_fatal_error.ensures
