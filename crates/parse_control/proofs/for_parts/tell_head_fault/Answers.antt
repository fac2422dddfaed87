use Rattle.std.proofs.Common.{refl, sym, subst}
use Rattle.js_base.specs.declared.diagnostic.Diagnostic.{Diagnostic}
use Rattle.js_grammar.specs.Marks.{Mark}
use Rattle.parse_shared.specs.js_cursor.Moves.{KeepsDiagnostic}
use Rattle.parse_shared.specs.js_cursor.Places.{goal as goal_at}
use Rattle.parse_declarations.proofs.HeadDeclarators.{through_so}
use Rattle.laws_statements.proofs.ForDeclarations.{fault_is, fault_told, no_fault}
use Rattle.parse_control.proofs.for_parts.tell_head_fault.Goals as goal

pub error-requires-clause-mark : goal.error-requires-clause-mark
error-requires-clause-mark g c = subst (λ (d : Diagnostic). Mark (goal_at c.args.p.now) c.args.p.now.text d) (sym c.diagnostic_at.ensures) (c.requires.mark _ (fault_is c.args.kind c.args.form c.args.alone c.args.p.now c.args.p.now _ _ (through_so c.args.p.now c.if-not-goes_through.false c.goes_through.ensures) c.at.ensures c.head_fault.ensures _ c.in-Some.is).1)

pub returns-in_ok-error-in-Some : goal.returns-in_ok-error-in-Some
returns-in_ok-error-in-Some g c = fault_told c.args.kind c.args.form c.args.alone c.args.p.now _ _ _ (through_so c.args.p.now c.if-not-goes_through.false c.goes_through.ensures) c.at.ensures c.head_fault.ensures _ _ c.in-Some.is (subst (λ (d : Diagnostic). KeepsDiagnostic d c.args.p.now c.error.new.self) c.diagnostic_at.ensures c.in_ok-error-in-Some.ensures)

pub returns-in-None : goal.returns-in-None
returns-in-None g c = no_fault c.args.kind c.args.form c.args.alone c.args.p.now _ _ _ (through_so c.args.p.now c.if-not-goes_through.false c.goes_through.ensures) c.at.ensures c.head_fault.ensures c.in-None.is refl
