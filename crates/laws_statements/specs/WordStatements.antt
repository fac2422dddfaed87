-- Statements that begin with a word and end with a semicolon (ECMA-262, 14.8, 14.9, 14.10, 14.14, 14.16).
use Rattle.std.specs.Prelude.{ℕ, ◌≡◌, ◌⊎◌, Bool, true, false, List, Option, Some, None, Result, Ok, Err}
use Rattle.js_base.specs.declared.diagnostic.Diagnostic.{Diagnostic}
use Rattle.js_base.specs.declared.diagnostic.DiagnosticKind.{DiagnosticKind}
use Rattle.js_base.specs.declared.diagnostic.DiagnosticKind.TheVariants.{IllegalNewline, ReturnStatementInClassStaticBlock, ReturnStatementOnlyInFunctionBody}
use Rattle.js_base.specs.declared.kind.Kind.TheVariants.{Break, Continue}
use Rattle.js_base.specs.declared.span.Span.{Span}
use Rattle.js_base.specs.Contexts.{has_flag, new_target_flag, return_flag}
use Rattle.js_grammar.specs.Productions.{Flags, at, Expression}
use Rattle.laws_shared.specs.js_tree.declared.id.NodeId.{NodeId}
use Rattle.laws_shared.specs.js_tree.declared.kind.NodeKind.{NodeKind}
use Rattle.laws_shared.specs.js_tree.declared.kind.NodeKind.TheVariants.{BreakStatement, ContinueStatement, LabelIdentifier}
use Rattle.laws_shared.specs.js_tree.declared.op.Op.TheVariants as op
use Rattle.laws_shared.specs.js_cursor.Moves.{GivesUp, IsUnexpected, KeepsDiagnostic, MayEnd}
use Rattle.laws_shared.specs.js_cursor.Parsers.{Parser}
use Rattle.laws_shared.specs.js_cursor.declared.stop.Stop.{Stop}
use Rattle.laws_shared.specs.js_cursor.declared.stop.Stop.TheVariants.{Fatal, NoMemory}
use Rattle.laws_shared.specs.Answers.{Numbered, Stops, Underived}
use Rattle.laws_shared.specs.States.{At}
use Rattle.laws_shared.specs.Told.{unrelated_at}
use Rattle.laws_shared.specs.Stands.{NameHere, StandsHere}
use Rattle.laws_shared.specs.Moves.{TakesLeaf}

-- the word stands here that such a node begins with
abbrev pub JumpsHere : NodeKind → Parser → Type 0
JumpsHere kind p = ((kind ≡ BreakStatement) × StandsHere p Break true) ⊎ ((kind ≡ ContinueStatement) × StandsHere p Continue true)

-- The label behind it; none, where the statement may end; or no name stands where one is due.
abbrev pub TakesLabel : Parser → Parser → Result (Option NodeId) Stop → Type 0
TakesLabel old new (Ok None) = MayEnd old × (new ≡ old)
TakesLabel old new (Ok (Some id)) = (MayEnd old → ⊥) × NameHere old true × TakesLeaf LabelIdentifier op.None old new id
TakesLabel old new (Err Fatal) = (MayEnd old → ⊥) × NameHere old false × GivesUp (IsUnexpected old) old new Fatal
TakesLabel old new (Err NoMemory) = Unit {0}

-- what is told of `throw` at the end of its line
abbrev pub late_operand : Span → Diagnostic
late_operand word = unrelated_at IllegalNewline word

-- That was told; or what stands here is on the same line.
abbrev pub ChecksOperand : Span → Parser → Parser → Type 0
ChecksOperand word old new = ((old.token.is_on_new_line ≡ true) × KeepsDiagnostic (late_operand word) old new) ⊎ ((old.token.is_on_new_line ≡ false) × (new ≡ old))

-- The Expression behind `return`; none, where the statement may end.
abbrev pub TakesArgument : Parser → Parser → Result (Option NodeId) Stop → Type 0
TakesArgument old new (Ok None) = MayEnd old × (new ≡ old)
TakesArgument old new (Ok (Some id)) = (MayEnd old → ⊥) × ((text : List ℕ) (f : Flags) → At text f old → Numbered text f (at Expression f) old new id)
TakesArgument old new (Err e) = (MayEnd old → ⊥) × ((text : List ℕ) (f : Flags) → At text f old → Stops old new e (Underived text (at Expression f) old.prev_token_end))

-- what is told of a `return` in no function's body: where `new.target` may stand, it is in a static block of a class (15.7)
abbrev pub fault_of_return : Bool → DiagnosticKind
fault_of_return true = ReturnStatementInClassStaticBlock
fault_of_return false = ReturnStatementOnlyInFunctionBody

abbrev pub stray_return : Bool → Span → Diagnostic
stray_return in_block word = unrelated_at (fault_of_return in_block) word

-- That was told, without the parameter Return; or it may stand here.
abbrev pub ChecksReturn : Span → Parser → Parser → Type 0
ChecksReturn word old new = ((has_flag return_flag old.ctx ≡ false) × KeepsDiagnostic (stray_return (has_flag new_target_flag old.ctx) word) old new) ⊎ ((has_flag return_flag old.ctx ≡ true) × (new ≡ old))
