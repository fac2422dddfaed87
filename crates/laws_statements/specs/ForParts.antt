-- The first part of the head of a `for` (ECMA-262, 14.7.4, 14.7.5, B.3.5), where `in` is no operator.
use Rattle.std.specs.Prelude.{ℕ, ◌≡◌, ◌⊎◌, ◌&&◌, Bool, true, false, List, length, Option, Some, None, Result, Ok, Err}
use Rattle.js_base.specs.declared.diagnostic.Diagnostic.{Diagnostic}
use Rattle.js_base.specs.declared.diagnostic.DiagnosticKind.{DiagnosticKind}
use Rattle.js_base.specs.declared.diagnostic.DiagnosticKind.TheVariants as fault
use Rattle.js_base.specs.declared.kind.Kind.{Kind}
use Rattle.js_base.specs.declared.span.Span.{Span}
use Rattle.js_base.specs.declared.token.Token.{Token}
use Rattle.laws_shared.specs.Told.{unrelated_at}
use Rattle.js_base.specs.declared.kind.Kind.TheVariants as kind
use Rattle.js_grammar.specs.Trees.{Label, Slots, tree}
use Rattle.js_grammar.specs.Grammar.{nothing}
use Rattle.js_grammar.specs.Parsing.{plain}
use Rattle.js_grammar.specs.Productions.{Flags, at, sym, Expression, Target}
use Rattle.laws_shared.specs.js_tree.declared.id.NodeId.{NodeId}
use Rattle.laws_shared.specs.js_tree.declared.op.DeclarationKind.{DeclarationKind}
use Rattle.laws_shared.specs.js_tree.declared.op.DeclarationKind.TheVariants as declared
use Rattle.laws_shared.specs.js_tree.Holding.{Holds, Keeps}
use Rattle.laws_shared.specs.js_cursor.Moves.{KeepsDiagnostic}
use Rattle.laws_shared.specs.js_cursor.Parsers.{Parser}
use Rattle.laws_shared.specs.js_cursor.declared.stop.Stop.{Stop}
use Rattle.laws_shared.specs.Answers.{Numbered, Stops}
use Rattle.laws_shared.specs.Classes.{IsEarly}
use Rattle.laws_shared.specs.Stands.{StandsHere}
use Rattle.laws_shared.specs.States.{At, Same}
use Rattle.laws_shared.specs.Paths.{Path}
use Rattle.laws_operators.specs.parse_targets.Taken.{goes_through}
use Rattle.laws_operators.specs.HeadOperands.{HeadOperand, NoTargetPart}
use Rattle.parse_declarations.specs.HeadDeclarators.{ThroughHere}
use Rattle.parse_declarations.specs.declared.head.HeadForm.{HeadForm}
use Rattle.parse_declarations.specs.declared.head.HeadForm.TheVariants as form
use Rattle.laws_statements.specs.declared.forms.Ending.{Ending}
use Rattle.laws_statements.specs.ForHeads.{FirstTaken, NoFirstPart}
use Rattle.laws_statements.specs.LetStatements.{LetHere, NoLet}

-- a declaration of this kind begins here
abbrev pub BeginsHead : DeclarationKind → Parser → Type 0
BeginsHead declared.Var p = StandsHere p kind.Var true
BeginsHead declared.Const p = StandsHere p kind.Const true
BeginsHead declared.Let p = LetHere true p

-- none does
abbrev pub NoneBegins : Parser → Type 0
NoneBegins p = StandsHere p kind.Var false × StandsHere p kind.Const false × NoLet true p

abbrev pub FindsHead : Parser → Parser → Option DeclarationKind → Type 0
FindsHead p q (Some k) = (q ≡ p) × BeginsHead k p
FindsHead p q None = (q ≡ p) × NoneBegins p

-- the first part was read, one that isn't empty; or none is derived, whatever ends it
abbrev pub TakesPartWithoutIn : Bool → Parser → Parser → Result NodeId Stop → Type 0
TakesPartWithoutIn w p q (Ok id) = (text : List ℕ) (f : Flags) → At text f p → FirstTaken text f w p q (Some id)
TakesPartWithoutIn w p q (Err x) = (text : List ℕ) (f : Flags) → At text f p → Stops p q x ((e : Ending) → NoFirstPart text w e f p.prev_token_end)

-- ---- what is told of declarators before `in` and `of`

abbrev pub is_var : DeclarationKind → Bool
is_var declared.Var = true
is_var declared.Const = false
is_var declared.Let = false

-- Whether declarators may stand before `in` or, else, `of`, the first of which has this form: what is bound alone, and behind `var` a name with an initialiser before `in` (B.3.5).
abbrev pub may_stand : DeclarationKind → HeadForm → Bool → Bool → Bool
may_stand k g false before_in = false
may_stand k form.Through true before_in = true
may_stand k form.Bare true before_in = false
may_stand k form.InitialisedName true before_in = is_var k && before_in
may_stand k form.InitialisedPattern true before_in = false

abbrev pub HeadFault : DiagnosticKind → Type 0
HeadFault d = (d ≡ fault.MultipleDeclarationsInForLoopHead) ⊎ ((d ≡ fault.InitializerInForInLexicalDeclaration) ⊎ (d ≡ fault.InitializerInForHead))

abbrev pub FaultOf : Bool → Option DiagnosticKind → Type 0
FaultOf true r = r ≡ None
FaultOf false None = ⊥
FaultOf false (Some d) = HeadFault d

-- `in` or, else, `of`
abbrev pub through_kind : Bool → Kind
through_kind true = kind.In
through_kind false = kind.Of

-- Neither stands here; or the declarators may stand before it; or they may not, which was told.
pub data TellsHead (k : DeclarationKind) (g : HeadForm) (alone : Bool) (p q : Parser) : Type 0 where
  none_stands : ThroughHere p false → q ≡ p → TellsHead k g alone p q
  may_be : (b : Bool) → StandsHere p (through_kind b) true → may_stand k g alone b ≡ true → q ≡ p → TellsHead k g alone p q
  may_not : (b : Bool) → StandsHere p (through_kind b) true → may_stand k g alone b ≡ false → (d : Diagnostic) → IsEarly d → KeepsDiagnostic d p q → TellsHead k g alone p q

-- ---- the target that an expression stands for

-- `let` before `of` was told; or it doesn't stand so
abbrev pub ChecksLet : Bool → Span → Parser → Parser → Type 0
ChecksLet is_let s p q = ((is_let ≡ true) × StandsHere p kind.Of true × KeepsDiagnostic (unrelated_at fault.ForLoopLetReservedWord s) p q) ⊎ ((is_let ≡ true → StandsHere p kind.Of true → ⊥) × (q ≡ p))

-- The token that was passed last is this one, `async` without an escape.
abbrev pub IsAsyncAlone : Token → Parser → Type 0
IsAsyncAlone first p = (first.kind ≡ kind.Async) × (first.escaped ≡ false) × (first.span.end ≡ p.prev_token_end)

-- `async` alone before `of` was told, where no `await` stands before the head; or it doesn't stand so
abbrev pub ChecksAsync : Bool → Token → Parser → Parser → Type 0
ChecksAsync w first p q = ((w ≡ false) × IsAsyncAlone first p × StandsHere p kind.Of true × KeepsDiagnostic (unrelated_at fault.ForLoopAsyncOf first.span) p q) ⊎ ((w ≡ false → IsAsyncAlone first p → StandsHere p kind.Of true → ⊥) × (q ≡ p))

-- An expression was read up to this state, by a call before which so many diagnostics were kept; it begins with `async`, or it needn't. `in` or `of` stands behind it.
pub record HeadExpressionRead (begins_async : Bool) (start : ℕ) (id : NodeId) (kept : ℕ) (q : Parser) : Type 0 where
  pub text : List ℕ
  pub flags : Flags
  pub first : Parser
  pub begins : At text flags first
  pub no_in : flags.in_ ≡ false
  pub begins_with : begins_async ≡ false → first.token.kind ≡ kind.Async → ⊥
  pub start_is : start ≡ first.token.span.start
  pub kept_is : kept ≡ length first.errors
  pub read : Numbered text flags (at Expression flags) first q id
  pub operand : HeadOperand text flags first q id

-- The target that it stands for was taken, which is read from the state `first` on, and nothing was passed.
pub record HeadTargetTaken (text : List ℕ) (f : Flags) (first old new : Parser) (id : NodeId) : Type 0 where
  pub same : Same first new
  pub place : new.prev_token_end ≡ old.prev_token_end
  pub token : new.token ≡ old.token
  pub label : Label
  pub slots : Slots
  pub path : Path text f (plain goes_through) (sym Target f) first nothing new (tree label slots)
  pub holds : Holds new.nodes (length first.nodes) (length new.nodes) id.0 label slots
  pub keeps : Keeps first.nodes new.nodes

abbrev pub TakesHeadTarget : ℕ → NodeId → ℕ → Parser → Parser → Result NodeId Stop → Type 0
TakesHeadTarget start id kept old new (Ok t) = (text : List ℕ) (f : Flags) (first : Parser) → At text f first → f.in_ ≡ false → start ≡ first.token.span.start → kept ≡ length first.errors → Numbered text f (at Expression f) first old id → HeadOperand text f first old id → HeadTargetTaken text f first old new t
TakesHeadTarget start id kept old new (Err e) = (text : List ℕ) (f : Flags) (first : Parser) → At text f first → f.in_ ≡ false → start ≡ first.token.span.start → kept ≡ length first.errors → Numbered text f (at Expression f) first old id → HeadOperand text f first old id → Stops first new e (NoTargetPart text f first.prev_token_end)
