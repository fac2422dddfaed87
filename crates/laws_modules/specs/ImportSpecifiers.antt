-- What the parse functions of one imported name answer (ECMA-262, 16.2.2).
use Rattle.std.specs.Prelude.{ℕ, ◌≡◌, ◌⊎◌, true, false, [], Result, Ok, Err}
use Rattle.js_base.specs.Contexts.{has_flag, yield_flag, await_flag}
use Rattle.js_base.specs.KindSets.{identifier_name_kinds}
use Rattle.js_base.specs.Kinds.{one_of_kinds}
use Rattle.js_base.specs.declared.diagnostic.Diagnostic.{Diagnostic}
use Rattle.js_base.specs.declared.diagnostic.DiagnosticKind.TheVariants.{IdentifierExpected, IdentifierReservedWord}
use Rattle.js_base.specs.declared.kind.Kind.TheVariants.{Str}
use Rattle.js_base.specs.declared.span.Span.{Span}
use Rattle.js_base.specs.declared.token.Token.{Token}
use Rattle.js_grammar.specs.Marks.{Mark}
use Rattle.js_grammar.specs.Productions.{BindingIdentifier}
use Rattle.js_grammar.specs.Productions.{sym as symbol}
use Rattle.js_grammar.specs.Trees.{Label, import_specifier, no_op}
use Rattle.laws_shared.specs.js_tree.declared.id.NodeId.{NodeId}
use Rattle.laws_shared.specs.js_tree.declared.kind.NodeKind.TheVariants as node
use Rattle.laws_shared.specs.js_tree.declared.op.Op.TheVariants as op
use Rattle.laws_shared.specs.js_cursor.Moves.{GivesUp, KeepsDiagnostic}
use Rattle.laws_shared.specs.js_cursor.Parsers.{Parser}
use Rattle.laws_shared.specs.js_cursor.Places.{goal}
use Rattle.laws_shared.specs.js_cursor.declared.stop.Stop.{Stop}
use Rattle.laws_shared.specs.js_cursor.declared.stop.Stop.TheVariants.{Fatal, NoMemory}
use Rattle.laws_shared.specs.Lexemes.{may_name}
use Rattle.laws_shared.specs.Methods.{ReadsWhole}
use Rattle.laws_shared.specs.Moves.{MadeHere, plain_label}
use Rattle.laws_shared.specs.Told.{unrelated_at}

-- what is told of a string where a name is bound, and of a word that may not be bound
abbrev pub string_bound : Span → Diagnostic
string_bound s = unrelated_at IdentifierExpected s

abbrev pub word_bound : Span → Diagnostic
word_bound s = unrelated_at IdentifierReservedWord s

-- each has its mark at the token
abbrev pub BoundMarked : Parser → Span → Type 0
BoundMarked p s = Mark (goal p) p.text (string_bound s) × Mark (goal p) p.text (word_bound s)

-- the answer of a parse function of what is bound
abbrev pub ReadsBound : Parser → Parser → Result NodeId Stop → Type 0
ReadsBound p q r = ReadsWhole (λ f. symbol BindingIdentifier f) p q r

abbrev pub MayBind : Parser → Token → Type 0
MayBind p t = may_name (has_flag yield_flag p.ctx) (has_flag await_flag p.ctx) t.kind ≡ true

abbrev pub MayNotBind : Parser → Token → Type 0
MayNotBind p t = may_name (has_flag yield_flag p.ctx) (has_flag await_flag p.ctx) t.kind ≡ false

-- the token is a name, a word or a string
abbrev pub IsExportName : Token → Type 0
IsExportName t = (one_of_kinds identifier_name_kinds t.kind ≡ true) ⊎ (t.kind ≡ Str)

-- A string stood where a name is bound: that was told, and a node made of it.
pub record StringBound (t : Token) (p q : Parser) (id : NodeId) : Type 0 where
  pub is : t.kind ≡ Str
  pub told : Parser
  pub keeps : KeepsDiagnostic (string_bound t.span) p told
  pub made : MadeHere (plain_label node.StringLiteral op.None t.span) [] told q id

-- The name of a token that was passed last, as one that is bound: its node was made; or it is a string, or a word that may not be bound.
abbrev pub BindsSingle : Token → Parser → Parser → Result NodeId Stop → Type 0
BindsSingle t p q (Ok id) = (MayBind p t × MadeHere (plain_label node.BindingIdentifier op.None t.span) [] p q id) ⊎ (MayNotBind p t × StringBound t p q id)
BindsSingle t p q (Err Fatal) = MayNotBind p t × GivesUp (λ d. d ≡ word_bound t.span) p q Fatal
BindsSingle t p q (Err NoMemory) = Unit {0}

-- the label of the node of a specifier
abbrev pub specifier_label : ℕ → ℕ → Label
specifier_label from to = record { kind = import_specifier; op = no_op; flags = 0; span = record { from = from; to = to } }
