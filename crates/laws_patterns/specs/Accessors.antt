-- Parameters that a getter or a setter may not have (ECMA-262, 15.4): they are told.
use Rattle.std.specs.Prelude.{ℕ, ◌≡◌, ◌⊎◌, true, List, [], ◌∷◌, Some, Result, Ok, Err}
use Rattle.js_base.specs.declared.diagnostic.DiagnosticKind.{DiagnosticKind}
use Rattle.js_base.specs.declared.diagnostic.DiagnosticKind.TheVariants.{GetterParameters, SetterWithParameters, SetterWithRestParameter}
use Rattle.js_base.specs.declared.kind.Kind.{Kind}
use Rattle.js_base.specs.declared.kind.Kind.TheVariants.{Dot3, LParen, RParen}
use Rattle.js_base.specs.declared.span.Span.{Span}
use Rattle.js_base.specs.Kinds.{one_of_kinds}
use Rattle.js_grammar.specs.Grammar.{Lexeme, ◌▸◌}
use Rattle.js_grammar.specs.Productions.{G, Flags, at, sym, tok, Param, Params}
use Rattle.laws_shared.specs.js_tree.declared.id.NodeId.{NodeId}
use Rattle.laws_shared.specs.js_cursor.Moves.{KeepsDiagnostic}
use Rattle.laws_shared.specs.js_cursor.Parsers.{Parser}
use Rattle.laws_shared.specs.js_cursor.declared.stop.Stop.{Stop}
use Rattle.laws_shared.specs.Answers.{Numbered, Stops}
use Rattle.laws_shared.specs.Arguments.{Partway}
use Rattle.laws_shared.specs.Lexemes.{Lex}
use Rattle.laws_shared.specs.Methods.{WholeOutcome, parameters_of}
use Rattle.laws_shared.specs.States.{At}
use Rattle.laws_shared.specs.Told.{unrelated_at}
use Rattle.laws_shared.specs.declared.nested.MethodForm.TheVariants.{Setter}

-- what stands behind an opening parenthesis where no FormalParameter does: nothing stands in it, or a rest does
abbrev pub beside_parameters : List Kind
beside_parameters = RParen ∷ Dot3 ∷ []

-- The kind of the lexeme behind the current one: where it is one of these, no other lexeme stands there; and where one of these stands there, this is its kind.
abbrev pub KindBehind : Parser → Parser → Kind → Type 0
KindBehind p q k = (q ≡ p) × ((text : List ℕ) (f : Flags) → At text f p → (y : Lexeme) → Lex text p.token.span.end y → (one_of_kinds beside_parameters k ≡ true → y.kind ≡ k) × (one_of_kinds beside_parameters y.kind ≡ true → y.kind ≡ k))

-- of a getter's, and of a setter's: none of them or too many, or a rest
abbrev pub IsTold : DiagnosticKind → Type 0
IsTold k = (k ≡ GetterParameters) ⊎ ((k ≡ SetterWithParameters) ⊎ (k ≡ SetterWithRestParameter))

-- FormalParameters were read, and this was told of them.
pub record ToldParameters (k : DiagnosticKind) (text : List ℕ) (f : Flags) (p q : Parser) (id : NodeId) : Type 0 where
  pub behind : Parser
  pub read : Numbered text f (at Params f) p behind id
  pub span : Span
  pub told : KeepsDiagnostic (unrelated_at k span) behind q

abbrev pub ToldOutcome : DiagnosticKind → List ℕ → Flags → Parser → Parser → Result NodeId Stop → Type 0
ToldOutcome k text f p q (Ok id) = ToldParameters k text f p q id
ToldOutcome k text f p q (Err e) = Stops p q e (Unit {0})

abbrev pub TellsParameters : DiagnosticKind → Parser → Parser → Result NodeId Stop → Type 0
TellsParameters k p q r = (text : List ℕ) (f : Flags) → At text f p → ToldOutcome k text f p q r

-- from a setter's parenthesis on up to the closing one
abbrev pub one_parameter : Flags → G
one_parameter f = tok LParen ▸ sym Param f ▸ tok RParen

-- The parenthesis of a setter and one parameter were read from some state on, up to the old one; what is read now is the rest of a list of parameters. The answer is of the state where it began.
abbrev pub ReadsFurther : Span → NodeId → Parser → Parser → Result NodeId Stop → Type 0
ReadsFurther opening parameter old new r = (text : List ℕ) (f : Flags) (first : Parser) → At text f first → opening.start ≡ first.token.span.start → Partway text f (one_parameter f) (tok RParen) first old [] (Some parameter ∷ []) → WholeOutcome text f (parameters_of Setter f) first new r
