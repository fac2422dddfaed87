-- Where `let` begins a declaration, and where it is a name (ECMA-262, 14.2, 14.3.1, 14.5).
use Rattle.std.specs.Prelude.{ℕ, ◌≡◌, Bool, true, false, ◌||◌, IsTrue, List, [], ◌∷◌, ◌++◌, Option, Some, None, Result}
use Rattle.js_base.specs.declared.diagnostic.Diagnostic.{Diagnostic}
use Rattle.js_base.specs.declared.diagnostic.DiagnosticKind.TheVariants.{LexicalDeclarationSingleStatement}
use Rattle.js_base.specs.declared.kind.Kind.{Kind}
use Rattle.js_base.specs.declared.kind.Kind.TheVariants.{Const, LBrack, LCurly, Let}
use Rattle.js_base.specs.Kinds.{same_kind, one_of_kinds}
use Rattle.js_base.specs.KindSets.{binding_identifier_kinds}
use Rattle.js_grammar.specs.Grammar.{Lexeme, is, seen}
use Rattle.js_grammar.specs.Productions.{Flags}
use Rattle.laws_shared.specs.js_tree.declared.id.NodeId.{NodeId}
use Rattle.laws_shared.specs.js_tree.declared.op.DeclarationKind.{DeclarationKind}
use Rattle.laws_shared.specs.js_tree.declared.op.DeclarationKind.TheVariants as declared
use Rattle.laws_shared.specs.js_cursor.Parsers.{Parser}
use Rattle.laws_shared.specs.js_cursor.declared.stop.Stop.{Stop}
use Rattle.laws_shared.specs.Lexemes.{Lex}
use Rattle.laws_shared.specs.Stands.{StandsHere}
use Rattle.laws_shared.specs.States.{At}
use Rattle.laws_shared.specs.Statements.{TakesStatement, placed}
use Rattle.laws_shared.specs.Told.{unrelated_at}

-- Before these `let` begins a declaration: in a list of statements a word that may be bound, `[` and `{`; as the body of another one `[` alone.
abbrev pub behind_let : Bool → Kind → Bool
behind_let true k = one_of_kinds (LBrack ∷ LCurly ∷ []) k || one_of_kinds binding_identifier_kinds k
behind_let false k = same_kind LBrack k

-- if `let` stands behind the place, none of these stands behind it
abbrev pub LetIsName : List ℕ → Bool → ℕ → Type 0
LetIsName text b s = (y z : Lexeme) → Lex text s y → IsTrue (seen (is Let) y) → Lex text y.to z → behind_let b z.kind ≡ false

-- no declaration begins with `let` here
abbrev pub NoLet : Bool → Parser → Type 0
NoLet b p = (text : List ℕ) (f : Flags) → At text f p → LetIsName text b p.prev_token_end

-- one does
pub record LetHere (b : Bool) (p : Parser) : Type 0 where
  pub here : StandsHere p Let true
  pub kind : Kind
  pub goes_on : behind_let b kind ≡ true
  pub behind : (text : List ℕ) (f : Flags) → At text f p → (z : Lexeme) → Lex text p.token.span.end z → z.kind ≡ kind

abbrev pub LetBegins : Bool → Parser → Parser → Bool → Type 0
LetBegins b p q true = (q ≡ p) × LetHere b p
LetBegins b p q false = (q ≡ p) × NoLet b p

-- a LexicalDeclaration begins here, in a list or as a body
abbrev pub BeginsLexical : Bool → DeclarationKind → Parser → Type 0
BeginsLexical b declared.Const p = StandsHere p Const true
BeginsLexical b declared.Let p = LetHere b p
BeginsLexical b declared.Var p = ⊥

abbrev pub FindsLexical : Bool → Parser → Parser → Option DeclarationKind → Type 0
FindsLexical b p q (Some k) = (q ≡ p) × BeginsLexical b k p
FindsLexical b p q None = (q ≡ p) × StandsHere p Const false × NoLet b p

-- the answer of a parse function of what is a statement, in a list or as a body, where `let` begins no declaration there
abbrev pub TakesUndeclared : Parser → Parser → Result NodeId Stop → Type 0
TakesUndeclared p q r = (b : Bool) → NoLet b p → TakesStatement (placed b) p q r

-- The diagnostic that was kept last is of a declaration that stands as a body, from where the call began to where it ended.
pub record TellsLexical (p q : Parser) : Type 0 where
  pub before : List Diagnostic
  pub told : q.errors ≡ (p.errors ++ before) ++ unrelated_at LexicalDeclarationSingleStatement (record { start = p.token.span.start; end = q.prev_token_end }) ∷ []
