-- What is read of the declarators of a declaration (ECMA-262, 14.3.1, 14.3.2).
use Rattle.std.specs.Prelude.{ℕ, ◌≡◌, ◌≤◌, ◌<◌, ◌⊎◌, Bool, true, false, not, ◌&&◌, ◌||◌, IsTrue, List, [], ◌∷◌, ◌++◌, Option, Some, None, length, Result, Ok, Err}
use Rattle.js_base.specs.declared.diagnostic.Diagnostic.{Diagnostic}
use Rattle.js_base.specs.declared.diagnostic.DiagnosticKind.{DiagnosticKind}
use Rattle.js_base.specs.declared.diagnostic.DiagnosticKind.TheVariants.{InvalidDestructuringDeclaration, MissingInitializerInConst}
use Rattle.js_base.specs.declared.kind.Kind.TheVariants.{Comma, Const, Semicolon}
use Rattle.js_base.specs.declared.span.Span.{Span}
use Rattle.js_base.specs.Kinds.{same_kind, one_of_kinds}
use Rattle.js_grammar.specs.Trees.{Label, Slots, end, tree}
use Rattle.js_grammar.specs.Grammar.{Lexeme, Lexemes, here, Look, seen, is, may_omit, commas, Takes}
use Rattle.js_grammar.specs.Insertion.{Row, after_word, edge, goes_on}
use Rattle.js_grammar.specs.Lexed.{Lexes}
use Rattle.js_grammar.specs.Follow.{row_of, first_edge}
use Rattle.js_grammar.specs.Parsing.{Passes, Reaches}
use Rattle.js_grammar.specs.Productions.{G, Flags}
use Rattle.js_grammar.specs.Table.{rule, declarator}
use Rattle.parse_shared.specs.js_tree.declared.id.NodeId.{NodeId}
use Rattle.parse_shared.specs.js_tree.declared.op.DeclarationKind.{DeclarationKind}
use Rattle.parse_shared.specs.js_tree.declared.kind.NodeKind.TheVariants.{VariableDeclarator}
use Rattle.parse_shared.specs.js_tree.declared.op.Op.TheVariants as op
use Rattle.parse_shared.specs.js_tree.Holding.{Holds, HoldsAll, Keeps}
use Rattle.parse_shared.specs.js_tree.Labels.{declaration_kind}
use Rattle.parse_shared.specs.js_cursor.Moves.{KeepsDiagnostic}
use Rattle.parse_shared.specs.js_cursor.Parsers.{Parser}
use Rattle.parse_shared.specs.js_cursor.declared.stop.Stop.{Stop}
use Rattle.parse_shared.specs.laws_shared.Answers.{Verdict, Stops}
use Rattle.parse_shared.specs.laws_shared.Lexemes.{Lex, Walked, spot, Plain}
use Rattle.parse_shared.specs.laws_shared.Moves.{Moved, MadeHere, plain_label}
use Rattle.parse_shared.specs.laws_shared.States.{At, Same}
use Rattle.parse_shared.specs.laws_shared.Statements.{link_kinds, no_link}
use Rattle.parse_shared.specs.laws_shared.Told.{unrelated_at}

-- each declarator has an initialiser
abbrev pub is_constant : DeclarationKind → Bool
is_constant k = same_kind (declaration_kind k) Const

-- the declarators of a declaration
abbrev pub list_of : Bool → Flags → G
list_of c f = commas false (declarator c f)

-- what ends a declaration, by the row of its last declarator
abbrev pub ends_row : Row → Look
ends_row r k w e = is Semicolon k w e || (may_omit (goes_on r) k w e && no_link k w e)

-- what may stand behind a declarator: a comma, or what ends the declaration
abbrev pub behind_row : Row → Look
behind_row r k w e = is Comma k w e || ends_row r k w e

-- nothing goes on so on a new line
abbrev pub stops_row : Row → Look
stops_row r k w e = one_of_kinds link_kinds k || not (goes_on r k w e)

-- ---- one declarator

-- From the place s to the place s' it is derived as this tree; and whatever is derived from s, before what may stand behind it, is this.
pub record One (text : List ℕ) (g : G) (s s' : ℕ) (l : Label) (cs : Slots) (pass : Lexemes → Lexemes) : Type 0 where
  pub reach : ℕ
  pub near : reach ≤ s'
  pub passes : Passes (Lex text) s s' pass
  pub sound : (us : Slots) (ls : Lexemes) → Lexes (Lex text) s' ls → Reaches reach s' ls → Takes rule g end (tree l cs us) s (pass ls) us s' ls
  pub only : (ts us : Slots) (k : ℕ) (ls rest : Lexemes) → Lexes (Lex text) s ls → Takes rule g end ts s ls us k rest → IsTrue (seen (behind_row (first_edge ts).row) (here rest)) → (ts ≡ tree l cs us) × (k ≡ s') × Lexes (Lex text) s' rest × (ls ≡ pass rest)

-- none is derived from there
pub record NoOne (text : List ℕ) (g : G) (s : ℕ) : Type 0 where
  pub no : (ts us : Slots) (k : ℕ) (ls rest : Lexemes) → Lexes (Lex text) s ls → Takes rule g end ts s ls us k rest → IsTrue (seen (behind_row (first_edge ts).row) (here rest)) → ⊥

-- A declarator was read. Clean: it is derived, and no other one is; unclean: none is. A node made in the call stands for its tree.
pub record Declarator (text : List ℕ) (f : Flags) (c : Bool) (p q : Parser) (id : NodeId) : Type 0 where
  pub at : At text f q
  pub same : Same p q
  pub further : p.token.span.start < q.prev_token_end
  pub label : Label
  pub slots : Slots
  pub pass : Lexemes → Lexemes
  pub walked : Walked text (spot p) (spot q) pass
  pub verdict : Verdict (f.wide ≡ true) p.errors q.errors (One text (declarator c f) p.prev_token_end q.prev_token_end label slots pass) (NoOne text (declarator c f) p.prev_token_end)
  -- with a comma behind it the declaration goes on; without one, and where `in` is an operator, nothing goes on with it
  pub comma : (y : Lexeme) → IsTrue (seen (is Comma) y) → IsTrue (seen (ends_row (row_of label slots)) y) → ⊥
  pub stops : f.in_ ≡ true → (q.token.kind ≡ Comma → ⊥) → (y : Lexeme) → Plain text q.prev_token_end y → IsTrue (seen (stops_row (row_of label slots)) y)
  pub holds : Holds q.nodes (length p.nodes) (length q.nodes) id.0 label slots
  pub keeps : Keeps p.nodes q.nodes

abbrev pub ReadsDeclarator : Bool → Parser → Parser → Result NodeId Stop → Type 0
ReadsDeclarator c p q (Ok id) = (text : List ℕ) (f : Flags) → At text f p → Declarator text f c p q id
ReadsDeclarator c p q (Err e) = (text : List ℕ) (f : Flags) → At text f p → Stops p q e (NoOne text (declarator c f) p.prev_token_end)

-- ---- an initialiser that is missing

abbrev pub missing : Bool → DiagnosticKind
missing true = MissingInitializerInConst
missing false = InvalidDestructuringDeclaration

abbrev pub no_initialiser : Bool → Span → Diagnostic
no_initialiser is_name s = unrelated_at (missing is_name) s

-- it may be missing, or that was told
abbrev pub ChecksInitialiser : Bool → Bool → Span → Parser → Parser → Type 0
ChecksInitialiser c is_name s p q = ((is_name ≡ true) × (c ≡ false) × (q ≡ p)) ⊎ ((is_name ≡ false) ⊎ (c ≡ true)) × KeepsDiagnostic (no_initialiser is_name s) p q

-- and a node without an initialiser was made
pub record EndsDeclarator (c is_name : Bool) (s : Span) (binding : NodeId) (p q : Parser) (id : NodeId) : Type 0 where
  pub mid : Parser
  pub checked : ChecksInitialiser c is_name s p mid
  pub made : MadeHere (plain_label VariableDeclarator op.None s) (Some binding ∷ None ∷ []) mid q id

-- ---- the list

-- A declarator was read, and the comma behind it, where one stands there.
pub record OneDeclarator (text : List ℕ) (f : Flags) (c : Bool) (p q : Parser) (ids js : List (Option NodeId)) (more : Bool) : Type 0 where
  pub mid : Parser
  pub id : NodeId
  pub one : Declarator text f c p mid id
  pub pushed : js ≡ ids ++ Some id ∷ []
  pub behind : ((more ≡ true) × (mid.token.kind ≡ Comma) × Moved text f mid q) ⊎ ((more ≡ false) × (mid.token.kind ≡ Comma → ⊥) × (q ≡ mid))

abbrev pub ReadsOneDeclarator : Bool → List (Option NodeId) → List (Option NodeId) → Parser → Parser → Result Bool Stop → Type 0
ReadsOneDeclarator c ids js p q (Ok more) = (text : List ℕ) (f : Flags) → At text f p → OneDeclarator text f c p q ids js more
ReadsOneDeclarator c ids js p q (Err e) = (text : List ℕ) (f : Flags) → At text f p → Stops p q e (NoOne text (declarator c f) p.prev_token_end)

-- From the place s to the place s' the list is derived as these slots; and whatever is derived from s, before what ends a declaration, is this.
pub record AllOf (text : List ℕ) (g : G) (s s' : ℕ) (us : Slots) (pass : Lexemes → Lexemes) : Type 0 where
  pub reach : ℕ
  pub near : reach ≤ s'
  pub passes : Passes (Lex text) s s' pass
  pub sound : (ls : Lexemes) → Lexes (Lex text) s' ls → Reaches reach s' ls → Takes rule g end us s (pass ls) end s' ls
  pub only : (ts : Slots) (k : ℕ) (ls rest : Lexemes) → Lexes (Lex text) s ls → Takes rule g end ts s ls end k rest → IsTrue (seen (ends_row (edge after_word after_word ts)) (here rest)) → (ts ≡ us) × (k ≡ s') × Lexes (Lex text) s' rest × (ls ≡ pass rest)

-- none is derived from there
pub record NoneOf (text : List ℕ) (g : G) (s : ℕ) : Type 0 where
  pub no : (ts : Slots) (k : ℕ) (ls rest : Lexemes) → Lexes (Lex text) s ls → Takes rule g end ts s ls end k rest → IsTrue (seen (ends_row (edge after_word after_word ts)) (here rest)) → ⊥

-- All declarators were read.
pub record Declarators (text : List ℕ) (f : Flags) (c : Bool) (p q : Parser) (ids : List (Option NodeId)) : Type 0 where
  pub at : At text f q
  pub same : Same p q
  pub further : p.prev_token_end < q.prev_token_end
  pub slots : Slots
  pub pass : Lexemes → Lexemes
  pub walked : Walked text (spot p) (spot q) pass
  pub verdict : Verdict (f.wide ≡ true) p.errors q.errors (AllOf text (list_of c f) p.prev_token_end q.prev_token_end slots pass) (NoneOf text (list_of c f) p.prev_token_end)
  pub stops : f.in_ ≡ true → (y : Lexeme) → Plain text q.prev_token_end y → IsTrue (seen (stops_row (edge after_word after_word slots)) y)
  pub holds : HoldsAll q.nodes (length p.nodes) (length q.nodes) ids slots
  pub keeps : Keeps p.nodes q.nodes

abbrev pub DeclaratorsRead : Bool → Parser → Parser → List (Option NodeId) → Type 0
DeclaratorsRead c p q ids = (text : List ℕ) (f : Flags) → At text f p → Declarators text f c p q ids

abbrev pub NoDeclarators : Bool → Parser → Parser → Stop → Type 0
NoDeclarators c p q e = (text : List ℕ) (f : Flags) → At text f p → Stops p q e (NoneOf text (list_of c f) p.prev_token_end)
