-- Declarations that begin with `var`, `let` or `const` (ECMA-262, 14.3.1, 14.3.2).
use Rattle.std.specs.Prelude.{ℕ, ◌<◌, ◌≡◌, List, length, Result, Ok, Err, true}
use Rattle.js_grammar.specs.Trees.{Label, Slots, end as no_slots, tree, variable_declaration}
use Rattle.js_grammar.specs.Grammar.{Lexemes, nothing, ended}
use Rattle.js_grammar.specs.Insertion.{by_edge}
use Rattle.js_grammar.specs.Parsing.{plain, Fails}
use Rattle.js_grammar.specs.Productions.{G, Flags, op}
use Rattle.js_grammar.specs.Table.{rule, declarators}
use Rattle.laws_shared.specs.js_tree.declared.id.NodeId.{NodeId}
use Rattle.laws_shared.specs.js_tree.declared.op.DeclarationKind.{DeclarationKind}
use Rattle.laws_shared.specs.js_tree.Holding.{Holds, Keeps}
use Rattle.laws_shared.specs.js_tree.Labels.{declaration_kind}
use Rattle.laws_shared.specs.js_cursor.Parsers.{Parser}
use Rattle.laws_shared.specs.js_cursor.declared.stop.Stop.{Stop}
use Rattle.laws_shared.specs.Answers.{Verdict, Stretch, Stops}
use Rattle.laws_shared.specs.Lexemes.{Lex, Walked, spot}
use Rattle.laws_shared.specs.States.{At, Same}
use Rattle.laws_shared.specs.Statements.{no_link}

-- the right side of its line
abbrev pub declaration : DeclarationKind → Flags → G
declaration k f = op variable_declaration (declaration_kind k) (ended by_edge (declarators (declaration_kind k) f))

abbrev pub NoDeclaration : List ℕ → DeclarationKind → Flags → ℕ → Type 0
NoDeclaration text k f s = Fails rule (Lex text) (plain no_link) no_slots (declaration k f) s

-- It was read up to its semicolon. Clean: whatever is derived from its beginning, and has no link behind it, is this; unclean: nothing is derived.
pub record Declaration (text : List ℕ) (f : Flags) (k : DeclarationKind) (old new : Parser) (id : NodeId) : Type 0 where
  pub at : At text f new
  pub same : Same old new
  pub further : old.token.span.start < new.prev_token_end
  pub label : Label
  pub kind_is : label.kind ≡ variable_declaration
  pub slots : Slots
  pub pass : Lexemes → Lexemes
  pub walked : Walked text (spot old) (spot new) pass
  pub verdict : Verdict (f.wide ≡ true) old.errors new.errors (Stretch text (plain no_link) (declaration k f) old.prev_token_end nothing new.prev_token_end (tree label slots) pass) (NoDeclaration text k f old.prev_token_end)
  pub holds : Holds new.nodes (length old.nodes) (length new.nodes) id.0 label slots
  pub keeps : Keeps old.nodes new.nodes

abbrev pub ReadsDeclaration : DeclarationKind → Parser → Parser → Result NodeId Stop → Type 0
ReadsDeclaration k old new (Ok id) = (text : List ℕ) (f : Flags) → At text f old → Declaration text f k old new id
ReadsDeclaration k old new (Err e) = (text : List ℕ) (f : Flags) → At text f old → Stops old new e (NoDeclaration text k f old.prev_token_end)
