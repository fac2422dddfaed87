-- What the parse functions of import clauses answer (ECMA-262, 16.2.2).
use Rattle.std.specs.Prelude.{ℕ, ◌≡◌, List, Option, length}
use Rattle.js_base.specs.declared.diagnostic.Diagnostic.{Diagnostic}
use Rattle.js_base.specs.declared.diagnostic.DiagnosticKind.TheVariants.{ImportEqualsInTs}
use Rattle.js_base.specs.declared.kind.Kind.TheVariants.{As, From, Star}
use Rattle.js_base.specs.declared.span.Span.{Span}
use Rattle.js_grammar.specs.Grammar.{Look, is, nothing, ◌▸◌, ◌◇◌}
use Rattle.js_grammar.specs.Parsing.{plain, full, Fails}
use Rattle.js_grammar.specs.Productions.{G, Flags, mk, tok, BindingIdentifier}
use Rattle.js_grammar.specs.Productions.{sym as symbol}
use Rattle.js_grammar.specs.Table.{rule, import_clause}
use Rattle.js_grammar.specs.Trees.{Slots, append, end, import_default_specifier, import_namespace_specifier}
use Rattle.laws_shared.specs.js_tree.Holding.{HoldsAll, Keeps}
use Rattle.laws_shared.specs.js_tree.declared.id.NodeId.{NodeId}
use Rattle.laws_shared.specs.js_cursor.Parsers.{Parser}
use Rattle.laws_shared.specs.js_cursor.declared.stop.Stop.{Stop}
use Rattle.laws_shared.specs.Answers.{Stops}
use Rattle.laws_shared.specs.Arguments.{Partway}
use Rattle.laws_shared.specs.Lexemes.{Lex}
use Rattle.laws_shared.specs.Paths.{Path}
use Rattle.laws_shared.specs.States.{At, Same}
use Rattle.laws_shared.specs.Told.{unrelated_at}
use Rattle.laws_modules.specs.declared.forms.NameList.TheVariants.{Imports}
use Rattle.laws_modules.specs.NameLists.{list_of}

-- a name for the default export; for all of them; names of some
abbrev pub default_part : Flags → G
default_part f = mk import_default_specifier (symbol BindingIdentifier f)

abbrev pub namespace_part : Flags → G
namespace_part f = mk import_namespace_specifier (tok Star ▸ tok As ▸ symbol BindingIdentifier f)

abbrev pub other_parts : Flags → G
other_parts f = namespace_part f ◇ list_of Imports f

-- Those of the two last kinds were read, behind the children that there were already.
abbrev pub OthersTaken : List (Option NodeId) → List (Option NodeId) → Parser → Parser → Type 0
OthersTaken ids js p q = (text : List ℕ) (f : Flags) → At text f p → Partway text f (other_parts f) nothing p q ids js

abbrev pub NoOthers : Parser → Parser → Stop → Type 0
NoOthers p q e = (text : List ℕ) (f : Flags) → At text f p → Stops p q e (Fails rule (Lex text) (plain full) end (other_parts f) p.prev_token_end)

-- the word behind a clause
abbrev pub ends_clause : Look
ends_clause k w e = is From k w e

abbrev pub NoImports : List ℕ → Flags → ℕ → Type 0
NoImports text f s = Fails rule (Lex text) (plain ends_clause) end (import_clause f) s

-- A clause was read: before `from` it is this, or none is derived.
pub record ImportsRead (text : List ℕ) (f : Flags) (p q : Parser) (ids : List (Option NodeId)) : Type 0 where
  pub same : Same p q
  pub slots : Slots → Slots
  pub puts : (us : Slots) → slots us ≡ append (slots end) us
  pub path : Path text f (plain ends_clause) (import_clause f) p nothing q slots
  pub held : HoldsAll q.nodes (length p.nodes) (length q.nodes) ids (slots end)
  pub keeps : Keeps p.nodes q.nodes

abbrev pub ImportsTaken : List (Option NodeId) → Parser → Parser → Type 0
ImportsTaken ids p q = (text : List ℕ) (f : Flags) → At text f p → ImportsRead text f p q ids

abbrev pub ImportsStop : Parser → Parser → Stop → Type 0
ImportsStop p q e = (text : List ℕ) (f : Flags) → At text f p → Stops p q e (NoImports text f p.prev_token_end)

-- what is told of an import of TypeScript
abbrev pub import_equals : Span → Diagnostic
import_equals s = unrelated_at ImportEqualsInTs s
