-- Names of imports and exports (ECMA-262, 16.2.2): a name, a word, or a string in which no surrogate is alone.
use Rattle.std.specs.Prelude.{ℕ, ◌≡◌, ◌⊎◌, Bool, true, false, not, List, Option, Some, None, Result, Ok, Err, chars, slice_range}
use Rattle.std.specs.Char.Utf16.{has_unpaired_surrogate}
use Rattle.js_base.specs.KindSets.{identifier_name_kinds}
use Rattle.js_base.specs.Kinds.{one_of_kinds}
use Rattle.js_base.specs.declared.diagnostic.Diagnostic.{Diagnostic}
use Rattle.js_base.specs.declared.diagnostic.DiagnosticKind.TheVariants.{ExportLoneSurrogate}
use Rattle.js_base.specs.declared.kind.Kind.{Kind}
use Rattle.js_base.specs.declared.kind.Kind.TheVariants.{Str}
use Rattle.js_base.specs.declared.span.Span.{Span}
use Rattle.js_base.specs.declared.token.Token.{Token}
use Rattle.js_grammar.specs.Conditions.{well_formed}
use Rattle.js_grammar.specs.Grammar.{Lexeme}
use Rattle.js_grammar.specs.Parsing.{plain, full, Fails}
use Rattle.js_grammar.specs.Productions.{Flags, ExportName}
use Rattle.js_grammar.specs.Productions.{sym as symbol}
use Rattle.js_grammar.specs.Strings.{string_kind}
use Rattle.js_grammar.specs.Table.{rule}
use Rattle.js_grammar.specs.Trees.{end}
use Rattle.laws_shared.specs.js_tree.declared.id.NodeId.{NodeId}
use Rattle.laws_shared.specs.js_tree.declared.kind.NodeKind.{NodeKind}
use Rattle.laws_shared.specs.js_tree.declared.kind.NodeKind.TheVariants as node
use Rattle.laws_shared.specs.js_tree.declared.op.Op.TheVariants as op
use Rattle.laws_shared.specs.js_cursor.Parsers.{Parser}
use Rattle.laws_shared.specs.js_cursor.declared.stop.Stop.{Stop}
use Rattle.laws_shared.specs.Answers.{Stops}
use Rattle.laws_shared.specs.Lexemes.{Lex}
use Rattle.laws_shared.specs.Moves.{TakesLeaf}
use Rattle.laws_shared.specs.NodeTexts.{SpellsName}
use Rattle.laws_shared.specs.States.{At}
use Rattle.laws_shared.specs.Told.{unrelated_at}

-- no surrogate of the string with these code units is alone
abbrev pub is_paired : Option (List ℕ) → Bool
is_paired (Some us) = not (has_unpaired_surrogate us)
is_paired None = true

-- whether that is so of the string that stands here
abbrev pub PairedHere : Parser → Bool → Type 0
PairedHere p b = (text : List ℕ) (f : Flags) → At text f p → (y : Lexeme) → Lex text p.prev_token_end y → well_formed false y.units ≡ b

-- a name of an import or an export stands here
abbrev pub NamesExport : Parser → Type 0
NamesExport p = (one_of_kinds identifier_name_kinds p.token.kind ≡ true) ⊎ ((p.token.kind ≡ Str) × PairedHere p true)

-- the kind of its node, by that of its lexeme
abbrev pub export_node : Kind → NodeKind
export_node Str = node.StringLiteral
export_node _ = node.IdentifierName

-- the token spells a name or a string
abbrev pub SpellsExport : List ℕ → Token → Type 0
SpellsExport text t = (t.kind ≡ Str → string_kind (chars (slice_range text t.span.start t.span.end)) ≡ Some Str) × (one_of_kinds identifier_name_kinds t.kind ≡ true → SpellsName text t)

abbrev pub NoExportName : List ℕ → Flags → ℕ → Type 0
NoExportName text f s = Fails rule (Lex text) (plain full) end (symbol ExportName f) s

-- One was passed, and a node of it made; or none stands here.
abbrev pub TakesExportName : Parser → Parser → Result NodeId Stop → Type 0
TakesExportName old new (Ok id) = NamesExport old × TakesLeaf (export_node old.token.kind) op.None old new id
TakesExportName old new (Err e) = (text : List ℕ) (f : Flags) → At text f old → Stops old new e (NoExportName text f old.prev_token_end)

-- what is told of a string in which a surrogate is alone
abbrev pub lone_surrogate : Span → Diagnostic
lone_surrogate s = unrelated_at ExportLoneSurrogate s
