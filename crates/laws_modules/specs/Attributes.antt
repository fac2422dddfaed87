-- What the parse functions of attributes answer (ECMA-262, 16.2.2).
use Rattle.std.specs.Prelude.{ℕ, ◌≡◌, ◌⊎◌, true, false, List, Option, Some, None, Result, Ok, Err}
use Rattle.js_base.specs.declared.diagnostic.Diagnostic.{Diagnostic}
use Rattle.js_base.specs.declared.diagnostic.DiagnosticKind.TheVariants.{ImportAttributeValueMustBeStringLiteral}
use Rattle.js_base.specs.declared.kind.Kind.TheVariants.{Assert, With}
use Rattle.js_base.specs.declared.span.Span.{Span}
use Rattle.js_grammar.specs.Grammar.{◌▸◌, ◌◇◌}
use Rattle.js_grammar.specs.Parsing.{plain, full, Fails}
use Rattle.js_grammar.specs.Productions.{G, Flags, op, tok, Attrs, IdentifierName}
use Rattle.js_grammar.specs.Productions.{sym as symbol}
use Rattle.js_grammar.specs.Table.{rule, string}
use Rattle.js_grammar.specs.Trees.{Label, end, import_attribute, no_op, with_clause}
use Rattle.laws_shared.specs.js_tree.Labels.{clause_kind}
use Rattle.laws_shared.specs.js_tree.declared.id.NodeId.{NodeId}
use Rattle.laws_shared.specs.js_tree.declared.op.ClauseWord.{ClauseWord}
use Rattle.laws_shared.specs.js_tree.declared.op.ClauseWord.TheVariants as clause
use Rattle.laws_shared.specs.js_cursor.Parsers.{Parser}
use Rattle.laws_shared.specs.js_cursor.declared.stop.Stop.{Stop}
use Rattle.laws_shared.specs.js_cursor.declared.stop.Stop.TheVariants.{Fatal, NoMemory}
use Rattle.laws_shared.specs.Answers.{Stops}
use Rattle.laws_shared.specs.Lexemes.{Lex}
use Rattle.laws_shared.specs.Methods.{WholeTaken}
use Rattle.laws_shared.specs.Stands.{StandsHere}
use Rattle.laws_shared.specs.States.{At}
use Rattle.laws_shared.specs.Told.{unrelated_at}
use Rattle.laws_modules.specs.declared.forms.NameList.TheVariants.{Attributes}
use Rattle.laws_modules.specs.NameLists.{list_of}

-- the key of an attribute
abbrev pub key_part : Flags → G
key_part f = symbol IdentifierName f ◇ string

-- what is told of a value that is no string
abbrev pub ill_valued : Span → Diagnostic
ill_valued s = unrelated_at ImportAttributeValueMustBeStringLiteral s

abbrev pub attribute_label : ℕ → ℕ → Label
attribute_label from to = record { kind = import_attribute; op = no_op; flags = 0; span = record { from = from; to = to } }

-- the word and the entries in their braces
abbrev pub with_line : ClauseWord → Flags → G
with_line w f = tok (clause_kind w) ▸ op with_clause (clause_kind w) (list_of Attributes f)

-- the word stands here, `assert` on the line of what stands before; neither does
abbrev pub BeginsClause : ClauseWord → Parser → Type 0
BeginsClause clause.With p = StandsHere p With true
BeginsClause clause.Assert p = StandsHere p Assert true × (p.token.is_on_new_line ≡ false)

abbrev pub NoClause : Parser → Type 0
NoClause p = StandsHere p With false × (StandsHere p Assert false ⊎ (p.token.is_on_new_line ≡ true))

abbrev pub FindsClause : Parser → Option ClauseWord → Type 0
FindsClause p (Some w) = BeginsClause w p
FindsClause p None = NoClause p

-- A clause was read: its node is one of a clause.
pub record ClauseTaken (text : List ℕ) (f : Flags) (p q : Parser) (id : NodeId) : Type 0 where
  pub whole : WholeTaken text f (symbol Attrs f) p q id
  pub is : whole.label.kind ≡ with_clause

-- Attributes were read; or none stand here.
abbrev pub TakesAttributes : Parser → Parser → Result (Option NodeId) Stop → Type 0
TakesAttributes old new (Ok (Some id)) = ((w : ClauseWord) × BeginsClause w old) × ((text : List ℕ) (f : Flags) → At text f old → ClauseTaken text f old new id)
TakesAttributes old new (Ok None) = NoClause old × (new ≡ old)
TakesAttributes old new (Err Fatal) = ((w : ClauseWord) × BeginsClause w old) × ((text : List ℕ) (f : Flags) → At text f old → Stops old new Fatal (Fails rule (Lex text) (plain full) end (symbol Attrs f) old.prev_token_end))
TakesAttributes old new (Err NoMemory) = Unit {0}

-- what the parse function of a clause answers
abbrev pub ClauseOf : Parser → Parser → NodeId → Type 0
ClauseOf p q id = (text : List ℕ) (f : Flags) → At text f p → ClauseTaken text f p q id

abbrev pub NoClauseOf : Parser → Parser → Stop → Type 0
NoClauseOf p q e = (text : List ℕ) (f : Flags) → At text f p → Stops p q e (Fails rule (Lex text) (plain full) end (symbol Attrs f) p.prev_token_end)
