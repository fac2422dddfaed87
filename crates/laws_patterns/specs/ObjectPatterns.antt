-- What the parse functions of object patterns speak of (ECMA-262, 14.3.3).
use Rattle.std.specs.Prelude.{ℕ, ◌≡◌, ◌<◌, Bool, true, false, List, length, Result, Ok, Err}
use Rattle.js_base.specs.declared.kind.Kind.TheVariants.{RCurly}
use Rattle.js_base.specs.declared.span.Span.{Span}
use Rattle.js_grammar.specs.Trees.{Label, NodeKind, Slots, tree, no_op, assignment_pattern, binding_identifier, binding_property}
use Rattle.js_grammar.specs.Grammar.{Lexemes, ahead, never, nothing, ◌▸◌, ◌◇◌}
use Rattle.js_grammar.specs.Parsing.{Fails}
use Rattle.js_grammar.specs.Trees.{end}
use Rattle.js_grammar.specs.Productions.{G, Flags, at, tok, items, make, mk, plus_in, shorthand_flag, BindingIdentifier, IdentifierName, Init, PatternProperty}
use Rattle.js_grammar.specs.Productions.{sym as symbol}
use Rattle.js_grammar.specs.Table.{bound_rest, rest_of, rule}
use Rattle.laws_shared.specs.js_tree.declared.id.NodeId.{NodeId}
use Rattle.laws_shared.specs.js_tree.declared.kind.NodeKind.TheVariants as node
use Rattle.laws_shared.specs.js_tree.declared.op.Op.TheVariants as op_made
use Rattle.laws_shared.specs.js_tree.Holding.{Holds, Keeps}
use Rattle.laws_shared.specs.js_cursor.Parsers.{Parser}
use Rattle.laws_shared.specs.js_cursor.declared.stop.Stop.{Stop}
use Rattle.laws_primary.specs.PropertyNames.{NameRead}
use Rattle.laws_primary.specs.declared.forms.PropertyName.{PropertyName}
use Rattle.laws_shared.specs.Arguments.{ItemOutcome, behind_item}
use Rattle.laws_shared.specs.Answers.{Stops, Stretch, Verdict}
use Rattle.laws_shared.specs.Lexemes.{Lex, Walked, may_name, spot}
use Rattle.laws_shared.specs.Moves.{Moved, TakesLeaf}
use Rattle.laws_shared.specs.States.{At, Same}
use Rattle.laws_patterns.specs.Bindings.{PartOutcome}

-- a rest, which binds a name
abbrev pub named_rest : Flags → G
named_rest f = bound_rest f (symbol BindingIdentifier f)

abbrev pub ReadsNamedRest : Parser → Parser → Result NodeId Stop → Type 0
ReadsNamedRest p q r = (text : List ℕ) (f : Flags) → At text f p → PartOutcome text f (named_rest f) p q r

-- from a property of an object pattern or a rest on up to the closing brace
abbrev pub properties_left : Flags → G
properties_left f = items never (symbol PatternProperty f) (rest_of f (named_rest f)) ▸ tok RCurly

-- what a shorthand binds, and the shorthand
abbrev pub bound_by_name : Flags → G
bound_by_name f = symbol BindingIdentifier f ◇ mk assignment_pattern (symbol BindingIdentifier f ▸ symbol Init (plus_in f))

abbrev pub shorthand_of : Flags → G
shorthand_of f = make binding_property no_op shorthand_flag (ahead (symbol IdentifierName f) ▸ bound_by_name f)

abbrev pub NoShorthand : List ℕ → Flags → ℕ → Type 0
NoShorthand text f s = Fails rule (Lex text) behind_item end (shorthand_of f) s

-- the label of a property
abbrev pub property_label : ℕ → Span → Label
property_label n s = record { kind = binding_property; op = no_op; flags = n; span = record { from = s.start; to = s.end } }

-- whether a node of this kind is a name that is bound
abbrev pub BindsName : NodeKind → Bool → Type 0
BindsName k true = k ≡ binding_identifier
BindsName k false = k ≡ binding_identifier → ⊥

-- A name was passed, which is bound: two nodes were made of it, first its key.
pub record NamePassed (text : List ℕ) (f : Flags) (first keyed q : Parser) (binding : NodeId) : Type 0 where
  pub at : At text f first
  pub kind : may_name f.yield_ f.await_ first.token.kind ≡ true
  pub mid : Parser
  pub moved : Moved text f first mid
  pub stays : q ≡ record mid { nodes = q.nodes }
  pub same : Same first q
  pub holds : Holds q.nodes (length keyed.nodes) (length q.nodes) binding.0 (record { kind = binding_identifier; op = no_op; flags = 0; span = record { from = first.token.span.start; to = mid.prev_token_end } }) end
  pub keeps : Keeps keyed.nodes q.nodes
  pub from_first : Keeps first.nodes keyed.nodes

-- What is bound by a name was read, with an initialiser or without one. Clean: whatever is derived from the name before what may stand behind it is this; unclean: nothing is. A node made behind the key stands for it.
pub record BoundTaken (text : List ℕ) (f : Flags) (first keyed q : Parser) (id : NodeId) : Type 0 where
  pub at : At text f q
  pub same : Same first q
  pub further : first.token.span.start < q.prev_token_end
  pub label : Label
  pub slots : Slots
  pub pass : Lexemes → Lexemes
  pub walked : Walked text (spot first) (spot q) pass
  pub verdict : Verdict (f.wide ≡ true) first.errors q.errors (Stretch text behind_item (bound_by_name f) first.prev_token_end nothing q.prev_token_end (tree label slots) pass) (Fails rule (Lex text) behind_item end (bound_by_name f) first.prev_token_end)
  pub holds : Holds q.nodes (length keyed.nodes) (length q.nodes) id.0 label slots
  pub keeps : Keeps keyed.nodes q.nodes

abbrev pub BoundOutcome : List ℕ → Flags → Parser → Parser → Parser → Result NodeId Stop → Type 0
BoundOutcome text f first keyed q (Ok id) = BoundTaken text f first keyed q id
BoundOutcome text f first keyed q (Err e) = Stops first q e (Fails rule (Lex text) behind_item end (bound_by_name f) first.prev_token_end)

-- A name that is bound was passed from some state on, up to the old one; with what is read now that is what the name binds.
abbrev pub AddsInitialiser : ℕ → NodeId → Parser → Parser → Result NodeId Stop → Type 0
AddsInitialiser start binding old new r = (text : List ℕ) (f : Flags) (first keyed : Parser) → start ≡ first.token.span.start → NamePassed text f first keyed old binding → BoundOutcome text f first keyed new r

-- A name was read from some state on, up to the old one, and no shorthand is derived there; what is read now is what is bound by the name. The answer is of the state where the name began.
abbrev pub ReadsValue : ℕ → PropertyName → Parser → Parser → Result NodeId Stop → Type 0
ReadsValue start name old new r = (text : List ℕ) (f : Flags) (first : Parser) → At text f first → start ≡ first.token.span.start → NameRead text f name.computed first old name.key → NoShorthand text f first.prev_token_end → ItemOutcome text f (at PatternProperty f) first new r

-- A name was passed from some state on, up to the old one, where no colon stands; what is read now is the rest of a shorthand.
abbrev pub ReadsShorthand : Span → NodeId → Parser → Parser → Result NodeId Stop → Type 0
ReadsShorthand name key old new r = (text : List ℕ) (f : Flags) (first : Parser) → At text f first → name ≡ first.token.span → may_name f.yield_ f.await_ first.token.kind ≡ true → TakesLeaf node.IdentifierName op_made.None first old key → ItemOutcome text f (at PatternProperty f) first new r

-- the parser stops here, whatever was due
abbrev pub GivesUpThere : Parser → Parser → Stop → Type 0
GivesUpThere old new e = (text : List ℕ) (f : Flags) → At text f old → Stops old new e (Unit {0})
