-- Fields of classes (ECMA-262, 15.7), and those of `accessor` (of the proposal of decorators).
use Rattle.std.specs.Prelude.{ℕ, ◌≡◌, ◌≤◌, ◌⊎◌, Bool, true, false, List, [], ◌∷◌, Result, Ok, Err}
use Rattle.js_base.specs.declared.kind.Kind.TheVariants.{Eq, LParen}
use Rattle.js_base.specs.Kinds.{one_of_kinds}
use Rattle.js_grammar.specs.Trees.{Label, NodeKind, property_definition, accessor_property, no_op}
use Rattle.js_grammar.specs.Grammar.{Lexeme, Lexemes, ended, kept, seen, ◌▸◌}
use Rattle.js_grammar.specs.Insertion.{after_name, by_field}
use Rattle.js_grammar.specs.Parsing.{plain, full}
use Rattle.js_grammar.specs.Productions.{G, Flags, field_of, make, slot, Init}
use Rattle.js_grammar.specs.Productions.{sym as symbol}
use Rattle.js_grammar.specs.Table.{name}
use Rattle.laws_primary.specs.declared.forms.PropertyName.{PropertyName}
use Rattle.laws_primary.specs.js_tree.declared.id.NodeId.{NodeId}
use Rattle.laws_primary.specs.js_cursor.Moves.{Ends, MayEnd}
use Rattle.laws_primary.specs.js_cursor.Parsers.{Parser}
use Rattle.laws_primary.specs.js_cursor.declared.stop.Stop.{Stop}
use Rattle.laws_primary.specs.laws_shared.Answers.{Stops, Stretch}
use Rattle.laws_primary.specs.laws_shared.Lexemes.{Lex, Walked, spot}
use Rattle.laws_primary.specs.laws_shared.States.{At, Same}
use Rattle.laws_classes.specs.declared.forms.ElementHead.{ElementHead}
use Rattle.laws_classes.specs.declared.forms.FieldKind.{FieldKind}
use Rattle.laws_classes.specs.declared.forms.FieldKind.TheVariants.{Property, Accessor}
use Rattle.laws_classes.specs.Elements.{ElementOutcome, behind_kinds, element_flags}
use Rattle.laws_classes.specs.Names.{KeyRead}

-- the kind of its node
abbrev pub node_of_field : FieldKind → NodeKind
node_of_field Property = property_definition
node_of_field Accessor = accessor_property

abbrev pub field_label : FieldKind → ℕ → ℕ → ℕ → Label
field_label k fl from to = record { kind = node_of_field k; op = no_op; flags = fl; span = record { from = from; to = to } }

-- its name, and its initialiser or none
abbrev pub field_parts : Bool → Flags → G
field_parts c f = name c true f ▸ slot (symbol Init (field_of f))

-- Nothing was read that is a child, and maybe no lexeme: g is read from `first` on as g' is from here on.
pub record Begins (text : List ℕ) (f : Flags) (g g' : G) (first p : Parser) : Type 0 where
  pub at : At text f p
  pub same : Same first p
  pub nodes : p.nodes ≡ first.nodes
  pub kept : p.errors ≡ first.errors
  pub forward : first.token.span.start ≤ p.token.span.start
  pub pass : Lexemes → Lexemes
  pub walked : Walked text (spot first) (spot p) pass
  pub goes : Stretch text (plain full) g first.prev_token_end g' p.prev_token_end (λ us. us) pass

-- The name of a field was read, which is the lexeme `word` or begins with it; whichever lexeme stands behind it, the word is no `static`, `get` or `set` before that one.
pub record FieldNamed (text : List ℕ) (f : Flags) (s g c : Bool) (g0 : G) (first p q : Parser) (key : NodeId) : Type 0 where
  pub begins : Begins text f g0 (ended (by_field s g) (field_parts c f) ▸ kept) first p
  pub named : KeyRead text f c p q key
  pub word : Lexeme
  pub only : (y : Lexeme) → Lex text p.prev_token_end y → y ≡ word
  pub plain : (y : Lexeme) → Lex text q.prev_token_end y → seen (after_name s g word) y ≡ one_of_kinds (Eq ∷ LParen ∷ []) y.kind

-- From the state `first`, where the element began, up to the old one its name was read; now its initialiser is, if it has one, and its end.
abbrev pub ReadsField : ElementHead → FieldKind → PropertyName → Parser → Parser → Result NodeId Stop → Type 0
ReadsField h k n old new r = (text : List ℕ) (f : Flags) (s g : Bool) (g0 : G) (first p : Parser) → At text f first → h.start ≡ first.token.span.start → FieldNamed text f s g n.computed g0 first p old n.key → ElementOutcome text f (make (node_of_field k) no_op (element_flags h.is_static n.computed) g0) first new r

-- The semicolon of a field was passed or left out, before what may stand behind an element.
abbrev pub EndsField : Parser → Parser → Type 0
EndsField old new = (one_of_kinds behind_kinds old.token.kind ≡ true) × Ends old new

-- a field doesn't end here
abbrev pub NoFieldEnd : Parser → Type 0
NoFieldEnd p = (one_of_kinds behind_kinds p.token.kind ≡ false) ⊎ (MayEnd p → ⊥)

abbrev pub EndsFieldOr : Parser → Parser → Result (Unit {0}) Stop → Type 0
EndsFieldOr old new (Ok x) = EndsField old new
EndsFieldOr old new (Err e) = Stops old new e (NoFieldEnd old)
