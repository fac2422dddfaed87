-- Classes (ECMA-262, 15.7): what stands before their bodies, and the whole.
use Rattle.std.specs.Prelude.{ℕ, ◌≡◌, true, false, List, [], ◌∷◌, ◌++◌, Option, Some, None, Result, Ok, Err}
use Rattle.js_base.specs.declared.diagnostic.Diagnostic.{Diagnostic}
use Rattle.js_base.specs.declared.kind.Kind.TheVariants.{Extends}
use Rattle.js_base.specs.declared.span.Span.{Span}
use Rattle.js_grammar.specs.Trees.{Label, NodeKind, end, class_declaration, class_expression, no_op}
use Rattle.js_grammar.specs.Grammar.{keep, kept, many, ◌▸◌}
use Rattle.js_grammar.specs.Parsing.{plain, full, Fails}
use Rattle.js_grammar.specs.Productions.{G, Flags, Name, slot, tok, BindingIdentifier, Class, ClassBody, ClassExpr, Decorator, LeftHandSide}
use Rattle.js_grammar.specs.Productions.{sym as symbol}
use Rattle.js_grammar.specs.Table.{rule, class_tail}
use Rattle.laws_shared.specs.js_tree.declared.id.NodeId.{NodeId}
use Rattle.laws_shared.specs.js_tree.declared.kind.NodeKind.TheVariants as node
use Rattle.laws_shared.specs.js_tree.declared.op.Op.TheVariants as op
use Rattle.laws_shared.specs.js_cursor.Parsers.{Parser}
use Rattle.laws_shared.specs.js_cursor.declared.stop.Stop.{Stop}
use Rattle.laws_shared.specs.Answers.{Stops}
use Rattle.laws_shared.specs.Arguments.{Partway}
use Rattle.laws_shared.specs.Lexemes.{Lex}
use Rattle.laws_shared.specs.Moves.{TakesLeaf}
use Rattle.laws_shared.specs.Stands.{NameHere, StandsHere}
use Rattle.laws_shared.specs.States.{At}
use Rattle.laws_primary.specs.declared.forms.ClassForm.{ClassForm}
use Rattle.laws_primary.specs.declared.forms.ClassForm.TheVariants.{Declaration, Expression}

-- its nonterminal
abbrev pub class_name : ClassForm → Name
class_name Declaration = Class
class_name Expression = ClassExpr

-- the kind of its node, and the label of one without flags
abbrev pub node_of_class : ClassForm → NodeKind
node_of_class Declaration = class_declaration
node_of_class Expression = class_expression

abbrev pub class_label : ClassForm → ℕ → ℕ → Label
class_label form from to = record { kind = node_of_class form; op = no_op; flags = 0; span = record { from = from; to = to } }

-- its name: a declaration has one
abbrev pub name_part : ClassForm → Flags → G
name_part Declaration f = symbol BindingIdentifier f
name_part Expression f = slot (symbol BindingIdentifier f)

-- what stands behind its heritage, and behind its name; no decorator is kept
abbrev pub behind_heritage : Flags → G
behind_heritage f = symbol ClassBody f ▸ kept

abbrev pub behind_name : Flags → G
behind_name f = slot (tok Extends ▸ symbol LeftHandSide f) ▸ behind_heritage f

-- the slots of its node
abbrev pub class_slots : ClassForm → Flags → G
class_slots form f = keep (many (symbol Decorator f)) (class_tail (name_part form f) f)

-- nothing of these slots is derived from the place
abbrev pub NoClass : List ℕ → ClassForm → Flags → ℕ → Type 0
NoClass text form f s = Fails rule (Lex text) (plain full) end (class_slots form f) s

-- nor what is behind `class`; nor what is behind the name
abbrev pub NoNamed : List ℕ → ClassForm → Flags → ℕ → Type 0
NoNamed text form f s = Fails rule (Lex text) (plain full) end (name_part form f ▸ behind_name f) s

abbrev pub NoHeritage : List ℕ → Flags → ℕ → Type 0
NoHeritage text f s = Fails rule (Lex text) (plain full) end (behind_name f) s

-- The name of a class was read; or none stands here, which is so of an expression alone.
abbrev pub NamesClass : ClassForm → Parser → Parser → Result (Option NodeId) Stop → Type 0
NamesClass form old new (Ok (Some id)) = NameHere old true × TakesLeaf node.BindingIdentifier op.None old new id
NamesClass form old new (Ok None) = (form ≡ Expression) × NameHere old false × (new ≡ old)
NamesClass form old new (Err e) = (text : List ℕ) (f : Flags) → At text f old → Stops old new e (NoNamed text form f old.prev_token_end)

-- Its heritage was read, behind some children; or none stands here.
abbrev pub TakesHeritage : Parser → Parser → Result (Option NodeId) Stop → Type 0
TakesHeritage old new (Ok (Some id)) = (text : List ℕ) (f : Flags) (ids : List (Option NodeId)) → At text f old → Partway text f (behind_name f) (behind_heritage f) old new ids (ids ++ Some id ∷ [])
TakesHeritage old new (Ok None) = StandsHere old Extends false × (new ≡ old)
TakesHeritage old new (Err e) = (text : List ℕ) (f : Flags) → At text f old → Stops old new e (NoHeritage text f old.prev_token_end)
