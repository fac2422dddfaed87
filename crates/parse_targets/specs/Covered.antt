-- What an expression covers: the target that is derived from its lexemes (ECMA-262, 13.15.5).
use Rattle.std.specs.Prelude.{ℕ, ◌≡◌, Bool, true, cond, List, [], drop, length, Option, Some, None, Result, Ok, Err, IsCharBoundary, IsUtf8}
use Rattle.std.specs.List.{All}
use Rattle.js_grammar.specs.Grammar.{Lexemes, Derives}
use Rattle.js_grammar.specs.Lexed.{Lexes}
use Rattle.js_grammar.specs.LexicalFaults.{Reached}
use Rattle.js_grammar.specs.Productions.{Flags, Symbol, at, plus_in, Assignment}
use Rattle.js_grammar.specs.Table.{rule}
use Rattle.js_grammar.specs.Trees.{Label, Slots, Tree, tree, end, assignment_target_with_default}
use Rattle.js_grammar.specs.CoverInitialisers.{is_property}
use Rattle.parse_shared.specs.js_tree.declared.id.NodeId.{NodeId}
use Rattle.parse_shared.specs.js_tree.Holding.{Holds, Keeps}
use Rattle.parse_shared.specs.js_tree.Nodes.{Node}
use Rattle.parse_shared.specs.js_cursor.Moves.{GivesUp, IsUnexpected}
use Rattle.parse_shared.specs.js_cursor.Parsers.{Parser}
use Rattle.parse_shared.specs.js_cursor.declared.stop.Stop.{Stop}
use Rattle.parse_shared.specs.js_cursor.declared.stop.Stop.TheVariants.{Fatal, NoMemory}
use Rattle.parse_shared.specs.laws_shared.Answers.{Stops, Verdict}
use Rattle.parse_shared.specs.laws_shared.Lexemes.{Lex}
use Rattle.parse_shared.specs.laws_shared.States.{At, Same}
use Rattle.parse_targets.specs.Taken.{EachTold, PlacesTold}
use Rattle.parse_targets.specs.Targets.{Each, Narrow, OfTarget, Reused, in_literal, in_property, within, is_assignment, is_literal, is_object, literal_kind, operator_places, property_places, places_in, made_span, Converted, Noted, OfNode, one_node, elements_in, literal_tree, property_slot, relabelled, slot_of, target_by, target_of}
use Rattle.parse_targets.specs.declared.widening.Widening.{Widening}

-- ---- what was read

-- The symbol derives this tree from lexemes of the text, and no other one from the same lexemes.
pub record OnlyTree (text : List ℕ) (n : Symbol) (t : Tree) (place : ℕ) (ls : Lexemes) (j : ℕ) (rest : Lexemes) : Type 0 where
  pub utf8 : IsUtf8 text
  pub reached : Reached text place
  pub between : IsCharBoundary text place
  pub lexed : Lexes (Lex text) place ls
  pub derived : Derives rule n t place ls j rest
  pub only : (u : Tree) → Derives rule n u place ls j rest → u ≡ t

-- The node stands for the only tree that a symbol derives from lexemes of the text.
pub record Read (text : List ℕ) (n : Symbol) (ns : List Node) (id : NodeId) : Type 0 where
  pub lo : ℕ
  pub hi : ℕ
  pub label : Label
  pub slots : Slots
  pub holds : Holds ns lo hi id.0 label slots
  pub place : ℕ
  pub lexemes : Lexemes
  pub behind : ℕ
  pub rest : Lexemes
  pub only : OnlyTree text n (record { label = label; slots = slots }) place lexemes behind rest

-- The same in a parser's text, under parameters of a cover grammar with targets in their wider form: with this label.
pub record ReadBefore (n : Flags → Symbol) (Is : Label → Type 0) (p : Parser) (id : NodeId) : Type 0 where
  pub flags : Flags
  pub cover : flags.cover ≡ true
  pub wide : flags.wide ≡ true
  pub read : Read p.text (n flags) p.nodes id
  pub is : Is read.label

-- ---- what is answered

-- The target that is derived from the same lexemes, and its node, which reaches numbers that the expression reached or that were given in the call, and no other; what was made is of targets alone, so each other expression inside is the same node. What is told: one diagnostic of each of these places where the expression is wider than a target may be, in their order, and nothing else; so nothing where it is narrow at each.
pub record Covers (m : Symbol) {text : List ℕ} {n : Symbol} {from : NodeId} (places : Label → Slots → List Widening) (old new : Parser) (x : Read text n old.nodes from) (id : NodeId) : Type 0 where
  pub target : Tree
  pub derived : Derives rule m target x.place x.lexemes x.behind x.rest
  pub holds : Holds new.nodes x.lo (length new.nodes) id.0 target.label target.slots
  pub reused : Each (Reused (x.holds).numbers (length old.nodes) (length new.nodes)) holds.numbers
  pub keeps : Keeps old.nodes new.nodes
  pub made : All OfTarget (drop (length old.nodes) new.nodes)
  pub is : new ≡ record old { nodes = new.nodes; errors = new.errors }
  pub at : (text : List ℕ) (f : Flags) → At text f old → At text f new
  pub same : Same old new
  pub told : Verdict ⊥ old.errors new.errors (Each (Narrow text) (places x.label x.slots)) (Each (Narrow text) (places x.label x.slots) → ⊥)
  pub each : EachTold text (places x.label x.slots) old.errors new.errors

-- no target is derived from the same lexemes
abbrev pub NoneCovered : Symbol → {text : List ℕ} {n : Symbol} {ns : List Node} {from : NodeId} → Read text n ns from → Type 0
NoneCovered m x = (t : Tree) → Derives rule m t x.place x.lexemes x.behind x.rest → ⊥

-- No target is derived from the same lexemes, and what stands here was told. Nodes may have been made before that was known.
pub record Refused (m : Symbol) {text : List ℕ} {n : Symbol} {from : NodeId} (old new : Parser) (x : Read text n old.nodes from) : Type 0 where
  pub none : NoneCovered m x
  pub nodes : List Node
  pub keeps : Keeps old.nodes nodes
  pub told : GivesUp (IsUnexpected (record old { nodes = nodes })) (record old { nodes = nodes }) new Fatal
  pub stops : Stops old new Fatal (NoneCovered m x)

abbrev pub Stopped : Symbol → {text : List ℕ} {n : Symbol} {from : NodeId} (old new : Parser) → Read text n old.nodes from → Stop → Type 0
Stopped m old new x Fatal = Refused m old new x
Stopped m old new x NoMemory = Unit {0}

-- of each tree that the node stands for
abbrev pub CoversOr : Symbol → {text : List ℕ} {n : Symbol} {from : NodeId} (places : Label → Slots → List Widening) (old new : Parser) → Read text n old.nodes from → Result NodeId Stop → Type 0
CoversOr m places old new x (Ok id) = Covers m places old new x id
CoversOr m places old new x (Err e) = Stopped m old new x e

-- An expression of the symbol n with such a label is answered as a target of the symbol m, over the same lexemes. The node is any that was read, and the parameters are any of a cover grammar with targets in their wider form.
abbrev pub CoversAs : (Flags → Symbol) → (Label → Type 0) → (Flags → Symbol) → (Label → Slots → List Widening) → NodeId → Parser → Parser → Result NodeId Stop → Type 0
CoversAs n Is m places from old new r = (f : Flags) → f.cover ≡ true → f.wide ≡ true → (x : Read old.text (n f) old.nodes from) → Is x.label → CoversOr (m f) places old new x r

-- ---- the symbols

-- an expression, as the element of a literal
abbrev pub an_expression : Flags → Symbol
an_expression f = at Assignment (plus_in f)

abbrev pub AnyLabel : Label → Type 0
AnyLabel l = Unit {0}

-- an array literal, or with true an object literal
abbrev pub IsLiteral : Bool → Label → Type 0
IsLiteral in_object l = l.kind ≡ literal_kind in_object

abbrev pub IsAssignment : Label → Type 0
IsAssignment l = is_assignment l.kind ≡ true

abbrev pub IsProperty : Label → Type 0
IsProperty l = is_property l.kind ≡ true

-- ---- where they may be wider

abbrev pub no_places : Label → Slots → List Widening
no_places l cs = []

-- in an array or object literal
abbrev pub in_a_literal : Label → Slots → List Widening
in_a_literal l cs = places_in (in_literal (is_object l.kind)) cs

-- of a target, which is no assignment
abbrev pub in_a_target : Label → Slots → List Widening
in_a_target l cs = cond (is_literal l.kind) (places_in (within l.kind) cs) []

-- of an element: an assignment by its operator, or a target
abbrev pub in_an_element : Label → Slots → List Widening
in_an_element l cs = cond (is_assignment l.kind) (operator_places l.op (made_span l.span)) (in_a_target l cs)

-- of a property
abbrev pub in_a_property : Label → Slots → List Widening
in_a_property l cs = property_places l (places_in in_property cs)

-- ---- what an expression is converted to

abbrev pub literal_answer : Label → Slots → Option Slots
literal_answer l cs = slot_of (literal_tree l (elements_in (in_literal (is_object l.kind)) cs))

abbrev pub simple_answer : Label → Slots → Option Slots
simple_answer l cs = slot_of (target_of l cs)

abbrev pub target_answer : Label → Slots → Option Slots
target_answer l cs = slot_of (target_by l cs (elements_in (within l.kind) cs))

-- an assignment, whatever its operator, is a target and its initialiser
abbrev pub element_answer : Label → Slots → Option Slots
element_answer l cs = cond (is_assignment l.kind) (Some (tree (relabelled assignment_target_with_default l) cs end)) (target_answer l cs)

abbrev pub property_answer : Label → Slots → Option Slots
property_answer l cs = property_slot l cs (elements_in in_property cs)

-- The node of an expression was converted to this, and its places were noted behind others.
abbrev pub Answered : (places : Label → Slots → List Widening) (slots : Label → Slots → Option Slots) → List Node → List Node → NodeId → Noted → Noted → Option NodeId → Type 0
Answered places slots os ns id noted notes found = OfNode os id (λ l cs rs. Converted os ns rs noted notes (places l cs) (one_node found) (slots l cs))

-- An assignment is answered as a target with an initialiser, whose slots are its own; and no assignment is refused.
abbrev pub KeepsInitialiser : NodeId → Parser → Parser → Result NodeId Stop → Type 0
KeepsInitialiser from old new (Ok id) = (f : Flags) (x : Read old.text (an_expression f) old.nodes from) → IsAssignment x.label → Holds new.nodes x.lo (length new.nodes) id.0 (relabelled assignment_target_with_default x.label) x.slots
KeepsInitialiser from old new (Err e) = e ≡ NoMemory

-- ---- what is told of a conversion

-- The target that was found, and what was told of its places; or none was found, and what stands here is told.
abbrev pub Finishes : Option NodeId → List Widening → Parser → Parser → Result NodeId Stop → Type 0
Finishes (Some id) ws old new (Ok t) = (t ≡ id) × PlacesTold ws old new
Finishes None ws old new (Ok t) = ⊥
Finishes (Some id) ws old new (Err Fatal) = ⊥
Finishes found ws old new (Err e) = GivesUp (IsUnexpected old) old new e

-- ---- numbers of nodes with types of their own

-- the node's number in an answer
abbrev pub numbered : {W : Type 0} → (W → NodeId) → Result W Stop → Result NodeId Stop
numbered number (Ok w) = Ok (number w)
numbered number (Err e) = Err e
