-- The simple target that an expression stands for (ECMA-262, 8.6.4): a name or a member, in parentheses or not; links of an optional chain stand in a node of their own. A target has no node for its parentheses.
use Rattle.std.specs.Prelude.{ℕ, ◌≤◌, ◌<◌, ◌⊎◌, Bool, true, false, not, cond, ◌&&◌, ◌||◌, Option, Some, None, List, ◌≡◌, [], ◌∷◌, ◌++◌, drop, length, IsCharBoundary}
use Rattle.std.specs.List.{All}
use Rattle.js_base.specs.declared.kind.Kind.TheVariants.{Eq, Comma, Dot3, RBrack, RCurly}
use Rattle.js_base.specs.declared.span.Span.{Span}
use Rattle.js_base.specs.Kinds.{same_kind, one_of_kinds}
use Rattle.js_grammar.specs.Grammar.{Lexeme}
use Rattle.js_grammar.specs.LexicalFaults.{Reached}
use Rattle.js_grammar.specs.Productions.{has_flag, shorthand_flag}
use Rattle.parse_shared.specs.laws_shared.Lexemes.{Lex}
use Rattle.parse_targets.specs.declared.widening.Widening.{Widening}
use Rattle.parse_targets.specs.declared.widening.Widening.TheVariants.{Rest, RestTarget, Operator}
use Rattle.parse_targets.specs.declared.widening.Notes.{Notes}
use Rattle.parse_shared.specs.js_tree.declared.id.NodeId.{NodeId}
use Rattle.parse_shared.specs.js_tree.Nodes.{Node, label}
use Rattle.parse_shared.specs.js_tree.Holding.{Holds, Stands, StandsAll, Keeps, Made, AreDistinct}
use Rattle.js_grammar.specs.Trees.{Span as TreeSpan, NodeKind, Op, no_op, of, Label, Slots, end, hole, tree, Tree, identifier_reference, static_member_expression, computed_member_expression, private_field_expression, array_expression, object_expression, elision, spread_element, assignment_expression, array_assignment_target, object_assignment_target, assignment_target_rest, assignment_target_with_default, assignment_target_property_identifier, assignment_target_property_property, append}
use Rattle.js_grammar.specs.TreeForms.{are_none, is_parenthesized}
use Rattle.js_grammar.specs.CoverInitialisers.{is_property}
use Rattle.parse_shared.specs.laws_shared.NodeTexts.{is_textual}
use Rattle.parse_shared.specs.laws_shared.States.{NodesLie}

abbrev pub is_member : NodeKind → Bool
is_member static_member_expression = true
is_member computed_member_expression = true
is_member private_field_expression = true
is_member _ = false

abbrev pub is_name : NodeKind → Bool
is_name identifier_reference = true
is_name _ = false

-- an array literal, which is no simple target
abbrev pub is_array : NodeKind → Bool
is_array array_expression = true
is_array _ = false

abbrev pub is_object : NodeKind → Bool
is_object object_expression = true
is_object _ = false

-- an array or object literal
abbrev pub is_literal : NodeKind → Bool
is_literal k = is_array k || is_object k

-- of an object with true, of an array with false
abbrev pub literal_kind : Bool → NodeKind
literal_kind in_object = cond in_object object_expression array_expression

abbrev pub is_target : NodeKind → Bool
is_target k = is_name k || is_member k

-- of the one slot
abbrev pub target_in : Slots → Option Tree
target_in (tree l cs end) = cond (is_parenthesized l.kind) (target_in cs) (cond (is_target l.kind) (Some (record { label = l; slots = cs })) None)
target_in _ = None

abbrev pub target_of : Label → Slots → Option Tree
target_of l cs = target_in (tree l cs end)

-- the node of the target of a tree
pub record TargetNode (ns : List Node) (lo hi : ℕ) (l : Label) (cs : Slots) (id : NodeId) : Type 0 where
  pub tree : Tree
  pub is : target_of l cs ≡ Some tree
  pub holds : Holds ns lo hi id.0 tree.label tree.slots

abbrev pub IsTarget : List Node → ℕ → ℕ → Label → Slots → Option NodeId → Type 0
IsTarget ns lo hi l cs (Some id) = TargetNode ns lo hi l cs id
IsTarget ns lo hi l cs None = target_of l cs ≡ None

-- the node stands for a tree
pub record Stood (ns : List Node) (id : NodeId) : Type 0 where
  pub lo : ℕ
  pub hi : ℕ
  pub label : Label
  pub slots : Slots
  pub holds : Holds ns lo hi id.0 label slots

-- the one child of these, if there is one
abbrev pub Only : List (Option NodeId) → Option NodeId → Type 0
Only (Some id ∷ []) r = r ≡ Some id
Only _ r = r ≡ None

-- the two children of these, if there are two
abbrev pub Two : List (Option NodeId) → Option (NodeId × NodeId) → Type 0
Two (Some a ∷ Some b ∷ []) r = r ≡ Some (a, b)
Two _ r = r ≡ None

-- ---- the ArrayAssignmentPattern that an array literal covers, and the ObjectAssignmentPattern of an object literal (13.15.5)

abbrev pub is_elision : NodeKind → Bool
is_elision elision = true
is_elision _ = false

abbrev pub is_spread : NodeKind → Bool
is_spread spread_element = true
is_spread _ = false

abbrev pub is_assignment : NodeKind → Bool
is_assignment assignment_expression = true
is_assignment _ = false

abbrev pub is_equals : Op → Bool
is_equals (of k) = same_kind Eq k
is_equals _ = false

-- an assignment by another operator, as which no initialiser stands in a target
abbrev pub is_wide : Label → Bool
is_wide l = is_assignment l.kind && not (is_equals l.op)

-- of a literal
abbrev pub is_pattern : NodeKind → Bool
is_pattern array_assignment_target = true
is_pattern object_assignment_target = true
is_pattern _ = false

abbrev pub pattern_kind : Bool → NodeKind
pattern_kind in_object = cond in_object object_assignment_target array_assignment_target

-- the same lexemes, as a node of a target
abbrev pub relabelled : NodeKind → Label → Label
relabelled k l = record { kind = k; op = no_op; flags = 0; span = l.span }

-- Where slots stand: in a literal, of an object (true) or of an array, or in a property, as its name and its value.
pub data Within : Type 0 where
  in_literal : Bool → Within
  in_property : Within

abbrev pub within : NodeKind → Within
within k = cond (is_property k) in_property (in_literal (is_object k))

-- a target that an expression is: of a literal, by its own slots as elements
abbrev pub literal_tree : Label → Option Slots → Option Tree
literal_tree l (Some ds) = Some (record { label = relabelled (pattern_kind (is_object l.kind)) l; slots = ds })
literal_tree l None = None

abbrev pub target_by : Label → Slots → Option Slots → Option Tree
target_by l cs own = cond (is_literal l.kind) (literal_tree l own) (target_of l cs)

abbrev pub slot_of : Option Tree → Option Slots
slot_of (Some t) = Some (tree t.label t.slots end)
slot_of None = None

-- a rest is the last element, and its target has no initialiser
abbrev pub rest_slot : Bool → Label → Option Slots → Option Slots
rest_slot true l (Some (tree m ds end)) = cond (is_target m.kind || is_pattern m.kind) (Some (tree (relabelled assignment_target_rest l) (tree m ds end) end)) None
rest_slot _ l own = None

abbrev pub behind_first : Slots → Slots
behind_first (tree l cs us) = us
behind_first (hole us) = us
behind_first end = end

-- of the slots behind a name that is a property alone: its initialiser, if it has one
abbrev pub initialiser_in : Slots → Slots
initialiser_in (tree l cs us) = tree l cs end
initialiser_in us = hole end

abbrev pub reference_slot : Label → Slots → Option Slots
reference_slot l (tree m ds us) = Some (tree (relabelled assignment_target_property_identifier l) (tree m ds (initialiser_in us)) end)
reference_slot l us = None

-- a property that is a name alone, which stands there as a name and as a reference: the reference, and what it is initialised by
abbrev pub shorthand_slot : Label → Slots → Option Slots
shorthand_slot l cs = reference_slot l (behind_first cs)

-- a property with a name and a target
abbrev pub named_slot : Label → Option Slots → Option Slots
named_slot l (Some ts) = Some (tree (record { kind = assignment_target_property_property; op = no_op; flags = l.flags; span = l.span }) ts end)
named_slot l None = None

abbrev pub property_slot : Label → Slots → Option Slots → Option Slots
property_slot l cs own = cond (has_flag shorthand_flag l.flags) (shorthand_slot l cs) (named_slot l own)

-- An element, the last one or another. An assignment, whatever its operator, is a target and its initialiser.
abbrev pub element_slot : Bool → Label → Slots → Option Slots → Option Slots
element_slot last l cs own = cond (is_elision l.kind) (Some (hole end)) (cond (is_spread l.kind) (rest_slot last l own) (cond (is_assignment l.kind) (Some (tree (relabelled assignment_target_with_default l) cs end)) (cond (is_property l.kind) (property_slot l cs own) (slot_of (target_by l cs own)))))

abbrev pub followed : Option Slots → Slots → Option Slots
followed (Some ts) us = Some (append ts us)
followed None us = None

-- an element before the others
abbrev pub before_all : Label → Slots → Option Slots → Option Slots → Option Slots
before_all l cs own (Some us) = followed (element_slot (are_none us) l cs own) us
before_all l cs own None = None

-- a property's name, before its value
abbrev pub before_value : Label → Slots → Slots → Option Slots → Option Slots
before_value l cs (tree m ds end) (Some us) = Some (tree l cs us)
before_value l cs vs r = None

-- the elements of a literal, as those of a target; of a property, its name and its value as a target
abbrev pub elements_in : Within → Slots → Option Slots
elements_in (in_literal o) end = Some end
elements_in (in_literal o) (tree l cs us) = before_all l cs (elements_in (within l.kind) cs) (elements_in (in_literal o) us)
elements_in in_property (tree l cs us) = before_value l cs us (elements_in (in_literal false) us)
elements_in w _ = None

-- ---- where a literal may be wider than a target

abbrev pub made_span : TreeSpan → Span
made_span s = record { start = s.from; end = s.to }

-- of an assignment, by its operator
abbrev pub operator_places : Op → Span → List Widening
operator_places o s = cond (is_equals o) [] (Operator s ∷ [])

-- of a rest's argument, which in an object may be no literal
abbrev pub literal_places : Bool → NodeKind → Span → List Widening
literal_places o k s = cond (o && is_literal k) (RestTarget s ∷ []) []

abbrev pub argument_places : Bool → Slots → List Widening
argument_places o (tree m ds us) = literal_places o m.kind (made_span m.span)
argument_places o _ = []

-- in a property, whose value has these places
abbrev pub property_places : Label → List Widening → List Widening
property_places l ws = cond (has_flag shorthand_flag l.flags) [] ws

-- in an element, whose own slots have these places
abbrev pub places_of : Bool → Label → Slots → List Widening → List Widening
places_of o l cs ws = cond (is_spread l.kind) (ws ++ (argument_places o cs ++ Rest (made_span l.span) ∷ [])) (cond (is_literal l.kind) ws (cond (is_property l.kind) (property_places l ws) (cond (is_assignment l.kind) (operator_places l.op (made_span l.span)) [])))

abbrev pub places_in : Within → Slots → List Widening
places_in (in_literal o) (tree l cs us) = places_of o l cs (places_in (within l.kind) cs) ++ places_in (in_literal o) us
places_in in_property (tree l cs us) = places_in (in_literal false) us
places_in w _ = []

-- ---- what stands behind a rest

-- no comma
abbrev pub Open : List ℕ → ℕ → Type 0
Open text e = (y : Lexeme) → Lex text e y → y.kind ≡ Comma → ⊥

-- the closing bracket or brace
pub record Closed (text : List ℕ) (e : ℕ) : Type 0 where
  pub bracket : Lexeme
  pub stands : Lex text e bracket
  pub is : one_of_kinds (RBrack ∷ RCurly ∷ []) bracket.kind ≡ true

-- a comma, and behind it what closes
pub record Followed (text : List ℕ) (e : ℕ) : Type 0 where
  pub comma : Lexeme
  pub stands : Lex text e comma
  pub is : comma.kind ≡ Comma
  pub behind : Closed text comma.to

-- Lexemes lead there, and one of the two stands behind.
pub record Ended (text : List ℕ) (e : ℕ) : Type 0 where
  pub reached : Reached text e
  pub between : IsCharBoundary text e
  pub either : Closed text e ⊎ Followed text e

-- ---- what stands at such a place

-- each of the list is so
abbrev pub Each : {A : Type 0} → (A → Type 0) → List A → Type 0
Each P [] = Unit {0}
Each P (r ∷ rs) = P r × Each P rs

abbrev pub IsIn : {A : Type 0} → List A → A → Type 0
IsIn [] r = ⊥
IsIn (s ∷ ss) r = (s ≡ r) ⊎ IsIn ss r

-- it is as narrow there as a target has to be
abbrev pub Narrow : List ℕ → Widening → Type 0
Narrow text (Rest s) = Open text s.end
Narrow text (RestTarget s) = ⊥
Narrow text (Operator s) = ⊥

-- the same, and a bracket closes behind a rest
abbrev pub Shut : List ℕ → Widening → Type 0
Shut text (Rest s) = Closed text s.end
Shut text (RestTarget s) = ⊥
Shut text (Operator s) = ⊥

-- where the literal is a target, narrow or wide
abbrev pub Fits : List ℕ → Widening → Type 0
Fits text (Rest s) = Ended text s.end
Fits text (RestTarget s) = Unit {0}
Fits text (Operator s) = Unit {0}

-- A span of the text, from where a lexeme begins to where one ends.
pub record Spanned (text : List ℕ) (s : Span) : Type 0 where
  pub place : ℕ
  pub reached : Reached text place
  pub first : Lexeme
  pub stands : Lex text place first
  pub begins : first.from ≡ s.start
  pub begins_between : IsCharBoundary text s.start
  pub behind : ℕ
  pub reached_behind : Reached text behind
  pub final : Lexeme
  pub stands_behind : Lex text behind final
  pub ends : final.to ≡ s.end
  pub ends_between : IsCharBoundary text s.end
  pub ordered : s.start ≤ s.end

-- A spread begins with `...`.
abbrev pub Spotted : List ℕ → Widening → Type 0
Spotted text (Rest s) = (x : Spanned text s) × (x.first.kind ≡ Dot3) × (x.first.escaped ≡ false)
Spotted text (RestTarget s) = Spanned text s
Spotted text (Operator s) = Spanned text s

-- ---- what is noted of a conversion

-- places, and a spread that is no rest
pub record Noted : Type 0 where
  pub places : List Widening
  pub misplaced : Option Span

abbrev pub unnoted : Noted
unnoted = record { places = []; misplaced = None }

abbrev pub noted_in : Notes → Noted
noted_in n = record { places = n.places.items; misplaced = n.misplaced }

-- A spread among these was noted, or none.
abbrev pub Blames : List Widening → Noted → Noted → Type 0
Blames ws old new = (new.misplaced ≡ old.misplaced) ⊎ ((s : Span) × (new.misplaced ≡ Some s) × IsIn ws (Rest s))

-- ---- nodes of targets

-- it is one of these, or was given in the call
abbrev pub Reused : List ℕ → ℕ → ℕ → ℕ → Type 0
Reused rs lo hi r = IsIn rs r ⊎ ((lo ≤ r) × (r < hi))

-- a node of a target, as they are made of expressions
abbrev pub is_made : NodeKind → Bool
is_made array_assignment_target = true
is_made object_assignment_target = true
is_made assignment_target_rest = true
is_made assignment_target_with_default = true
is_made assignment_target_property_identifier = true
is_made assignment_target_property_property = true
is_made _ = false

abbrev pub OfTarget : Node → Type 0
OfTarget n = is_made (label n).kind ≡ true

-- all nodes that were made since are of targets: where those from a number on were, they still are
abbrev pub MakesTargets : List Node → List Node → Type 0
MakesTargets os ns = (k : ℕ) → All OfTarget (drop k os) → All OfTarget (drop k ns)

-- Children stand for slots, and reach no number twice.
pub record Slotted (os ns : List Node) (rs : List ℕ) (ids : List (Option NodeId)) (ts : Slots) : Type 0 where
  pub numbers : List ℕ
  pub stands : StandsAll ns (length ns) ids ts numbers
  pub reused : Each (Reused rs (length os) (length ns)) numbers
  pub distinct : AreDistinct numbers

-- What an expression is converted to: nodes were made, which lie where those did that they stand for, and its places were noted.
pub record Converts (os ns : List Node) (rs : List ℕ) (noted notes : Noted) (ws : List Widening) (ids : List (Option NodeId)) (r : Option Slots) : Type 0 where
  pub keeps : Keeps os ns
  pub slots : Slots
  pub is : r ≡ Some slots
  pub slotted : Slotted os ns rs ids slots
  pub places_are : notes.places ≡ noted.places ++ ws
  pub unblamed : notes.misplaced ≡ noted.misplaced
  pub lies : (text : List ℕ) → NodesLie text os → NodesLie text ns
  pub made : MakesTargets os ns

-- It is converted to nothing.
pub record RefusesTarget (os ns : List Node) (noted notes : Noted) (ws : List Widening) (r : Option Slots) : Type 0 where
  pub keeps : Keeps os ns
  pub lies : (text : List ℕ) → NodesLie text os → NodesLie text ns
  pub made : MakesTargets os ns
  pub is : r ≡ None
  pub blames : Blames ws noted notes

pub data Converted (os ns : List Node) (rs : List ℕ) (noted notes : Noted) (ws : List Widening) : Option (List (Option NodeId)) → Option Slots → Type 0 where
  converts : {ids : List (Option NodeId)} {r : Option Slots} → Converts os ns rs noted notes ws ids r → Converted os ns rs noted notes ws (Some ids) r
  refuses : {r : Option Slots} → RefusesTarget os ns noted notes ws r → Converted os ns rs noted notes ws None r

abbrev pub one_slot : Option (Option NodeId) → Option (List (Option NodeId))
one_slot (Some id) = Some (id ∷ [])
one_slot None = None

abbrev pub one_node : Option NodeId → Option (List (Option NodeId))
one_node (Some id) = Some (Some id ∷ [])
one_node None = None

-- the node's tree, whatever it is, and the numbers that it reaches
abbrev pub OfNode : List Node → NodeId → (Label → Slots → List ℕ → Type 0) → Type 0
OfNode ns id P = (l : Label) (cs : Slots) (rs : List ℕ) → Stands ns id.0 l cs rs → AreDistinct rs → P l cs rs

-- a node was made, which has this label and these children, and is no name and no string
pub record Noded (os ns : List Node) (l : Label) (ids : List (Option NodeId)) (id : NodeId) : Type 0 where
  pub node : Node
  pub made : Made node os ns id
  pub label_is : label node ≡ l
  pub children : node.children ≡ ids
  pub plain : is_textual node.kind ≡ false
