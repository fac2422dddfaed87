-- What literals are converted to, node by node (ECMA-262, 13.15.5).
use Rattle.std.proofs.Common.{ℕ, ◌≡◌, ◌<◌, ◌≤◌, inl, inr, zero, suc, ◌+◌, nat_eq, Bool, true, false, cond, ◌||◌, List, [], ◌∷◌, ◌++◌, length, drop, Option, Some, None, refl, sym, ap, subst, arith, ◌∙◌, append-nil, append_assoc}
use Rattle.std.specs.Prelude.{chars, slice_get}
use Rattle.std.proofs.Math.Seq.{drop-cons}
use Rattle.std.proofs.lemmas.Bool.{false≢true, or_left, or_right, eqb-true, eq-eqb}
use Rattle.std.proofs.lemmas.List.{get_or_append_left}
use Rattle.std.proofs.lemmas.Option.{slice_get_within, get_or_from_slice_get}
use Rattle.js_grammar.specs.Productions.{has_flag, shorthand_flag}
use Rattle.js_grammar.specs.Trees.{NodeKind, Op, Span, Label, Slots, end, hole, tree, Tree, append, elision, identifier_reference, static_member_expression, computed_member_expression, private_field_expression, parenthesized_expression, array_expression, object_expression, object_property, spread_element, assignment_target_rest, assignment_expression, assignment_target_with_default}
use Rattle.js_grammar.specs.TreeForms.{are_none, is_parenthesized}
use Rattle.js_grammar.specs.CoverInitialisers.{is_property}
use Rattle.parse_shared.specs.js_tree.declared.id.NodeId.{NodeId}
use Rattle.js_base.specs.declared.span.Span.{Span as MadeSpan}
use Rattle.parse_shared.specs.js_tree.declared.kind.NodeKind.{NodeKind as MadeKind}
use Rattle.parse_shared.specs.js_tree.declared.op.Op.TheVariants as op
use Rattle.parse_shared.specs.js_tree.Labels.{kind_of}
use Rattle.parse_shared.specs.js_tree.Nodes.{Node, label, node_at, empty_program}
use Rattle.parse_shared.specs.js_tree.Holding.{Stands, StandsAll, no_slots, next_child, next_hole, AreDistinct, AreWithin, Holds, Keeps}
use Rattle.parse_shared.proofs.js_tree.HoldingLemmas.{Stands-kept, Stands-within, Keeps-refl, Keeps-trans, Keeps-made, Keeps-longer, AreWithin-wider, StandsAll-wider}
use Rattle.parse_shared.specs.laws_shared.Moves.{plain_label}
use Rattle.parse_targets.specs.Targets.{MakesTargets, OfTarget, is_made, Within, in_literal, in_property, within, is_elision, is_spread, is_assignment, operator_places, literal_places, argument_places, property_places, is_object, is_literal, is_target, is_pattern, pattern_kind, target_of, target_in, Stood, Only, relabelled, literal_tree, target_by, slot_of, rest_slot, reference_slot, behind_first, shorthand_slot, named_slot, property_slot, element_slot, followed, before_all, elements_in, places_of, places_in, made_span, Noted, unnoted, Blames, IsIn, Slotted, Converts, RefusesTarget, Converted, converts, refuses, one_slot, one_node, OfNode, Noded}
use Rattle.parse_targets.specs.declared.widening.Widening.{Widening}
use Rattle.parse_targets.specs.declared.widening.Widening.TheVariants.{Rest}
use Rattle.parse_shared.specs.js_tree.declared.kind.NodeKind.TheVariants as node
use Rattle.parse_targets.proofs.LiteralsAsTargets.{before_of, no_end, is_end, element_some, places_assigned, some_is, property_kind}
use Rattle.parse_targets.proofs.TargetsAsLiterals.{target_kind}
use Rattle.parse_targets.proofs.CoveredNodes.{empty_parens, open_parens, directly}
use Rattle.parse_targets.proofs.ReusedNodes.{Children, children_of, in_left, in_right, distinct_left, distinct_right, distinct_apart, slotted_on, slotted_none, slotted_hole, slotted_wider, slotted_old, slotted_node, reused_own}
use Rattle.parse_targets.proofs.Laws.{slot_parts}
use Rattle.parse_shared.specs.js_tree.Sources.{text_of}
use Rattle.parse_shared.specs.laws_shared.NodeTexts.{NodeFits}
use Rattle.parse_shared.proofs.laws_shared.NodeTexts.{untextual}
use Rattle.parse_shared.specs.laws_shared.States.{NodesLie}
use Rattle.parse_shared.proofs.laws_shared.MadeNodes.{LabelLies}
use Rattle.js_base.specs.Spans.{LiesIn}
use Rattle.std.proofs.lemmas.List.Elements.{All-nil, All-same, All-push, All-get_or}
use Rattle.std.specs.List.{All}
use Rattle.js_grammar.proofs.Frame.{append_assoc as append_both, append_end}

-- ---- slots and numbers

pub within_left : (lo hi : ℕ) (rs ss : List ℕ) → AreWithin lo hi (rs ++ ss) → AreWithin lo hi rs
within_left lo hi [] ss w = tt
within_left lo hi (r ∷ rs) ss w = (w.0, w.1, within_left lo hi rs ss w.2)

pub within_right : (lo hi : ℕ) (rs ss : List ℕ) → AreWithin lo hi (rs ++ ss) → AreWithin lo hi ss
within_right lo hi [] ss w = w
within_right lo hi (r ∷ rs) ss w = within_right lo hi rs ss w.2

no_some : {a : Slots} → None ≡ Some a → ⊥
no_some e = cc

-- ---- the elements that were converted so far

-- what an element's own slots are converted to, and its places
abbrev pub own_of : Label → Slots → Option Slots
own_of l cs = elements_in (within l.kind) cs

abbrev pub spots_at : Bool → Label → Slots → List Widening
spots_at o l cs = places_of o l cs (places_in (within l.kind) cs)

abbrev joined : Slots → Option Slots → Option Slots
joined done (Some us) = Some (append done us)
joined done None = None

abbrev is_nil : List (Option NodeId) → Bool
is_nil [] = true
is_nil (x ∷ xs) = false

blames_wider : (old mid new : Noted) (ws vs : List Widening) → mid.misplaced ≡ old.misplaced → ((w : Widening) → IsIn ws w → IsIn vs w) → Blames ws mid new → Blames vs old new
blames_wider old mid new ws vs e f (inl g) = inl (g ∙ e)
blames_wider old mid new ws vs e f (inr g) = inr (g.0, g.1, f (Rest g.0) g.2)

pub record Halfway (o : Bool) (os ns : List Node) (id : NodeId) (noted notes : Noted) (ids js : List (Option NodeId)) (at : ℕ) (cs : Slots) (rs : List ℕ) : Type 0 where
  pub keeps : Keeps os ns
  pub lies : (text : List ℕ) → NodesLie text os → NodesLie text ns
  pub made : MakesTargets os ns
  pub done : Slots
  pub left : Slots
  pub before : List ℕ
  pub behind : List ℕ
  pub split : rs ≡ id.0 ∷ (before ++ behind)
  pub is : elements_in (in_literal o) cs ≡ joined done (elements_in (in_literal o) left)
  pub places_are : noted.places ++ places_in (in_literal o) cs ≡ notes.places ++ places_in (in_literal o) left
  pub unblamed : notes.misplaced ≡ noted.misplaced
  pub among : (w : Widening) → IsIn (places_in (in_literal o) left) w → IsIn (places_in (in_literal o) cs) w
  pub stands : StandsAll os id.0 (drop at ids) left behind
  pub slotted : Slotted os ns before js done

abbrev pub ElementLoop : Bool → List Node → List Node → NodeId → Noted → Noted → List (Option NodeId) → List (Option NodeId) → ℕ → Type 0
ElementLoop o os ns id noted notes ids js at = OfNode os id (λ l cs rs. Halfway o os ns id noted notes ids js at cs rs)

pub record ElementsSoFar (o : Bool) (os ns : List Node) (id : NodeId) (noted notes : Noted) (ids js : List (Option NodeId)) (at : ℕ) : Type 0 where
  pub within : at ≤ length ids
  pub children : ids ≡ (node_at os id).children
  pub elements : ElementLoop o os ns id noted notes ids js at

joined_end : (r : Option Slots) → r ≡ joined end r
joined_end (Some us) = refl
joined_end None = refl

pub loop_begins : {o : Bool} {os : List Node} {id : NodeId} {noted : Noted} {ids js : List (Option NodeId)} → ids ≡ (node_at os id).children → js ≡ [] → ElementLoop o os os id noted noted ids js 0
loop_begins {o} {os} {id} {noted} {ids} {js} e h = λ l cs rs s d.
    let c = children_of {id = id} s in
    record {
      keeps = Keeps-refl os;
      lies = λ text h. h;
      made = λ j h. h;
      done = end;
      left = cs;
      before = [];
      behind = c.numbers;
      split = c.is;
      is = joined_end (elements_in (in_literal o) cs);
      places_are = refl;
      unblamed = refl;
      among = λ w i. i;
      stands = subst (λ (xs : List (Option NodeId)). StandsAll os id.0 xs cs c.numbers) (sym e) c.stands;
      slotted = subst (λ (xs : List (Option NodeId)). Slotted os os [] xs end) (sym h) (slotted_none os);
    }

-- the next child
record First (os : List Node) (below : ℕ) (c : NodeId) (more : List (Option NodeId)) (left : Slots) (behind : List ℕ) : Type 0 where
  label : Label
  slots : Slots
  others : Slots
  numbers : List ℕ
  rest : List ℕ
  left_is : left ≡ tree label slots others
  behind_is : behind ≡ numbers ++ rest
  less : c.0 < below
  stands : Stands os c.0 label slots numbers
  stand : StandsAll os below more others rest

first_of : {os : List Node} {below : ℕ} {c : NodeId} {more : List (Option NodeId)} {left : Slots} {behind : List ℕ} → StandsAll os below (Some c ∷ more) left behind → First os below c more left behind
first_of (next_child b h a) = record { label = _; slots = _; others = _; numbers = _; rest = _; left_is = refl; behind_is = refl; less = b; stands = h; stand = a }

no_child : (o : Bool) {os : List Node} {below : ℕ} {more : List (Option NodeId)} {left : Slots} {behind : List ℕ} → StandsAll os below (None ∷ more) left behind → elements_in (in_literal o) left ≡ None
no_child o (next_hole a) = refl

none_left : {os : List Node} {below : ℕ} {left : Slots} {behind : List ℕ} → StandsAll os below [] left behind → left ≡ end
none_left no_slots = refl

some_left : (us : Slots) → (us ≡ end → ⊥) → are_none us ≡ false
some_left end n = absurd (n refl)
some_left (hole us) n = refl
some_left (tree l cs us) n = refl

no_element : (o : Bool) (l : Label) (cs vs : Slots) → elements_in (in_literal o) (tree l cs vs) ≡ Some end → ⊥
no_element o l cs vs e = let p = before_of l cs (own_of l cs) (elements_in (in_literal o) vs) end e in no_end l cs (own_of l cs) p.behind p.element

-- it is the last one where no child is left
lasts : (o : Bool) {os : List Node} {below : ℕ} {more : List (Option NodeId)} {left : Slots} {behind : List ℕ} (us : Slots) → StandsAll os below more left behind → elements_in (in_literal o) left ≡ Some us → are_none us ≡ is_nil more
lasts o us no_slots e = ap are_none (sym (some_is e))
lasts o us (next_child {l = l} {cs = cs} {us = vs} b h a) e = some_left us (λ q. no_element o l cs vs (e ∙ ap Some q))
lasts o us (next_hole a) e = absurd (no_some e)

module _ {o : Bool} {os ns : List Node} {id c : NodeId} {noted notes : Noted} {ids js more : List (Option NodeId)} {at : ℕ} {l : Label} {cs : Slots} {rs : List ℕ} (s : Stands os id.0 l cs rs) (d : AreDistinct rs) (h : Halfway o os ns id noted notes ids js at cs rs) (q : drop at ids ≡ Some c ∷ more) where
  child : First os id.0 c more h.left h.behind
  child = first_of (subst (λ (xs : List (Option NodeId)). StandsAll os id.0 xs h.left h.behind) q h.stands)

  numbers_split : rs ≡ id.0 ∷ ((h.before ++ child.numbers) ++ child.rest)
  numbers_split = h.split ∙ (ap (λ (b : List ℕ). id.0 ∷ (h.before ++ b)) child.behind_is ∙ ap (λ (b : List ℕ). id.0 ∷ b) (sym (append_assoc h.before child.numbers child.rest)))

  both_distinct : AreDistinct (h.before ++ child.numbers)
  both_distinct = distinct_left (h.before ++ child.numbers) child.rest (subst AreDistinct numbers_split d).1

  both_within : AreWithin 0 (length os) (h.before ++ child.numbers)
  both_within = within_left 0 (length os) (h.before ++ child.numbers) child.rest (subst (λ (xs : List ℕ). AreWithin 0 (length os) xs) numbers_split (AreWithin-wider 0 (suc id.0) 0 (length os) rs (omega arith) (let b = (children_of {id = id} s).below in omega arith) (Stands-within s))).2

  child_stands : Stands ns c.0 child.label child.slots child.numbers
  child_stands = Stands-kept h.keeps child.stands

  child_distinct : AreDistinct child.numbers
  child_distinct = distinct_right h.before child.numbers both_distinct

  elements_left : elements_in (in_literal o) cs ≡ joined h.done (before_all child.label child.slots (own_of child.label child.slots) (elements_in (in_literal o) child.others))
  elements_left = h.is ∙ ap (λ (xs : Slots). joined h.done (elements_in (in_literal o) xs)) child.left_is

  joined_by : {last : Bool} (r : Option Slots) → elements_in (in_literal o) child.others ≡ r → last ≡ is_nil more → (ts : Slots) → element_slot last child.label child.slots (own_of child.label child.slots) ≡ Some ts → joined h.done (before_all child.label child.slots (own_of child.label child.slots) r) ≡ joined (append h.done ts) r
  joined_by {last} None e n ts k = refl
  joined_by {last} (Some us) e n ts k = ap (λ (b : Bool). joined h.done (followed (element_slot b child.label child.slots (own_of child.label child.slots)) us)) (lasts o us child.stand e ∙ sym n) ∙ (ap (λ (t : Option Slots). joined h.done (followed t us)) k ∙ ap Some (sym (append_both h.done ts us)))

  refused_by : {last : Bool} (r : Option Slots) → elements_in (in_literal o) child.others ≡ r → last ≡ is_nil more → element_slot last child.label child.slots (own_of child.label child.slots) ≡ None → joined h.done (before_all child.label child.slots (own_of child.label child.slots) r) ≡ None
  refused_by {last} None e n k = refl
  refused_by {last} (Some us) e n k = ap (λ (b : Bool). joined h.done (followed (element_slot b child.label child.slots (own_of child.label child.slots)) us)) (lasts o us child.stand e ∙ sym n) ∙ ap (λ (t : Option Slots). joined h.done (followed t us)) k

  among_left : (w : Widening) → IsIn (spots_at o child.label child.slots ++ places_in (in_literal o) child.others) w → IsIn (places_in (in_literal o) cs) w
  among_left w i = h.among w (subst (λ (xs : Slots). IsIn (places_in (in_literal o) xs) w) (sym child.left_is) i)

  halfway_next : {ms : List Node} {notes' : Noted} {last : Bool} {slot : Option NodeId} → last ≡ is_nil more → more ≡ drop (at + 1) ids → Converts ns ms child.numbers notes notes' (spots_at o child.label child.slots) (slot ∷ []) (element_slot last child.label child.slots (own_of child.label child.slots)) → Halfway o os ms id noted notes' ids (js ++ slot ∷ []) (at + 1) cs rs
  halfway_next {ms} {notes'} {last} {slot} n m v = record {
    keeps = Keeps-trans h.keeps v.keeps;
    lies = λ text w. v.lies text (h.lies text w);
    made = λ j w. v.made j (h.made j w);
    done = append h.done v.slots;
    left = child.others;
    before = h.before ++ child.numbers;
    behind = child.rest;
    split = numbers_split;
    is = elements_left ∙ joined_by (elements_in (in_literal o) child.others) refl n v.slots v.is;
    places_are = h.places_are ∙ (ap (λ (xs : Slots). notes.places ++ places_in (in_literal o) xs) child.left_is ∙ (sym (append_assoc notes.places (spots_at o child.label child.slots) (places_in (in_literal o) child.others)) ∙ ap (λ (xs : List Widening). xs ++ places_in (in_literal o) child.others) (sym v.places_are)));
    unblamed = v.unblamed ∙ h.unblamed;
    among = λ w i. among_left w (in_right (spots_at o child.label child.slots) (places_in (in_literal o) child.others) w i);
    stands = subst (λ (xs : List (Option NodeId)). StandsAll os id.0 xs child.others child.rest) m child.stand;
    slotted = slotted_on h.keeps v.keeps (distinct_apart h.before child.numbers both_distinct) (within_left 0 (length os) h.before child.numbers both_within) (within_right 0 (length os) h.before child.numbers both_within) h.slotted v.slotted;
  }

  halfway_refused : {ms : List Node} {notes' : Noted} {last : Bool} → last ≡ is_nil more → RefusesTarget ns ms notes notes' (spots_at o child.label child.slots) (element_slot last child.label child.slots (own_of child.label child.slots)) → RefusesTarget os ms noted notes' (places_in (in_literal o) cs) (elements_in (in_literal o) cs)
  halfway_refused {notes' = notes'} n v = record { keeps = Keeps-trans h.keeps v.keeps; lies = λ text w. v.lies text (h.lies text w); made = λ j w. v.made j (h.made j w); is = elements_left ∙ refused_by (elements_in (in_literal o) child.others) refl n v.is; blames = blames_wider noted notes notes' (spots_at o child.label child.slots) (places_in (in_literal o) cs) h.unblamed (λ w i. among_left w (in_left (spots_at o child.label child.slots) (places_in (in_literal o) child.others) w i)) v.blames }

pub made_of : {os ns : List Node} {rs : List ℕ} {noted notes : Noted} {ws : List Widening} {ids : List (Option NodeId)} {r : Option Slots} → Converted os ns rs noted notes ws (Some ids) r → Converts os ns rs noted notes ws ids r
made_of (converts x) = x

pub refused_of : {os ns : List Node} {rs : List ℕ} {noted notes : Noted} {ws : List Widening} {r : Option Slots} → Converted os ns rs noted notes ws None r → RefusesTarget os ns noted notes ws r
refused_of (refuses x) = x

abbrev pub ElementAnswer : Bool → List Node → List Node → NodeId → Bool → Noted → Noted → Option (Option NodeId) → Type 0
ElementAnswer o ns ms c last notes notes' found = OfNode ns c (λ l cs rs. Converted ns ms rs notes notes' (spots_at o l cs) (one_slot found) (element_slot last l cs (own_of l cs)))

module _ {o : Bool} {os ns : List Node} {id c : NodeId} {noted notes : Noted} {ids js : List (Option NodeId)} {at : ℕ} (z : ElementLoop o os ns id noted notes ids js at) (q : drop at ids ≡ Some c ∷ drop (at + 1) ids) where
  pub loop_next : {ms : List Node} {notes' : Noted} (last : Bool) {slot : Option NodeId} → last ≡ is_nil (drop (at + 1) ids) → ElementAnswer o ns ms c last notes notes' (Some slot) → ElementLoop o os ms id noted notes' ids (js ++ slot ∷ []) (at + 1)
  loop_next last n v = λ l cs rs s d. let h = z l cs rs s d in let x = child s d h q in halfway_next s d h q n refl (made_of (v x.label x.slots x.numbers (child_stands s d h q) (child_distinct s d h q)))

  pub loop_refuses : {ms : List Node} {notes' : Noted} (last : Bool) → last ≡ is_nil (drop (at + 1) ids) → ElementAnswer o ns ms c last notes notes' None → OfNode os id (λ l cs rs. RefusesTarget os ms noted notes' (places_in (in_literal o) cs) (elements_in (in_literal o) cs))
  loop_refuses last n v = λ l cs rs s d. let h = z l cs rs s d in let x = child s d h q in halfway_refused s d h q n (refused_of (v x.label x.slots x.numbers (child_stands s d h q) (child_distinct s d h q)))

  pub child_stood : Stood os id → Stood ns c
  child_stood w = let h = z w.label w.slots (w.holds).numbers (w.holds).stands (w.holds).distinct in let x = child (w.holds).stands (w.holds).distinct h q in
      record { lo = 0; hi = suc c.0; label = x.label; slots = x.slots; holds = record { numbers = x.numbers; stands = child_stands (w.holds).stands (w.holds).distinct h q; within = Stands-within (child_stands (w.holds).stands (w.holds).distinct h q); distinct = child_distinct (w.holds).stands (w.holds).distinct h q } }

  pub child_less : Stood os id → c.0 < id.0
  child_less w = let h = z w.label w.slots (w.holds).numbers (w.holds).stands (w.holds).distinct in (child (w.holds).stands (w.holds).distinct h q).less

pub loop_hole : {o : Bool} {os ns : List Node} {id : NodeId} {noted notes : Noted} {ids js more : List (Option NodeId)} {at : ℕ} → ElementLoop o os ns id noted notes ids js at → drop at ids ≡ None ∷ more → OfNode os id (λ l cs rs. RefusesTarget os ns noted notes (places_in (in_literal o) cs) (elements_in (in_literal o) cs))
loop_hole {o} {os} {ns} {id} {ids = ids} {at = at} z q = λ l cs rs s d.
    let h = z l cs rs s d in
    record { keeps = h.keeps; lies = h.lies; made = h.made; is = h.is ∙ ap (λ (r : Option Slots). joined h.done r) (no_child o (subst (λ (xs : List (Option NodeId)). StandsAll os id.0 xs h.left h.behind) q h.stands)); blames = inl h.unblamed }

pub loop_ends : {o : Bool} {os ns : List Node} {id : NodeId} {noted notes : Noted} {ids js : List (Option NodeId)} {at : ℕ} → ElementLoop o os ns id noted notes ids js at → drop at ids ≡ [] → OfNode os id (λ l cs rs. Converts os ns rs noted notes (places_in (in_literal o) cs) js (elements_in (in_literal o) cs))
loop_ends {o} {os} {ns} {id} {noted} {notes} {ids} {js} {at} z q = λ l cs rs s d.
    let h = z l cs rs s d in
    let e = none_left (subst (λ (xs : List (Option NodeId)). StandsAll os id.0 xs h.left h.behind) q h.stands) in
    record {
      keeps = h.keeps;
      lies = h.lies;
      made = h.made;
      slots = h.done;
      is = h.is ∙ (ap (λ (xs : Slots). joined h.done (elements_in (in_literal o) xs)) e ∙ ap Some (append_end h.done));
      slotted = slotted_wider (λ r i. subst (λ (xs : List ℕ). IsIn xs r) (sym h.split) (inr (in_left h.before h.behind r i))) h.slotted;
      places_are = sym (h.places_are ∙ (ap (λ (xs : Slots). notes.places ++ places_in (in_literal o) xs) e ∙ append-nil notes.places));
      unblamed = h.unblamed;
    }

-- ---- one target

pub holds_node : {os : List Node} {id : NodeId} {l : Label} {cs : Slots} {rs : List ℕ} → Stands os id.0 l cs rs → AreDistinct rs → Holds os 0 (suc id.0) id.0 l cs
holds_node {rs = rs} s d = record { numbers = rs; stands = s; within = Stands-within s; distinct = d }

node_kept : {os ns : List Node} {id : NodeId} → Keeps os ns → id.0 < length os → node_at ns id ≡ node_at os id
node_kept {os} {ns} {id} k h = ap (λ (xs : List Node). node_at xs id) k.whole ∙ get_or_append_left os k.more empty_program id.0 h

-- a node that lies where one did before
pub noded_lies : (os : List Node) {ns ms : List Node} {l : Label} {ids : List (Option NodeId)} (id : NodeId) {made : NodeId} → Noded ns ms l ids made → id.0 < length os → l.span ≡ (label (node_at os id)).span → (text : List ℕ) → NodesLie text os → NodesLie text ns → NodesLie text ms
noded_lies os {ns} {ms} id n b e text h k =
    let g = n.made in
    let place : LabelLies text (label n.node) = subst (λ (v : Span). LiesIn (record { start = v.from; end = v.to }) text) (sym (ap (λ (m : Label). m.span) n.label_is ∙ e)) (All-get_or (NodeFits text) os id.0 empty_program b h).lies in
    All-same (NodeFits text) ms (ns ++ n.node ∷ []) g.nodes (All-push (NodeFits text) ns n.node k (record { lies = place; texted = untextual n.node.kind n.node.name (chars (text_of n.node text)) n.plain }))

-- a node of a target behind others
made_on : (j : ℕ) (ns : List Node) (n : Node) → All OfTarget (drop j ns) → OfTarget n → All OfTarget (drop j (ns ++ n ∷ []))
made_on zero ns n h p = All-push OfTarget ns n h p
made_on (suc zero) [] n h p = All-nil OfTarget
made_on (suc (suc j)) [] n h p = All-nil OfTarget
made_on (suc j) (m ∷ ns) n h p = made_on j ns n h p

pub noded_made : {ns ms : List Node} {l : Label} {ids : List (Option NodeId)} {made : NodeId} → Noded ns ms l ids made → is_made l.kind ≡ true → MakesTargets ns ms
noded_made {ns} n e j h = subst (λ (xs : List Node). All OfTarget (drop j xs)) (sym (n.made).nodes) (made_on j ns n.node h (ap (λ (m : Label). is_made m.kind) n.label_is ∙ e))

pattern_made : (o : Bool) → is_made (pattern_kind o) ≡ true
pattern_made true = refl
pattern_made false = refl

-- a whole literal, of its elements
pub literal_made : {os ns ms : List Node} {id made : NodeId} {noted notes : Noted} {ids : List (Option NodeId)} {k : Label} (o : Bool) → o ≡ is_object (label (node_at os id)).kind → (OfNode os id (λ l cs rs. Converts os ns rs noted notes (places_in (in_literal o) cs) ids (elements_in (in_literal o) cs))) → Noded ns ms k ids made → k ≡ relabelled (pattern_kind o) (label (node_at os id)) → OfNode os id (λ l cs rs. Converts os ms rs noted notes (places_in (in_literal (is_object l.kind)) cs) (Some made ∷ []) (slot_of (literal_tree l (elements_in (in_literal (is_object l.kind)) cs))))
literal_made {os} {ns} {ms} {id} {made} {noted} {notes} o g x n e = λ l cs rs s d.
    let y = x l cs rs s d in
    let c = (children_of {id = id} s).label_is in
    let h : o ≡ is_object l.kind = g ∙ ap (λ (m : Label). is_object m.kind) (sym c) in
    let w : _ ≡ relabelled (pattern_kind (is_object l.kind)) l = e ∙ (ap (λ (m : Label). relabelled (pattern_kind o) m) (sym c) ∙ ap (λ (b : Bool). relabelled (pattern_kind b) l) h) in
    record {
      keeps = Keeps-trans y.keeps (Keeps-made (n.made));
      lies = λ text h. noded_lies os id n (children_of {id = id} s).below (ap (λ (m : Label). m.span) e) text h (y.lies text h);
      made = λ j w. noded_made n (ap (λ (m : Label). is_made m.kind) e ∙ pattern_made o) j (y.made j w);
      slots = tree (relabelled (pattern_kind (is_object l.kind)) l) y.slots end;
      is = ap (λ (b : Bool). slot_of (literal_tree l (elements_in (in_literal b) cs))) (sym h) ∙ ap (λ (r : Option Slots). slot_of (literal_tree l r)) y.is;
      slotted = subst (λ (m : Label). Slotted os ms rs (Some made ∷ []) (tree m y.slots end)) w (slotted_node y.keeps y.slotted n);
      places_are = y.places_are ∙ ap (λ (b : Bool). noted.places ++ places_in (in_literal b) cs) h;
      unblamed = y.unblamed;
    }

-- a node of it is labelled by its own span
pub relabels : (k : MadeKind) {s : MadeSpan} (n : Node) → s ≡ n.span → plain_label k op.None s ≡ relabelled (kind_of k) (label n)
relabels k n e = ap (λ (v : MadeSpan). plain_label k op.None v) e

-- an assignment, of its own children
pub initialised_made : {os ns : List Node} {id made : NodeId} → Noded os ns (relabelled assignment_target_with_default (label (node_at os id))) (node_at os id).children made → OfNode os id (λ l cs rs. Slotted os ns rs (Some made ∷ []) (tree (relabelled assignment_target_with_default l) cs end))
initialised_made {os} {ns} {id} {made} n = λ l cs rs s d.
    let c = children_of {id = id} s in
    let own : Slotted os os rs (node_at os id).children cs = record {
      numbers = c.numbers;
      stands = StandsAll-wider (let b = c.below in omega arith) c.stands;
      reused = reused_own id.0 c.numbers rs (length os) (length os) c.is;
      distinct = (subst AreDistinct c.is d).1;
    } in
    subst (λ (m : Label). Slotted os ns rs (Some made ∷ []) (tree (relabelled assignment_target_with_default m) cs end)) (sym c.label_is) (slotted_node (Keeps-refl os) own n)

-- ---- a target among elements

bare_kind : (last : Bool) (k : NodeKind) (o : Op) (fl : ℕ) (p : Span) (cs : Slots) (own : Option Slots) (t : Tree) → target_by (record { kind = k; op = o; flags = fl; span = p }) cs own ≡ Some t → element_slot last (record { kind = k; op = o; flags = fl; span = p }) cs own ≡ slot_of (target_by (record { kind = k; op = o; flags = fl; span = p }) cs own)
bare_kind last identifier_reference o fl p cs own t e = refl
bare_kind last static_member_expression o fl p cs own t e = refl
bare_kind last computed_member_expression o fl p cs own t e = refl
bare_kind last private_field_expression o fl p cs own t e = refl
bare_kind last parenthesized_expression o fl p cs own t e = refl
bare_kind last array_expression o fl p cs own t e = refl
bare_kind last object_expression o fl p cs own t e = refl
bare_kind last _ o fl p cs own t e = absurd (cc)

bare_element : (last : Bool) (l : Label) (cs : Slots) (own : Option Slots) (t : Tree) → target_by l cs own ≡ Some t → element_slot last l cs own ≡ Some (tree t.label t.slots end)
bare_element last l cs own t e = bare_kind last l.kind l.op l.flags l.span cs own t e ∙ ap slot_of e

places_kind : (k : NodeKind) (o : Op) (fl : ℕ) (p : Span) (cs : Slots) (own : Option Slots) (t : Tree) (rs : List Widening) → target_by (record { kind = k; op = o; flags = fl; span = p }) cs own ≡ Some t → places_of false (record { kind = k; op = o; flags = fl; span = p }) cs rs ≡ cond (is_literal k) rs []
places_kind identifier_reference o fl p cs own t rs e = refl
places_kind static_member_expression o fl p cs own t rs e = refl
places_kind computed_member_expression o fl p cs own t rs e = refl
places_kind private_field_expression o fl p cs own t rs e = refl
places_kind parenthesized_expression o fl p cs own t rs e = refl
places_kind array_expression o fl p cs own t rs e = refl
places_kind object_expression o fl p cs own t rs e = refl
places_kind _ o fl p cs own t rs e = absurd (cc)

pattern_kinds : (o : Bool) → is_pattern (pattern_kind o) ≡ true
pattern_kinds false = refl
pattern_kinds true = refl

literal_tree_kind : (l : Label) (own : Option Slots) (t : Tree) → literal_tree l own ≡ Some t → is_pattern t.label.kind ≡ true
literal_tree_kind l (Some ds) t e = let w : record { label = relabelled (pattern_kind (is_object l.kind)) l; slots = ds } ≡ t = cc in subst (λ (v : Tree). is_pattern v.label.kind ≡ true) w (pattern_kinds (is_object l.kind))
literal_tree_kind l None t e = absurd (cc)

bare_target : (l : Label) (cs : Slots) (own : Option Slots) (t : Tree) → target_by l cs own ≡ Some t → (is_target t.label.kind || is_pattern t.label.kind) ≡ true
bare_target l cs own t e = go (is_literal l.kind) e
  where
    go : (b : Bool) → cond b (literal_tree l own) (target_of l cs) ≡ Some t → (is_target t.label.kind || is_pattern t.label.kind) ≡ true
    go true e = or_right (is_target t.label.kind) _ (literal_tree_kind l own t e)
    go false e = or_left (is_target t.label.kind) _ (target_kind (tree l cs end) t e)

rest_by : (l m : Label) (ds : Slots) → (is_target m.kind || is_pattern m.kind) ≡ true → rest_slot true l (Some (tree m ds end)) ≡ Some (tree (relabelled assignment_target_rest l) (tree m ds end) end)
rest_by l m ds h = rw h refl

rest_some : (l m : Label) (ds : Slots) (own : Option Slots) (t : Tree) → target_by m ds own ≡ Some t → rest_slot true l (before_all m ds own (Some end)) ≡ Some (tree (relabelled assignment_target_rest l) (tree t.label t.slots end) end)
rest_some l m ds own t e = ap (λ (r : Option Slots). rest_slot true l (followed r end)) (bare_element true m ds own t e) ∙ rest_by l t.label t.slots (bare_target m ds own t e)

slot_none : (r : Option Tree) → slot_of r ≡ None → followed (slot_of r) end ≡ None
slot_none None e = refl
slot_none (Some t) e = absurd (cc)

rest_in_rest : (l m : Label) (own : Option Slots) → rest_slot true l (followed (rest_slot true m own) end) ≡ None
rest_in_rest l m None = refl
rest_in_rest l m (Some end) = refl
rest_in_rest l m (Some (hole us)) = refl
rest_in_rest l m (Some (tree k ds (hole us))) = refl
rest_in_rest l m (Some (tree k ds (tree n es us))) = refl
rest_in_rest l m (Some (tree k ds end)) = go (is_target k.kind || is_pattern k.kind)
  where
    go : (b : Bool) → rest_slot true l (followed (cond b (Some (tree (relabelled assignment_target_rest m) (tree k ds end) end)) None) end) ≡ None
    go true = refl
    go false = refl

property_in_rest : (l m : Label) (ds : Slots) (own : Option Slots) → rest_slot true l (followed (property_slot m ds own) end) ≡ None
property_in_rest l m ds own = go (has_flag shorthand_flag m.flags)
  where
    reference : (cs : Slots) → rest_slot true l (followed (reference_slot m cs) end) ≡ None
    reference end = refl
    reference (hole us) = refl
    reference (tree k es us) = refl

    named : (r : Option Slots) → rest_slot true l (followed (named_slot m r) end) ≡ None
    named None = refl
    named (Some us) = refl

    go : (b : Bool) → rest_slot true l (followed (cond b (shorthand_slot m ds) (named_slot m own)) end) ≡ None
    go true = reference (behind_first ds)
    go false = named own

rest_none : (l m : Label) (ds : Slots) (own : Option Slots) → slot_of (target_by m ds own) ≡ None → rest_slot true l (before_all m ds own (Some end)) ≡ None
rest_none l m ds own e = by (is_elision m.kind) (is_spread m.kind) (is_assignment m.kind) (is_property m.kind)
  where
    by : (a b g q : Bool) → rest_slot true l (followed (cond a (Some (hole end)) (cond b (rest_slot true m own) (cond g (Some (tree (relabelled assignment_target_with_default m) ds end)) (cond q (property_slot m ds own) (slot_of (target_by m ds own)))))) end) ≡ None
    by true b g q = refl
    by false true g q = rest_in_rest l m own
    by false false true q = refl
    by false false false true = property_in_rest l m ds own
    by false false false false = ap (λ (r : Option Slots). rest_slot true l r) (slot_none (target_by m ds own) e)

-- ---- the one child of a spread

record OneChild (os : List Node) (below : ℕ) (c : NodeId) (cs : Slots) (rs : List ℕ) : Type 0 where
  label : Label
  slots : Slots
  is : cs ≡ tree label slots end
  stands : Stands os c.0 label slots rs
  less : c.0 < below

one_child : {os : List Node} {below : ℕ} {ids : List (Option NodeId)} {cs : Slots} {rs : List ℕ} (c : NodeId) → Only ids (Some c) → StandsAll os below ids cs rs → OneChild os below c cs rs
one_child c o no_slots = absurd (cc)
one_child c o (next_hole a) = absurd (cc)
one_child {os} {below} c o (next_child {id = i} {l = l} {cs = ds} {rs = rs} b h no_slots) =
    let e : i ≡ c = cc in
    subst (λ (v : NodeId). OneChild os below v (tree l ds end) (rs ++ [])) e (record { label = l; slots = ds; is = refl; stands = subst (λ (xs : List ℕ). Stands os i.0 l ds xs) (sym (append-nil rs)) h; less = b })
one_child c o (next_child b h (next_child b' h' a)) = absurd (cc)
one_child c o (next_child b h (next_hole a)) = absurd (cc)

two_slots : (l : Label) (ts us : Slots) → are_none ts ≡ false → are_none us ≡ false → rest_slot true l (Some (append ts us)) ≡ None
two_slots l end us h k = absurd (false≢true (sym h))
two_slots l (hole ts) us h k = refl
two_slots l (tree m ds end) end h k = absurd (false≢true (sym k))
two_slots l (tree m ds end) (hole us) h k = refl
two_slots l (tree m ds end) (tree n es us) h k = refl
two_slots l (tree m ds (hole ts)) us h k = refl
two_slots l (tree m ds (tree n es ts)) us h k = refl

two_elements : (l m : Label) (ds vs : Slots) → are_none vs ≡ false → rest_slot true l (elements_in (in_literal false) (tree m ds vs)) ≡ None
two_elements l m ds vs h = go (elements_in (in_literal false) vs) refl
  where
    last_of : (us : Slots) → elements_in (in_literal false) vs ≡ Some us → are_none us ≡ false
    last_of us e = some_left us (λ q. false≢true (sym h ∙ ap are_none (is_end false vs (e ∙ ap Some q))))

    by : (us : Slots) → are_none us ≡ false → (r : Option Slots) → element_slot (are_none us) m ds (own_of m ds) ≡ r → rest_slot true l (followed r us) ≡ None
    by us k None e = refl
    by us k (Some ts) e = two_slots l ts us (element_some (are_none us) m ds (own_of m ds) ts e) k

    go : (r : Option Slots) → elements_in (in_literal false) vs ≡ r → rest_slot true l (before_all m ds (own_of m ds) r) ≡ None
    go None e = refl
    go (Some us) e = by us (last_of us e) (element_slot (are_none us) m ds (own_of m ds)) refl

no_one_child : {os : List Node} {below : ℕ} {ids : List (Option NodeId)} {cs : Slots} {rs : List ℕ} (l : Label) → Only ids None → StandsAll os below ids cs rs → rest_slot true l (elements_in (in_literal false) cs) ≡ None
no_one_child l o no_slots = refl
no_one_child l o (next_hole a) = refl
no_one_child l o (next_child b h no_slots) = absurd (cc)
no_one_child l o (next_child {l = m} {cs = ds} b h (next_child {l = n} {cs = es} {us = vs} b' h' a)) = two_elements l m ds (tree n es vs) refl
no_one_child l o (next_child {l = m} {cs = ds} b h (next_hole {us = vs} a)) = two_elements l m ds (hole vs) refl

-- ---- what is answered of a rest

-- places of the argument are among those of the rest
in_own : (l : Label) (cs : Slots) (ws : List Widening) (w : Widening) → IsIn (cond (is_literal l.kind) ws []) w → IsIn (places_of false l cs ws) w
in_own l cs ws w i = by (is_spread l.kind) (is_literal l.kind) i
  where
    by : (b h : Bool) → IsIn (cond h ws []) w → IsIn (cond b (ws ++ (argument_places false cs ++ Rest (made_span l.span) ∷ [])) (cond h ws (cond (is_property l.kind) (property_places l ws) (cond (is_assignment l.kind) (operator_places l.op (made_span l.span)) [])))) w
    by true true i = in_left ws (argument_places false cs ++ Rest (made_span l.span) ∷ []) w i
    by true false i = absurd i
    by false true i = i
    by false false i = absurd i

abbrev pub rest_places : Bool → Label → Slots → List Widening
rest_places o l cs = places_in (in_literal false) cs ++ (argument_places o cs ++ Rest (made_span l.span) ∷ [])

in_rest : (o : Bool) (l : Label) (cs : Slots) → IsIn (rest_places o l cs) (Rest (made_span l.span))
in_rest o l cs = in_right (places_in (in_literal false) cs) (argument_places o cs ++ Rest (made_span l.span) ∷ []) (Rest (made_span l.span)) (in_right (argument_places o cs) (Rest (made_span l.span) ∷ []) (Rest (made_span l.span)) (inl refl))

abbrev pub RestAnswer : Bool → List Node → List Node → NodeId → Noted → Noted → Bool → Option NodeId → Type 0
RestAnswer o os ns id noted notes last found = OfNode os id (λ l cs rs. Converted os ns rs noted notes (rest_places o l cs) (one_node found) (rest_slot last l (elements_in (in_literal false) cs)))

abbrev pub TargetAnswer : List Node → List Node → NodeId → Noted → Noted → Option NodeId → Type 0
TargetAnswer os ns id noted notes found = OfNode os id (λ l cs rs. Converted os ns rs noted notes (cond (is_literal l.kind) (places_in (within l.kind) cs) []) (one_node found) (slot_of (target_by l cs (own_of l cs))))

module _ {os : List Node} {id : NodeId} where
  span_told : {l : Label} {cs : Slots} {rs : List ℕ} {m : MadeSpan} → Stands os id.0 l cs rs → m ≡ (node_at os id).span → m ≡ made_span l.span
  span_told s e = e ∙ ap (λ (k : Label). made_span k.span) (sym (children_of {id = id} s).label_is)

  pub rest_not_last : (o : Bool) {noted notes : Noted} {m : MadeSpan} → m ≡ (node_at os id).span → notes.misplaced ≡ Some m → RestAnswer o os os id noted notes false None
  rest_not_last o e n = λ l cs rs s d. refuses (record { keeps = Keeps-refl os; lies = λ text h. h; made = λ j h. h; is = refl; blames = inr (made_span l.span, n ∙ ap Some (span_told s e), in_rest o l cs) })

  pub rest_without : (o : Bool) {noted : Noted} → Only (node_at os id).children None → RestAnswer o os os id noted noted true None
  rest_without o k = λ l cs rs s d. refuses (record { keeps = Keeps-refl os; lies = λ text h. h; made = λ j h. h; is = no_one_child l k (children_of {id = id} s).stands; blames = inl refl })

  module _ {c : NodeId} (k : Only (node_at os id).children (Some c)) where
    argument : {l : Label} {cs : Slots} {rs : List ℕ} (s : Stands os id.0 l cs rs) → OneChild os id.0 c cs (children_of {id = id} s).numbers
    argument s = one_child c k (children_of {id = id} s).stands

    pub argument_stood : Stood os id → Stood os c
    argument_stood w =
        let k = children_of {id = id} (w.holds).stands in
        let x = argument (w.holds).stands in
        record { lo = 0; hi = suc c.0; label = x.label; slots = x.slots; holds = holds_node {id = c} x.stands (subst AreDistinct k.is (w.holds).distinct).1 }

    pub argument_less : Stood os id → c.0 < id.0
    argument_less w = (argument (w.holds).stands).less

    pub argument_below : Stood os id → c.0 < length os
    argument_below w = (children_of {id = c} (argument (w.holds).stands).stands).below

    module _ {ns : List Node} {noted notes : Noted} (v : TargetAnswer os ns c noted notes None) where
      pub rest_unconverted : (o : Bool) → RestAnswer o os ns id noted notes true None
      rest_unconverted o = λ l cs rs s d.
          let k = children_of {id = id} s in
          let x = argument s in
          let y = refused_of (v x.label x.slots k.numbers x.stands (subst AreDistinct k.is d).1) in
          let own = places_in (within x.label.kind) x.slots in
          refuses (record {
            keeps = y.keeps;
            lies = y.lies;
            made = y.made;
            is = ap (λ (xs : Slots). rest_slot true l (elements_in (in_literal false) xs)) x.is ∙ rest_none l x.label x.slots (own_of x.label x.slots) y.is;
            blames = blames_wider noted noted notes (cond (is_literal x.label.kind) own []) (rest_places o l cs) refl (λ w i. in_left (places_in (in_literal false) cs) (argument_places o cs ++ Rest (made_span l.span) ∷ []) w (subst (λ (xs : Slots). IsIn (places_in (in_literal false) xs) w) (sym x.is) (in_left (spots_at false x.label x.slots) [] w (in_own x.label x.slots own w i)))) y.blames;
          })

    module _ {ns ms : List Node} {noted mid notes : Noted} {found made : NodeId} {t : Label} {m : MadeSpan} (o : Bool) (v : TargetAnswer os ns c noted mid (Some found)) (n : Noded ns ms t (Some found ∷ []) made) (e : t ≡ relabelled assignment_target_rest (label (node_at os id))) (g : m ≡ (node_at os id).span) (p : notes.places ≡ (mid.places ++ literal_places o (kind_of (node_at os c).kind) (node_at os c).span) ++ Rest m ∷ []) (b : notes.misplaced ≡ mid.misplaced) where
      pub rest_made : RestAnswer o os ms id noted notes true (Some made)
      rest_made = λ l cs rs s d. converts (by l cs rs s d (children_of {id = id} s))
        where
          by : (l : Label) (cs : Slots) (rs : List ℕ) (s : Stands os id.0 l cs rs) (d : AreDistinct rs) (h : Children os id l cs rs) → Converts os ms rs noted notes (rest_places o l cs) (Some made ∷ []) (rest_slot true l (elements_in (in_literal false) cs))
          by l cs rs s d h =
              let x = one_child c k h.stands in
              let y = made_of (v x.label x.slots h.numbers x.stands (subst AreDistinct h.is d).1) in
              let q = slot_parts (target_by x.label x.slots (own_of x.label x.slots)) y.slots y.is in
              let r : t ≡ relabelled assignment_target_rest l = e ∙ ap (relabelled assignment_target_rest) (sym h.label_is) in
              let own = places_in (within x.label.kind) x.slots in
              let ws = cond (is_literal x.label.kind) own [] in
              let z : spots_at false x.label x.slots ≡ ws = places_kind x.label.kind x.label.op x.label.flags x.label.span x.slots (own_of x.label x.slots) q.0 own q.1 in
              let w : ws ≡ places_in (in_literal false) cs = sym z ∙ (sym (append-nil (spots_at false x.label x.slots)) ∙ ap (places_in (in_literal false)) (sym x.is)) in
              let at : literal_places o (kind_of (node_at os c).kind) (node_at os c).span ≡ argument_places o cs = ap (λ (j : Label). literal_places o j.kind (made_span j.span)) (sym (children_of {id = c} x.stands).label_is) ∙ ap (argument_places o) (sym x.is) in
              record {
                keeps = Keeps-trans y.keeps (Keeps-made (n.made));
                lies = λ text w. noded_lies os id n h.below (ap (λ (m : Label). m.span) e) text w (y.lies text w);
                made = λ j w. noded_made n (ap (λ (m : Label). is_made m.kind) e) j (y.made j w);
                slots = tree (relabelled assignment_target_rest l) y.slots end;
                is = ap (λ (xs : Slots). rest_slot true l (elements_in (in_literal false) xs)) x.is ∙ (rest_some l x.label x.slots (own_of x.label x.slots) q.0 q.1 ∙ ap (λ (xs : Slots). Some (tree (relabelled assignment_target_rest l) xs end)) (sym q.2));
                slotted = slotted_wider (λ r i. subst (λ (xs : List ℕ). IsIn xs r) (sym h.is) (inr i)) (subst (λ (z : Label). Slotted os ms h.numbers (Some made ∷ []) (tree z y.slots end)) r (slotted_node y.keeps y.slotted n));
                places_are = p ∙ (told mid.places noted.places ws y.places_are at ∙ (ap (λ (vs : List Widening). noted.places ++ (vs ++ (argument_places o cs ++ Rest m ∷ []))) w ∙ ap (λ (z : MadeSpan). noted.places ++ (places_in (in_literal false) cs ++ (argument_places o cs ++ Rest z ∷ []))) (span_told s g)));
                unblamed = b ∙ y.unblamed;
              }
            where
              told : (ks bs ws : List Widening) {vs us : List Widening} → ks ≡ bs ++ ws → vs ≡ us → (ks ++ vs) ++ Rest m ∷ [] ≡ bs ++ (ws ++ (us ++ Rest m ∷ []))
              told ks bs ws {vs} {us} e f = append_assoc ks vs (Rest m ∷ []) ∙ (ap (λ (xs : List Widening). xs ++ (vs ++ Rest m ∷ [])) e ∙ (append_assoc bs ws (vs ++ Rest m ∷ []) ∙ ap (λ (xs : List Widening). bs ++ (ws ++ (xs ++ Rest m ∷ []))) f))

-- ---- an element

kind_here : {os : List Node} {id : NodeId} {l : Label} {cs : Slots} {rs : List ℕ} (f : NodeKind → Bool) {b : Bool} → f (label (node_at os id)).kind ≡ b → Stands os id.0 l cs rs → f l.kind ≡ b
kind_here {id = id} f h s = ap (λ (m : Label). f m.kind) (children_of {id = id} s).label_is ∙ h

spread_slot : (last : Bool) (l : Label) (cs : Slots) (own : Option Slots) → is_elision l.kind ≡ false → is_spread l.kind ≡ true → element_slot last l cs own ≡ rest_slot last l own
spread_slot last l cs own a b = rw (a, b) refl

spread_within : (k : NodeKind) → is_spread k ≡ true → within k ≡ in_literal false
spread_within spread_element h = refl
spread_within _ h = absurd (false≢true h)

assigned_slot : (last : Bool) (l : Label) (cs : Slots) (own : Option Slots) → is_elision l.kind ≡ false → is_spread l.kind ≡ false → is_assignment l.kind ≡ true → element_slot last l cs own ≡ Some (tree (relabelled assignment_target_with_default l) cs end)
assigned_slot last l cs own a b g = rw (a, b, g) refl

other_slot : (last : Bool) (l : Label) (cs : Slots) (own : Option Slots) → is_elision l.kind ≡ false → is_spread l.kind ≡ false → is_assignment l.kind ≡ false → is_property l.kind ≡ false → element_slot last l cs own ≡ slot_of (target_by l cs own)
other_slot last l cs own a b g q = rw (a, b, g, q) refl

other_places : (o : Bool) (l : Label) (cs : Slots) (ws : List Widening) → is_spread l.kind ≡ false → is_assignment l.kind ≡ false → is_property l.kind ≡ false → places_of o l cs ws ≡ cond (is_literal l.kind) ws []
other_places o l cs ws b g q = rw (b, q, g) refl

-- the same of equal parts
pub answer_as : {os ns : List Node} {rs : List ℕ} {noted notes : Noted} {ws ws' : List Widening} (ids : Option (List (Option NodeId))) {r r' : Option Slots} → ws ≡ ws' → r ≡ r' → Converted os ns rs noted notes ws ids r → Converted os ns rs noted notes ws' ids r'
answer_as {os} {ns} {rs} {noted} {notes} {ws} {ws'} ids {r} {r'} e h x = subst (λ (q : List Widening). Converted os ns rs noted notes q ids r') e (subst (λ (q : Option Slots). Converted os ns rs noted notes ws ids q) h x)

abbrev pub ItemAnswer : Bool → List Node → List Node → NodeId → Noted → Noted → Bool → Option NodeId → Type 0
ItemAnswer o os ns id noted notes last found = OfNode os id (λ l cs rs. is_elision l.kind ≡ false → Converted os ns rs noted notes (spots_at o l cs) (one_node found) (element_slot last l cs (own_of l cs)))

no_spread : (k : NodeKind) → is_assignment k ≡ true → is_spread k ≡ false
no_spread assignment_expression h = refl
no_spread _ h = absurd (false≢true h)

abbrev pub AssignmentAnswer : List Node → List Node → NodeId → Noted → Noted → Option NodeId → Type 0
AssignmentAnswer os ns id noted notes found = OfNode os id (λ l cs rs. is_assignment l.kind ≡ true → Converted os ns rs noted notes (operator_places l.op (made_span l.span)) (one_node found) (Some (tree (relabelled assignment_target_with_default l) cs end)))

abbrev pub PropertyAnswer : List Node → List Node → NodeId → Noted → Noted → Option NodeId → Type 0
PropertyAnswer os ns id noted notes found = OfNode os id (λ l cs rs. Converted os ns rs noted notes (property_places l (places_in in_property cs)) (one_node found) (property_slot l cs (elements_in in_property cs)))

spread_spots : (o : Bool) (l : Label) (cs : Slots) → is_spread l.kind ≡ true → rest_places o l cs ≡ spots_at o l cs
spread_spots o l cs b = ap (λ (w : Within). places_in w cs ++ (argument_places o cs ++ Rest (made_span l.span) ∷ [])) (sym (spread_within l.kind b)) ∙ sym (by (is_spread l.kind) b)
  where
    ws : List Widening
    ws = places_in (within l.kind) cs

    by : (c : Bool) → c ≡ true → cond c (ws ++ (argument_places o cs ++ Rest (made_span l.span) ∷ [])) (cond (is_literal l.kind) ws (cond (is_property l.kind) (property_places l ws) (cond (is_assignment l.kind) (operator_places l.op (made_span l.span)) []))) ≡ ws ++ (argument_places o cs ++ Rest (made_span l.span) ∷ [])
    by true h = refl
    by false h = absurd (false≢true h)

pub item_spread : (o : Bool) {os ns : List Node} {id : NodeId} {noted notes : Noted} (last : Bool) (found : Option NodeId) → is_spread (label (node_at os id)).kind ≡ true → RestAnswer o os ns id noted notes last found → ItemAnswer o os ns id noted notes last found
item_spread o {id = id} last found h v = λ l cs rs s d a. let b = kind_here {id = id} is_spread h s in answer_as (one_node found) (spread_spots o l cs b) (ap (λ (w : Within). rest_slot last l (elements_in w cs)) (sym (spread_within l.kind b)) ∙ sym (spread_slot last l cs (own_of l cs) a b)) (v l cs rs s d)

pub item_target : (o : Bool) {os ns : List Node} {id : NodeId} {noted notes : Noted} (last : Bool) (found : Option NodeId) → is_spread (label (node_at os id)).kind ≡ false → is_assignment (label (node_at os id)).kind ≡ false → is_property (label (node_at os id)).kind ≡ false → TargetAnswer os ns id noted notes found → ItemAnswer o os ns id noted notes last found
item_target o {id = id} last found h g q v = λ l cs rs s d a.
    let b = kind_here {id = id} is_spread h s in
    let z = kind_here {id = id} is_assignment g s in
    let w = kind_here {id = id} is_property q s in
    answer_as (one_node found) (sym (other_places o l cs (places_in (within l.kind) cs) b z w)) (sym (other_slot last l cs (own_of l cs) a b z w)) (v l cs rs s d)

pub item_assigned : (o : Bool) {os ns : List Node} {id : NodeId} {noted notes : Noted} (last : Bool) (found : Option NodeId) → is_assignment (label (node_at os id)).kind ≡ true → AssignmentAnswer os ns id noted notes found → ItemAnswer o os ns id noted notes last found
item_assigned o {id = id} last found g v = λ l cs rs s d a.
    let z = kind_here {id = id} is_assignment g s in
    answer_as (one_node found) (sym (places_assigned o l cs (places_in (within l.kind) cs) z)) (sym (assigned_slot last l cs (own_of l cs) a (no_spread l.kind z) z)) (v l cs rs s d z)

property_spots : (o : Bool) (l : Label) (cs : Slots) → l.kind ≡ object_property → property_places l (places_in in_property cs) ≡ spots_at o l cs
property_spots o l cs h = rw h refl

property_element : (last : Bool) (l : Label) (cs : Slots) → l.kind ≡ object_property → property_slot l cs (elements_in in_property cs) ≡ element_slot last l cs (own_of l cs)
property_element last l cs h = rw h refl

pub item_property : (o : Bool) {os ns : List Node} {id : NodeId} {noted notes : Noted} (last : Bool) (found : Option NodeId) → is_property (label (node_at os id)).kind ≡ true → PropertyAnswer os ns id noted notes found → ItemAnswer o os ns id noted notes last found
item_property o {id = id} last found q v = λ l cs rs s d a.
    let h = property_kind l.kind (kind_here {id = id} is_property q s) in
    answer_as (one_node found) (property_spots o l cs h) (property_element last l cs h) (v l cs rs s d)

-- an assignment, whose operator was looked at
pub assignment_made : {os ns : List Node} {id made : NodeId} {noted notes : Noted} {m : MadeSpan} → Noded os ns (relabelled assignment_target_with_default (label (node_at os id))) (node_at os id).children made → m ≡ (node_at os id).span → notes ≡ record { places = noted.places ++ operator_places (label (node_at os id)).op m; misplaced = noted.misplaced } → AssignmentAnswer os ns id noted notes (Some made)
assignment_made {os} {ns} {id} {made} {noted} {notes} {m} n g w = λ l cs rs s d a.
    let c = (children_of {id = id} s).label_is in
    converts (record {
      keeps = Keeps-made (n.made);
      lies = λ text w. noded_lies os id n (children_of {id = id} s).below refl text w w;
      made = λ j w. noded_made n refl j w;
      slots = tree (relabelled assignment_target_with_default l) cs end;
      is = refl;
      slotted = initialised_made {id = id} n l cs rs s d;
      places_are = ap (λ (v : Noted). v.places) w ∙ (ap (λ (z : MadeSpan). noted.places ++ operator_places (label (node_at os id)).op z) g ∙ (ap (λ (k : Label). noted.places ++ operator_places k.op (made_span k.span)) (sym c)));
      unblamed = ap (λ (v : Noted). v.misplaced) w;
    })

pub element_hole : (o : Bool) {os : List Node} {id : NodeId} {noted : Noted} (last : Bool) → is_elision (label (node_at os id)).kind ≡ true → ElementAnswer o os os id last noted noted (Some None)
element_hole o {os} {id} {noted} last h = λ l cs rs s d. converts (by l cs rs (kind_here {id = id} is_elision h s))
  where
    none_of : (l : Label) (cs : Slots) (ws : List Widening) → is_elision l.kind ≡ true → places_of o l cs ws ≡ []
    none_of l cs ws h = by l.kind h
      where
        by : (k : NodeKind) → is_elision k ≡ true → cond (is_spread k) (ws ++ (argument_places o cs ++ Rest (made_span l.span) ∷ [])) (cond (is_literal k) ws (cond (is_property k) (property_places l ws) (cond (is_assignment k) (operator_places l.op (made_span l.span)) []))) ≡ []
        by elision h = refl
        by _ h = absurd (false≢true h)

    by : (l : Label) (cs : Slots) (rs : List ℕ) → is_elision l.kind ≡ true → Converts os os rs noted noted (spots_at o l cs) (None ∷ []) (element_slot last l cs (own_of l cs))
    by l cs rs a = record {
      keeps = Keeps-refl os;
      lies = λ text h. h;
      made = λ j h. h;
      slots = hole end;
      is = rw a refl;
      slotted = slotted_hole os rs;
      places_are = sym (append-nil noted.places) ∙ ap (λ (xs : List Widening). noted.places ++ xs) (sym (none_of l cs (places_in (within l.kind) cs) a));
      unblamed = refl;
    }

pub element_item : (o : Bool) {os ns : List Node} {id : NodeId} {noted notes : Noted} (last : Bool) (found : Option NodeId) (r : Option (Option NodeId)) → is_elision (label (node_at os id)).kind ≡ false → one_slot r ≡ one_node found → ItemAnswer o os ns id noted notes last found → ElementAnswer o os ns id last noted notes r
element_item o {os} {ns} {id} {noted} {notes} last found r h e v = λ l cs rs s d. subst (λ (ids : Option (List (Option NodeId))). Converted os ns rs noted notes (spots_at o l cs) ids (element_slot last l cs (own_of l cs))) (sym e) (v l cs rs s d (kind_here {id = id} is_elision h s))

-- ---- a target

literal_by : (l : Label) (cs : Slots) (own : Option Slots) → is_literal l.kind ≡ true → target_by l cs own ≡ literal_tree l own
literal_by l cs own h = rw h refl

simple_by : (l : Label) (cs : Slots) (own : Option Slots) → is_literal l.kind ≡ false → target_by l cs own ≡ target_of l cs
simple_by l cs own h = rw h refl

pub literal_within : (k : NodeKind) → is_literal k ≡ true → within k ≡ in_literal (is_object k)
literal_within array_expression h = refl
literal_within object_expression h = refl
literal_within _ h = absurd (false≢true h)

cond_true : (b : Bool) (ws : List Widening) → b ≡ true → ws ≡ cond b ws []
cond_true true ws h = refl
cond_true false ws h = absurd (false≢true h)

cond_false : (b : Bool) (ws : List Widening) → b ≡ false → [] ≡ cond b ws []
cond_false false ws h = refl
cond_false true ws h = absurd (false≢true (sym h))

abbrev pub LiteralAnswer : List Node → List Node → NodeId → Noted → Noted → Option NodeId → Type 0
LiteralAnswer os ns id noted notes found = OfNode os id (λ l cs rs. Converted os ns rs noted notes (places_in (in_literal (is_object l.kind)) cs) (one_node found) (slot_of (literal_tree l (elements_in (in_literal (is_object l.kind)) cs))))

pub target_literal : {os ns : List Node} {id : NodeId} {noted notes : Noted} (found : Option NodeId) → is_literal (label (node_at os id)).kind ≡ true → LiteralAnswer os ns id noted notes found → TargetAnswer os ns id noted notes found
target_literal {id = id} found h v = λ l cs rs s d.
    let b = kind_here {id = id} is_literal h s in
    let w = sym (literal_within l.kind b) in
    answer_as (one_node found) (ap (λ (z : Within). places_in z cs) w ∙ cond_true (is_literal l.kind) (places_in (within l.kind) cs) b) (ap (λ (z : Within). slot_of (literal_tree l (elements_in z cs))) w ∙ ap slot_of (sym (literal_by l cs (own_of l cs) b))) (v l cs rs s d)

pub renoted : {os ns : List Node} {rs : List ℕ} {noted : Noted} (ids : Option (List (Option NodeId))) {r : Option Slots} → Converted os ns rs unnoted unnoted [] ids r → Converted os ns rs noted noted [] ids r
renoted {noted = noted} (Some ids) (converts x) = converts (record { keeps = x.keeps; lies = x.lies; made = x.made; slots = x.slots; is = x.is; slotted = x.slotted; places_are = sym (append-nil noted.places); unblamed = refl })
renoted None (refuses x) = refuses (record { keeps = x.keeps; lies = x.lies; made = x.made; is = x.is; blames = inl refl })

pub target_simple : {os : List Node} {id : NodeId} {noted : Noted} (found : Option NodeId) → is_literal (label (node_at os id)).kind ≡ false → OfNode os id (λ l cs rs. Converted os os rs unnoted unnoted [] (one_node found) (slot_of (target_of l cs))) → TargetAnswer os os id noted noted found
target_simple {id = id} {noted = noted} found h v = λ l cs rs s d. let b = kind_here {id = id} is_literal h s in answer_as (one_node found) (cond_false (is_literal l.kind) (places_in (within l.kind) cs) b) (ap slot_of (sym (simple_by l cs (own_of l cs) b))) (renoted (one_node found) (v l cs rs s d))

-- ---- a simple target

abbrev pub SimpleAnswer : List Node → NodeId → Option NodeId → Type 0
SimpleAnswer os id found = OfNode os id (λ l cs rs. Converted os os rs unnoted unnoted [] (one_node found) (slot_of (target_of l cs)))

wider_answer : {os : List Node} {rs ss : List ℕ} (ids : Option (List (Option NodeId))) {r : Option Slots} → ((q : ℕ) → IsIn rs q → IsIn ss q) → Converted os os rs unnoted unnoted [] ids r → Converted os os ss unnoted unnoted [] ids r
wider_answer (Some ids) f (converts x) = converts (record { keeps = x.keeps; lies = x.lies; made = x.made; slots = x.slots; is = x.is; slotted = slotted_wider f x.slotted; places_are = x.places_are; unblamed = x.unblamed })
wider_answer None f (refuses x) = refuses (record { keeps = x.keeps; lies = x.lies; made = x.made; is = x.is; blames = inl refl })

module _ {os : List Node} {id : NodeId} where
  pub simple_none : is_parenthesized (label (node_at os id)).kind ≡ true → Only (node_at os id).children None → SimpleAnswer os id None
  simple_none p o = λ l cs rs s d. refuses (record { keeps = Keeps-refl os; lies = λ text h. h; made = λ j h. h; is = ap slot_of (empty_parens {id = id} o p (holds_node {id = id} s d)); blames = inl refl })

  pub simple_inside : {c : NodeId} (found : Option NodeId) → is_parenthesized (label (node_at os id)).kind ≡ true → Only (node_at os id).children (Some c) → SimpleAnswer os c found → SimpleAnswer os id found
  simple_inside {c} found p o v = λ l cs rs s d.
      let k = children_of {id = id} s in
      let x = one_child c o k.stands in
      let e = open_parens l cs (kind_here {id = id} is_parenthesized p s) ∙ ap target_in x.is in
      wider_answer (one_node found) (λ q i. subst (λ (xs : List ℕ). IsIn xs q) (sym k.is) (inr i)) (subst (λ (r : Option Slots). Converted os os k.numbers unnoted unnoted [] (one_node found) r) (ap slot_of (sym e)) (v x.label x.slots k.numbers x.stands (subst AreDistinct k.is d).1))

  pub simple_itself : is_parenthesized (label (node_at os id)).kind ≡ false → is_target (label (node_at os id)).kind ≡ true → SimpleAnswer os id (Some id)
  simple_itself p t = λ l cs rs s d. converts (record {
    keeps = Keeps-refl os;
    lies = λ text h. h;
    made = λ j h. h;
    slots = tree l cs end;
    is = ap slot_of (directly l cs true (kind_here {id = id} is_parenthesized p s) (kind_here {id = id} is_target t s));
    slotted = slotted_old (λ r i. i) s d;
    places_are = refl;
    unblamed = refl;
  })

  pub simple_refused : is_parenthesized (label (node_at os id)).kind ≡ false → is_target (label (node_at os id)).kind ≡ false → SimpleAnswer os id None
  simple_refused p t = λ l cs rs s d. refuses (record { keeps = Keeps-refl os; lies = λ text h. h; made = λ j h. h; is = ap slot_of (directly l cs false (kind_here {id = id} is_parenthesized p s) (kind_here {id = id} is_target t s)); blames = inl refl })

-- ---- answers of the calls

abbrev pub ElementsAnswer : Bool → List Node → List Node → NodeId → Noted → Noted → Option (List (Option NodeId)) → Type 0
ElementsAnswer o os ns id noted notes ids = OfNode os id (λ l cs rs. Converted os ns rs noted notes (places_in (in_literal o) cs) ids (elements_in (in_literal o) cs))

pub literal_none : {os ns : List Node} {id : NodeId} {noted notes : Noted} (o : Bool) → o ≡ is_object (label (node_at os id)).kind → ElementsAnswer o os ns id noted notes None → LiteralAnswer os ns id noted notes None
literal_none {id = id} {noted} {notes} o g v = λ l cs rs s d.
    let y = refused_of (v l cs rs s d) in
    let h : o ≡ is_object l.kind = g ∙ ap (λ (m : Label). is_object m.kind) (sym (children_of {id = id} s).label_is) in
    refuses (record { keeps = y.keeps; lies = y.lies; made = y.made; is = ap (λ (b : Bool). slot_of (literal_tree l (elements_in (in_literal b) cs))) (sym h) ∙ ap (λ (r : Option Slots). slot_of (literal_tree l r)) y.is; blames = subst (λ (b : Bool). Blames (places_in (in_literal b) cs) noted notes) h y.blames })

pub literal_some : {os ns ms : List Node} {id made : NodeId} {noted notes : Noted} {ids : List (Option NodeId)} {k : Label} (o : Bool) → o ≡ is_object (label (node_at os id)).kind → ElementsAnswer o os ns id noted notes (Some ids) → Noded ns ms k ids made → k ≡ relabelled (pattern_kind o) (label (node_at os id)) → LiteralAnswer os ms id noted notes (Some made)
literal_some {id = id} o g v n e = λ l cs rs s d. converts (literal_made {id = id} o g (λ l cs rs s d. made_of (v l cs rs s d)) n e l cs rs s d)

pub elements_keep : {o : Bool} {os ns : List Node} {id : NodeId} {noted notes : Noted} {ids : List (Option NodeId)} → Stood os id → ElementsAnswer o os ns id noted notes (Some ids) → (id.0 < length ns) × (node_at ns id ≡ node_at os id)
elements_keep {id = id} w v =
    let x = made_of (v w.label w.slots (w.holds).numbers (w.holds).stands (w.holds).distinct) in
    let b = (children_of {id = id} (w.holds).stands).below in
    let k = Keeps-longer x.keeps in
    (omega arith, node_kept {id = id} x.keeps b)

pub elements_none : {o : Bool} {os ns : List Node} {id : NodeId} {noted notes : Noted} → OfNode os id (λ l cs rs. RefusesTarget os ns noted notes (places_in (in_literal o) cs) (elements_in (in_literal o) cs)) → ElementsAnswer o os ns id noted notes None
elements_none v = λ l cs rs s d. refuses (v l cs rs s d)

pub elements_some : {o : Bool} {os ns : List Node} {id : NodeId} {noted notes : Noted} {ids : List (Option NodeId)} → OfNode os id (λ l cs rs. Converts os ns rs noted notes (places_in (in_literal o) cs) ids (elements_in (in_literal o) cs)) → ElementsAnswer o os ns id noted notes (Some ids)
elements_some v = λ l cs rs s d. converts (v l cs rs s d)

-- ---- the loop over children

pub next_child' : (ids : List (Option NodeId)) (at : ℕ) (x : Option NodeId) → slice_get ids at ≡ Some x → drop at ids ≡ x ∷ drop (at + 1) ids
next_child' ids at x e =
    let l = slice_get_within ids at x e in
    let n : suc at ≡ at + 1 = omega arith in
    drop-cons ids at x l ∙ (ap (λ (y : Option NodeId). y ∷ drop (suc at) ids) (get_or_from_slice_get ids at x x e) ∙ ap (λ (k : ℕ). x ∷ drop k ids) n)

pub no_more : (ids : List (Option NodeId)) (at : ℕ) → length ids ≤ at → drop at ids ≡ []
no_more [] zero l = refl
no_more [] (suc at) l = refl
no_more (x ∷ ids) zero l = absurd (omega arith)
no_more (x ∷ ids) (suc at) l = no_more ids at (omega arith)

pub last_child : (ids : List (Option NodeId)) (at : ℕ) (b : Bool) → at ≤ length ids → b ≡ nat_eq at (length ids) → b ≡ is_nil (drop at ids)
last_child ids at b l e = by b e
  where
    some_more : (c : ℕ) → c ≡ at → (xs : List (Option NodeId)) → drop at ids ≡ xs → (at ≡ length ids → ⊥) → false ≡ is_nil xs
    some_more c h (x ∷ xs) q n = refl
    some_more c h [] q n = absurd (let k : (drop at ids) ≡ [] = q in no_cons (sym k ∙ drop-cons ids at None (omega arith)))
      where
        no_cons : {y : Option NodeId} {ys : List (Option NodeId)} → [] ≡ y ∷ ys → ⊥
        no_cons e = cc

    by : (b : Bool) → b ≡ nat_eq at (length ids) → b ≡ is_nil (drop at ids)
    by true e = ap is_nil (sym (no_more ids at (let k = eqb-true at (length ids) (sym e) in omega arith)))
    by false e = some_more at refl (drop at ids) refl (λ k. false≢true (e ∙ eq-eqb at (length ids) k))

-- ---- kinds of nodes that are matched

pub no_elision : (k : MadeKind) → (k ≡ node.Elision → ⊥) → is_elision (kind_of k) ≡ false
no_elision node.Elision n = absurd (n refl)
no_elision _ n = refl

pub no_spread_element : (k : MadeKind) → (k ≡ node.SpreadElement → ⊥) → is_spread (kind_of k) ≡ false
no_spread_element node.SpreadElement n = absurd (n refl)
no_spread_element _ n = refl

pub no_assignment : (k : MadeKind) → (k ≡ node.AssignmentExpression → ⊥) → is_assignment (kind_of k) ≡ false
no_assignment node.AssignmentExpression n = absurd (n refl)
no_assignment _ n = refl

pub no_property : (k : MadeKind) → (k ≡ node.ObjectProperty → ⊥) → is_property (kind_of k) ≡ false
no_property node.ObjectProperty n = absurd (n refl)
no_property _ n = refl
