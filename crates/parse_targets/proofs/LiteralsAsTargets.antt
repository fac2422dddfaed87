-- A literal whose elements are those of a target is derived as this target, over the same lexemes, where it is as narrow as one (ECMA-262, 13.15.5).
use Rattle.std.proofs.Common.{ℕ, ◌≡◌, ◌⊎◌, inl, inr, Bool, true, false, cond, ◌&&◌, ◌||◌, IsTrue, List, [], ◌∷◌, ◌++◌, Option, Some, None, refl, sym, ap, subst, ◌∙◌}
use Rattle.std.proofs.lemmas.Bool.{false≢true, and_parts, or_left, or_right}
use Rattle.js_base.specs.declared.kind.Kind.{Kind}
use Rattle.js_base.specs.declared.kind.Kind.TheVariants.{Eq, Colon, Comma, Dot3, LBrack, RBrack, LCurly, RCurly}
use Rattle.js_base.specs.Kinds.{same_kind, one_of_kinds}
use Rattle.js_base.proofs.KindLemmas.{kind_of_same}
use Rattle.js_grammar.specs.Trees.{NodeKind, Op, Span, Label, Slots, end, hole, tree, Tree, no_op, init, assignment_expression, spread_element, function_expression, array_assignment_target, object_assignment_target, assignment_target_rest, assignment_target_with_default, assignment_target_property_property, append, object_property}
use Rattle.js_grammar.specs.Grammar.{Lexeme, Lexemes, last, next, here, seen, is, such, when, nothing, never, empty_slot, ◌▸◌, ◌◇◌, Takes, is_nothing, is_lexeme, is_empty_slot, is_seq, is_left, is_right, is_when, is_ahead, is_many, is_such, is_node, Look}
use Rattle.js_grammar.specs.Insertion.{assign_operators, other_operators}
use Rattle.js_grammar.specs.Lexed.{Lexes}
use Rattle.js_grammar.specs.LexicalFaults.{Reached}
use Rattle.js_grammar.specs.Parsing.{always}
use Rattle.js_grammar.specs.Productions.{G, branches, Flags, at, tok, mk, items, plus_in, flag, has_flag, computed_flag, shorthand_flag, Assignment, LeftHandSide, SimpleTarget, Target, ArrayTarget, ObjectTarget, TargetElement, TargetProperty, Property}
use Rattle.js_grammar.specs.Productions.{sym as symbol}
use Rattle.js_grammar.specs.Table.{rule, rule_of, rest_of, name}
use Rattle.js_grammar.specs.TreeForms.{are_none}
use Rattle.js_grammar.specs.CoverInitialisers.{is_property}
use Rattle.js_grammar.proofs.Behind.{lexed_behind}
use Rattle.parse_shared.proofs.js_cursor.Moving.{reached_next}
use Rattle.parse_shared.specs.laws_shared.ArrayLiterals.{elements}
use Rattle.parse_shared.specs.laws_shared.Lexemes.{Lex, other_goals}
use Rattle.parse_shared.proofs.laws_shared.Characters.{characters}
use Rattle.js_grammar.proofs.Looks.{apart, not_both}
use Rattle.std.specs.Prelude.{IsUtf8, IsCharBoundary}
use Rattle.parse_targets.specs.Taken.{target_name}
use Rattle.parse_targets.specs.Targets.{literal_kind, Each, IsIn, Closed, Narrow, Fits, in_literal, in_property, within, is_elision, is_spread, is_assignment, is_equals, is_wide, is_object, is_literal, is_pattern, is_target, target_of, relabelled, pattern_kind, literal_tree, slot_of, rest_slot, shorthand_slot, behind_first, reference_slot, named_slot, property_slot, element_slot, followed, before_all, before_value, elements_in, operator_places, literal_places, places_of, places_in, made_span}
use Rattle.parse_targets.specs.declared.widening.Widening.{Widening}
use Rattle.parse_targets.specs.declared.widening.Widening.TheVariants.{Rest, RestTarget, Operator}
use Rattle.parse_targets.proofs.ArrayTargets.{with_operator}
use Rattle.parse_targets.proofs.ArrayElements.{a_slots, a_part, operated_line, gap_label, no_gap, Initialised, initialised, Step, closes, gap, item, final, step_of, Element, an_expression, a_spread, element_of}
use Rattle.parse_targets.proofs.Properties.{property_label, shorthand_line, PropertyOf, a_shorthand, a_value, a_method, a_spread as a_spread_property, property_of, properties_on, PropertyStep, shuts, property, last_property, property_step}
use Rattle.parse_shared.proofs.laws_shared.FreeOfIn.{any_in}
use Rattle.parse_targets.proofs.Targets.{may_literal, is_literal_kind, Literal, of_array, of_object, literal_shape, of_assignment, may_target, left_hand_side_target}

-- ---- what stands behind a rest

-- a lexeme begins and ends between characters
pub lexeme_between : {text : List ℕ} {s : ℕ} {y : Lexeme} → IsUtf8 text → IsCharBoundary text s → Lex text s y → IsCharBoundary text y.from × IsCharBoundary text y.to
lexeme_between {text} {s} {y} u b l =
    let c = characters u b l.0 in
    (c.0, c.1.boundary)

abbrev closes_a_literal : Look
closes_a_literal k w e = one_of_kinds (RBrack ∷ RCurly ∷ []) k

abbrev of_another_goal : Look
of_another_goal k w e = one_of_kinds other_goals k

no_other_closes : apart closes_a_literal of_another_goal ≡ true
unfolding apart
no_other_closes = refl

-- what closes a literal is of the plain lexical goal
pub bracket_plain : (k : Kind) → one_of_kinds (RBrack ∷ RCurly ∷ []) k ≡ true → one_of_kinds other_goals k ≡ false
bracket_plain k h = go (one_of_kinds other_goals k) refl
  where
    go : (b : Bool) → one_of_kinds other_goals k ≡ b → one_of_kinds other_goals k ≡ false
    go true e = absurd (not_both closes_a_literal of_another_goal no_other_closes k false false h e)
    go false e = e

-- lexemes that are reached from the text's start
abbrev pub Led : List ℕ → ℕ → Lexeme → Type 0
Led text s y = Lex text s y × Reached text s × IsCharBoundary text s

pub all_of : {A : Type 0} (P : A → Type 0) (rs ss : List A) → Each P rs → Each P ss → Each P (rs ++ ss)
all_of P [] ss a b = b
all_of P (r ∷ rs) ss a b = (a.0, all_of P rs ss a.1 b)

pub all_left : {A : Type 0} (P : A → Type 0) (rs ss : List A) → Each P (rs ++ ss) → Each P rs
all_left P [] ss a = tt
all_left P (r ∷ rs) ss a = (a.0, all_left P rs ss a.1)

pub all_right : {A : Type 0} (P : A → Type 0) (rs ss : List A) → Each P (rs ++ ss) → Each P ss
all_right P [] ss a = a
all_right P (r ∷ rs) ss a = all_right P rs ss a.1

pub one_of_each : {A : Type 0} (P : A → Type 0) (ws : List A) (w : A) → IsIn ws w → Each P ws → P w
one_of_each P [] w i h = absurd i
one_of_each P (v ∷ ws) w (inl e) h = subst P e h.0
one_of_each P (v ∷ ws) w (inr i) h = one_of_each P ws w i h.1

pub kind_is : {k : Kind} (x : Lexeme) → IsTrue (seen (is k) x) → x.kind ≡ k
kind_is {k} x q = sym (kind_of_same k x.kind (and_parts (same_kind k x.kind) _ q).0)

pub some_is : {a b : Slots} → Some a ≡ Some b → a ≡ b
some_is e = cc

pub property_kind : (k : NodeKind) → is_property k ≡ true → k ≡ object_property
property_kind object_property h = refl
property_kind _ h = absurd (false≢true h)

-- ---- the parts of what is converted

-- an element before others
abbrev pub rest_before : Label → Option Slots → Slots → Option Slots
rest_before l own us = followed (rest_slot (are_none us) l own) us

abbrev pub simple_before : Option Tree → Slots → Option Slots
simple_before r us = followed (slot_of r) us

abbrev pub literal_before : Label → Option Slots → Slots → Option Slots
literal_before l own us = simple_before (literal_tree l own) us

abbrev pub element_before : Label → Slots → Option Slots → Slots → Option Slots
element_before l cs own us = followed (element_slot (are_none us) l cs own) us

abbrev by_tests : Bool → Bool → Bool → Bool → Bool → Label → Slots → Option Slots → Slots → Option Slots
by_tests a b g q h l cs own us = followed (cond a (Some (hole end)) (cond b (rest_slot (are_none us) l own) (cond g (Some (tree (relabelled assignment_target_with_default l) cs end)) (cond q (property_slot l cs own) (slot_of (cond h (literal_tree l own) (target_of l cs))))))) us

pub record Before (l : Label) (cs : Slots) (own r : Option Slots) (ds : Slots) : Type 0 where
  pub behind : Slots
  pub is : r ≡ Some behind
  pub element : element_before l cs own behind ≡ Some ds

pub before_of : (l : Label) (cs : Slots) (own r : Option Slots) (ds : Slots) → before_all l cs own r ≡ Some ds → Before l cs own r ds
before_of l cs own (Some us) ds e = record { behind = us; is = refl; element = e }
before_of l cs own None ds e = absurd (cc)

record LiteralPart (l : Label) (own : Option Slots) (us ds : Slots) : Type 0 where
  inside : Slots
  is : own ≡ Some inside
  whole : ds ≡ tree (relabelled (pattern_kind (is_object l.kind)) l) inside us

literal_of : (l : Label) (own : Option Slots) (us ds : Slots) → literal_before l own us ≡ Some ds → LiteralPart l own us ds
literal_of l (Some xs) us ds e = record { inside = xs; is = refl; whole = sym (some_is e) }
literal_of l None us ds e = absurd (cc)

record SimplePart (r : Option Tree) (us ds : Slots) : Type 0 where
  target : Tree
  is : r ≡ Some target
  whole : ds ≡ tree target.label target.slots us

simple_of : (r : Option Tree) (us ds : Slots) → simple_before r us ≡ Some ds → SimplePart r us ds
simple_of (Some t) us ds e = record { target = t; is = refl; whole = sym (some_is e) }
simple_of None us ds e = absurd (cc)

record RestPart (l : Label) (own : Option Slots) (us ds : Slots) : Type 0 where
  label : Label
  slots : Slots
  is : own ≡ Some (tree label slots end)
  target : (is_target label.kind || is_pattern label.kind) ≡ true
  last : us ≡ end
  whole : ds ≡ tree (relabelled assignment_target_rest l) (tree label slots end) end

rest_part : (l : Label) (own : Option Slots) (us ds : Slots) → rest_before l own us ≡ Some ds → RestPart l own us ds
rest_part l (Some (tree m xs end)) end ds e = go (is_target m.kind || is_pattern m.kind) refl e
  where
    go : (b : Bool) → (is_target m.kind || is_pattern m.kind) ≡ b → followed (cond b (Some (tree (relabelled assignment_target_rest l) (tree m xs end) end)) None) end ≡ Some ds → RestPart l (Some (tree m xs end)) end ds
    go true q e = record { label = m; slots = xs; is = refl; target = q; last = refl; whole = sym (some_is e) }
    go false q e = absurd (cc)
rest_part l (Some (tree m xs (hole vs))) end ds e = absurd (cc)
rest_part l (Some (tree m xs (tree n ys vs))) end ds e = absurd (cc)
rest_part l (Some (hole vs)) end ds e = absurd (cc)
rest_part l (Some end) end ds e = absurd (cc)
rest_part l None end ds e = absurd (cc)
rest_part l own (hole us) ds e = absurd (cc)
rest_part l own (tree n ys us) ds e = absurd (cc)

-- nothing is converted to no element
slot_some : (r : Option Tree) (ts : Slots) → slot_of r ≡ Some ts → are_none ts ≡ false
slot_some (Some t) ts e = ap are_none (sym (some_is e))
slot_some None ts e = absurd (cc)

rest_slot_some : (is_last : Bool) (l : Label) (own : Option Slots) (ts : Slots) → rest_slot is_last l own ≡ Some ts → are_none ts ≡ false
rest_slot_some false l own ts e = absurd (cc)
rest_slot_some true l None ts e = absurd (cc)
rest_slot_some true l (Some end) ts e = absurd (cc)
rest_slot_some true l (Some (hole us)) ts e = absurd (cc)
rest_slot_some true l (Some (tree k ds (hole us))) ts e = absurd (cc)
rest_slot_some true l (Some (tree k ds (tree n es us))) ts e = absurd (cc)
rest_slot_some true l (Some (tree k ds end)) ts e = go (is_target k.kind || is_pattern k.kind) e
  where
    go : (b : Bool) → cond b (Some (tree (relabelled assignment_target_rest l) (tree k ds end) end)) None ≡ Some ts → are_none ts ≡ false
    go true e = ap are_none (sym (some_is e))
    go false e = absurd (cc)

reference_some : (l : Label) (cs ts : Slots) → reference_slot l cs ≡ Some ts → are_none ts ≡ false
reference_some l end ts e = absurd (cc)
reference_some l (hole us) ts e = absurd (cc)
reference_some l (tree m ds us) ts e = ap are_none (sym (some_is e))

named_some : (l : Label) (own : Option Slots) (ts : Slots) → named_slot l own ≡ Some ts → are_none ts ≡ false
named_some l None ts e = absurd (cc)
named_some l (Some us) ts e = ap are_none (sym (some_is e))

property_some : (l : Label) (cs : Slots) (own : Option Slots) (ts : Slots) → property_slot l cs own ≡ Some ts → are_none ts ≡ false
property_some l cs own ts e = go (has_flag shorthand_flag l.flags) e
  where
    go : (b : Bool) → cond b (shorthand_slot l cs) (named_slot l own) ≡ Some ts → are_none ts ≡ false
    go true e = reference_some l (behind_first cs) ts e
    go false e = named_some l own ts e

pub element_some : (is_last : Bool) (l : Label) (cs : Slots) (own : Option Slots) (ts : Slots) → element_slot is_last l cs own ≡ Some ts → are_none ts ≡ false
element_some is_last l cs own ts e = by (is_elision l.kind) (is_spread l.kind) (is_assignment l.kind) (is_property l.kind) e
  where
    by : (a b g q : Bool) → cond a (Some (hole end)) (cond b (rest_slot is_last l own) (cond g (Some (tree (relabelled assignment_target_with_default l) cs end)) (cond q (property_slot l cs own) (slot_of (cond (is_literal l.kind) (literal_tree l own) (target_of l cs)))))) ≡ Some ts → are_none ts ≡ false
    by true b g q e = ap are_none (sym (some_is e))
    by false true g q e = rest_slot_some is_last l own ts e
    by false false true q e = ap are_none (sym (some_is e))
    by false false false true e = property_some l cs own ts e
    by false false false false e = slot_some (cond (is_literal l.kind) (literal_tree l own) (target_of l cs)) ts e

append_some : (ts us : Slots) → are_none ts ≡ false → append ts us ≡ end → ⊥
append_some end us h e = false≢true (sym h)
append_some (hole ts) us h e = cc
append_some (tree l cs ts) us h e = cc

pub no_end : (l : Label) (cs : Slots) (own : Option Slots) (us : Slots) → element_before l cs own us ≡ Some end → ⊥
no_end l cs own us e = by (element_slot (are_none us) l cs own) refl e
  where
    by : (r : Option Slots) → element_slot (are_none us) l cs own ≡ r → followed r us ≡ Some end → ⊥
    by None q e = absurd (cc)
    by (Some ts) q e = append_some ts us (element_some (are_none us) l cs own ts q) (some_is e)

pub is_end : (o : Bool) (us : Slots) → elements_in (in_literal o) us ≡ Some end → us ≡ end
is_end o end e = refl
is_end o (hole us) e = absurd (cc)
is_end o (tree l cs us) e = let p = before_of l cs (elements_in (within l.kind) cs) (elements_in (in_literal o) us) end e in absurd (no_end l cs (elements_in (within l.kind) cs) p.behind p.element)

-- ---- targets

-- of an array, or with o of an object
abbrev gap_line : Bool → G
gap_line o = cond o never (empty_slot ▸ tok Comma)

abbrev item_line : Bool → Flags → G
item_line o f = cond o (symbol TargetProperty f) (symbol TargetElement f)

abbrev pattern_line : Flags → G
pattern_line f = symbol ArrayTarget f ◇ symbol ObjectTarget f

abbrev argument_line : Bool → Flags → G
argument_line o f = cond o (symbol SimpleTarget f ◇ when f.wide (pattern_line f)) (symbol Target f)

abbrev rest_line : Bool → Flags → G
rest_line o f = rest_of f (mk assignment_target_rest (tok Dot3 ▸ argument_line o f))

abbrev closer : Bool → Kind
closer o = cond o RCurly RBrack

abbrev pub target_items : Bool → Flags → G
target_items o f = items (gap_line o) (item_line o f) (rest_line o f) ▸ tok (closer o)

one_more : (o : Bool) (f : Flags) {ts us vs : Slots} {i j k : ℕ} {ls mid rest : Lexemes} → Takes rule (gap_line o ◇ item_line o f ▸ tok Comma) end ts i ls us k mid → Takes rule (target_items o f) end us k mid vs j rest → Takes rule (target_items o f) end ts i ls vs j rest
one_more o f s (is_seq (is_seq (is_many m) l) p) = is_seq (is_seq (is_many (is_left (is_seq s (is_many m)))) l) p

the_last : (o : Bool) (f : Flags) {ts us vs : Slots} {i j k : ℕ} {ls mid rest : Lexemes} → Takes rule (item_line o f ◇ rest_line o f ◇ nothing) end ts i ls us k mid → Takes rule (tok (closer o)) end us k mid vs j rest → Takes rule (target_items o f) end ts i ls vs j rest
the_last o f l p = is_seq (is_seq (is_many (is_right is_nothing)) l) p

-- An element as it is converted: a simple target, that of a literal (with b), or one with an initialiser.
abbrev is_made_target : Slots → Bool
is_made_target (tree l cs us) = is_target l.kind || is_pattern l.kind
is_made_target _ = false

data Made (f : Flags) (b : Bool) (ds : Slots) (i : ℕ) (ls : Lexemes) (us : Slots) (j : ℕ) (rest : Lexemes) : Type 0 where
  a_simple : Takes rule (symbol SimpleTarget f) end ds i ls us j rest → Made f b ds i ls us j rest
  a_pattern : b ≡ true → Takes rule (pattern_line f) end ds i ls us j rest → Made f b ds i ls us j rest
  with_default : is_made_target ds ≡ false → Takes rule (symbol TargetElement f) end ds i ls us j rest → Made f b ds i ls us j rest

simple_target : {f : Flags} {ds us : Slots} {i j : ℕ} {ls rest : Lexemes} → Takes rule (symbol SimpleTarget f) end ds i ls us j rest → Takes rule (symbol Target f) end ds i ls us j rest
unfolding rule rule_of
simple_target (is_such d c) = is_such (is_left (is_such d refl)) refl

pattern_target : {f : Flags} {ds us : Slots} {i j : ℕ} {ls rest : Lexemes} → Takes rule (pattern_line f) end ds i ls us j rest → Takes rule (symbol Target f) end ds i ls us j rest
unfolding rule rule_of
pattern_target (is_left (is_such d c)) = is_such (is_right (is_left (is_such d refl))) refl
pattern_target (is_right (is_such d c)) = is_such (is_right (is_right (is_such d refl))) refl

as_element : {f : Flags} {ds us : Slots} {i j : ℕ} {ls rest : Lexemes} → Takes rule (symbol Target f) end ds i ls us j rest → Takes rule (symbol TargetElement f) end ds i ls us j rest
unfolding rule rule_of
as_element (is_such d c) = is_such (is_left (is_such d refl)) refl

element_made : {f : Flags} {b : Bool} {ds us : Slots} {i j : ℕ} {ls rest : Lexemes} → Made f b ds i ls us j rest → Takes rule (symbol TargetElement f) end ds i ls us j rest
element_made (a_simple d) = as_element (simple_target d)
element_made (a_pattern h d) = as_element (pattern_target d)
element_made (with_default n d) = d

-- the argument of a rest
argument_made : (o : Bool) {f : Flags} {b : Bool} {ds us : Slots} {i j : ℕ} {ls rest : Lexemes} → is_made_target ds ≡ true → ((o && b) ≡ true → f.wide ≡ true) → Made f b ds i ls us j rest → Takes rule (argument_line o f) end ds i ls us j rest
argument_made false h w (a_simple d) = simple_target d
argument_made false h w (a_pattern q d) = pattern_target d
argument_made true h w (a_simple d) = is_left d
argument_made true h w (a_pattern q d) = is_right (is_when (w q) d)
argument_made o h w (with_default n d) = absurd (false≢true (sym n ∙ h))

by_simple : (f : Flags) {t : Tree} {us : Slots} {i j : ℕ} {ls rest : Lexemes} → Takes rule (such (at SimpleTarget (plus_in f)) always) end (tree t.label t.slots end) i ls end j rest → Takes rule (symbol SimpleTarget f) end (tree t.label t.slots us) i ls us j rest
by_simple f {t} {us} {i} {j} {ls} {rest} d = go (any_in SimpleTarget (plus_in f) f refl refl d)
  where
    go : Takes rule (such (at SimpleTarget f) always) end (tree t.label t.slots end) i ls end j rest → Takes rule (symbol SimpleTarget f) end (tree t.label t.slots us) i ls us j rest
    go (is_such d c) = is_such d refl

as_array : (f : Flags) {xs us : Slots} {i j : ℕ} {x : Lexeme} {ls rest : Lexemes} → IsTrue (seen (is LBrack) x) → Takes rule (target_items false (plus_in f)) end xs x.to ls end j rest → Takes rule (pattern_line f) end (tree (record { kind = array_assignment_target; op = no_op; flags = 0; span = record { from = x.from; to = j } }) xs us) i (next x ls) us j rest
unfolding rule rule_of
as_array f {xs} {us} {i} {j} {x} {ls} {rest} q d = back (any_in ArrayTarget (plus_in f) f refl refl (made d))
  where
    made : Takes rule (target_items false (plus_in f)) end xs x.to ls end j rest → Takes rule (such (at ArrayTarget (plus_in f)) always) end (tree (record { kind = array_assignment_target; op = no_op; flags = 0; span = record { from = x.from; to = j } }) xs end) i (next x ls) end j rest
    made d = is_such (is_node (is_seq (is_lexeme q) d)) refl

    back : {l : Label} → Takes rule (such (at ArrayTarget f) always) end (tree l xs end) i (next x ls) end j rest → Takes rule (pattern_line f) end (tree l xs us) i (next x ls) us j rest
    back (is_such d c) = is_left (is_such d refl)

as_object : (f : Flags) {xs us : Slots} {i j : ℕ} {x : Lexeme} {ls rest : Lexemes} → IsTrue (seen (is LCurly) x) → Takes rule (target_items true (plus_in f)) end xs x.to ls end j rest → Takes rule (pattern_line f) end (tree (record { kind = object_assignment_target; op = no_op; flags = 0; span = record { from = x.from; to = j } }) xs us) i (next x ls) us j rest
unfolding rule rule_of
as_object f {xs} {us} {i} {j} {x} {ls} {rest} q d = back (any_in ObjectTarget (plus_in f) f refl refl (made d))
  where
    made : Takes rule (target_items true (plus_in f)) end xs x.to ls end j rest → Takes rule (such (at ObjectTarget (plus_in f)) always) end (tree (record { kind = object_assignment_target; op = no_op; flags = 0; span = record { from = x.from; to = j } }) xs end) i (next x ls) end j rest
    made d = is_such (is_node (is_seq (is_lexeme q) d)) refl

    back : {l : Label} → Takes rule (such (at ObjectTarget f) always) end (tree l xs end) i (next x ls) end j rest → Takes rule (pattern_line f) end (tree l xs us) i (next x ls) us j rest
    back (is_such d c) = is_right (is_such d refl)

as_default : (f : Flags) {l : Label} {cs us : Slots} {i j : ℕ} {ls rest : Lexemes} → Initialised (plus_in f) l cs i ls j rest → Takes rule (symbol TargetElement f) end (tree (relabelled assignment_target_with_default l) cs us) i ls us j rest
unfolding rule rule_of
as_default f {l} {cs} {us} {i} {j} {ls} {rest} x = subst (λ (s : Span). Takes rule (symbol TargetElement f) end (tree (record { kind = assignment_target_with_default; op = no_op; flags = 0; span = s }) cs us) i ls us j rest) (sym x.span_is) (made (lowered x.sides))
  where
    lowered : {cs : Slots} {i j : ℕ} {ls rest : Lexemes} → Takes rule (symbol Target (plus_in f) ▸ tok Eq ▸ symbol Assignment (plus_in f)) end cs i ls end j rest → Takes rule (symbol Target f ▸ tok Eq ▸ symbol Assignment (plus_in f)) end cs i ls end j rest
    lowered (is_seq d e) = is_seq (any_in Target (plus_in f) f refl refl d) e

    made : Takes rule (symbol Target f ▸ tok Eq ▸ symbol Assignment (plus_in f)) end cs i ls end j rest → Takes rule (symbol TargetElement f) end (tree (record { kind = assignment_target_with_default; op = no_op; flags = 0; span = record { from = (here ls).from; to = j } }) cs us) i ls us j rest
    made d = is_such (is_right (is_left (is_node d))) refl

-- in a wider form the operator is another one
sides_lowered : (f : Flags) (k : Kind) {cs : Slots} {i j : ℕ} {ls rest : Lexemes} → Takes rule (a_slots (plus_in f) k) end cs i ls end j rest → Takes rule (symbol SimpleTarget f ▸ tok k ▸ symbol Assignment (plus_in f)) end cs i ls end j rest
sides_lowered f k (is_seq d e) = is_seq (any_in SimpleTarget (plus_in f) f refl refl d) e

wide_branch : (f : Flags) (ks : List Kind) → {l : Label} {cs us : Slots} {i j : ℕ} {ls rest : Lexemes} → Takes rule (branches ks (a_part (plus_in f))) end (tree l cs end) i ls end j rest → Takes rule (branches ks (with_operator f)) end (tree (relabelled assignment_target_with_default l) cs us) i ls us j rest
wide_branch f [] d = elim d [ ]
wide_branch f (k ∷ []) (is_node d) = is_node (sides_lowered f k d)
wide_branch f (k ∷ m ∷ ks) (is_left (is_node d)) = is_left (is_node (sides_lowered f k d))
wide_branch f (k ∷ m ∷ ks) (is_right d) = is_right (wide_branch f (m ∷ ks) d)

as_wide : (f : Flags) → f.wide ≡ true → {l : Label} {cs us : Slots} {i j : ℕ} {ls rest : Lexemes} → is_equals l.op ≡ false → Takes rule (branches assign_operators (a_part (plus_in f))) end (tree l cs end) i ls end j rest → Takes rule (symbol TargetElement f) end (tree (relabelled assignment_target_with_default l) cs us) i ls us j rest
unfolding rule rule_of
as_wide f w n (is_left (is_node d)) = absurd (false≢true (sym n))
as_wide f w n (is_right d) = is_such (is_right (is_right (is_when w (wide_branch f other_operators d)))) refl

pub places_simple : (o : Bool) (l : Label) (cs : Slots) (ws : List Widening) → is_spread l.kind ≡ false → is_assignment l.kind ≡ false → is_property l.kind ≡ false → is_literal l.kind ≡ false → places_of o l cs ws ≡ []
places_simple o l cs ws s a q h = rw (s, h, q, a) refl

pub places_literal : (l : Label) (cs : Slots) (ws : List Widening) → is_spread l.kind ≡ false → is_literal l.kind ≡ true → places_of false l cs ws ≡ ws
places_literal l cs ws s h = rw (s, h) refl

pub assignment_kind : (k : NodeKind) → is_assignment k ≡ true → (is_spread k ≡ false) × (is_literal k ≡ false) × (is_property k ≡ false)
assignment_kind assignment_expression h = (refl, refl, refl)
assignment_kind _ h = absurd (false≢true h)

pub places_assigned : (o : Bool) (l : Label) (cs : Slots) (ws : List Widening) → is_assignment l.kind ≡ true → places_of o l cs ws ≡ operator_places l.op (made_span l.span)
places_assigned o l cs ws a = let k = assignment_kind l.kind a in rw (k.0, k.1, k.2, a) refl

pub other_operator : (l : Label) → is_assignment l.kind ≡ true → is_equals l.op ≡ false → is_wide l ≡ true
other_operator l a e = rw (a, e) refl

-- ---- the law

-- targets are taken in their wider form, or the literal is narrow at its places
abbrev pub Taken : List ℕ → Flags → List Widening → Type 0
Taken text f ws = (f.wide ≡ true) ⊎ Each (Narrow text) ws

taken_left : (text : List ℕ) (f : Flags) (ws vs : List Widening) → Taken text f (ws ++ vs) → Taken text f ws
taken_left text f ws vs (inl w) = inl w
taken_left text f ws vs (inr n) = inr (all_left (Narrow text) ws vs n)

taken_right : (text : List ℕ) (f : Flags) (ws vs : List Widening) → Taken text f (ws ++ vs) → Taken text f vs
taken_right text f ws vs (inl w) = inl w
taken_right text f ws vs (inr n) = inr (all_right (Narrow text) ws vs n)

-- what an array literal, or with o an object literal, has behind its first lexeme
abbrev pub source : Bool → Flags → G
source o f = cond o (properties_on f) (elements f)

module _ (text : List ℕ) where
  -- what follows of elements: what stands behind each rest, and the target's elements where no comma does
  record Converted (o : Bool) (f : Flags) (cs ds : Slots) (i : ℕ) (ls : Lexemes) (j : ℕ) (rest : Lexemes) : Type 0 where
    ended : Each (Fits text) (places_in (in_literal o) cs)
    takes : Taken text f (places_in (in_literal o) cs) → Takes rule (target_items o f) end ds i ls end j rest

  abbrev Claim : Slots → Type 0
  Claim cs = (o : Bool) (f : Flags) (i j : ℕ) (ls rest : Lexemes) (ds : Slots) → Lexes (Led text) i ls → Takes rule (source o f) end cs i ls end j rest → elements_in (in_literal o) cs ≡ Some ds → Converted o f cs ds i ls j rest

  -- of slots, and of all slots in them
  abbrev Claims : Slots → Type 0
  Claims end = Claim end
  Claims (hole us) = Claim (hole us) × Claims us
  Claims (tree l cs us) = Claim (tree l cs us) × Claims cs × Claims us

  claim_of : (cs : Slots) → Claims cs → Claim cs
  claim_of end c = c
  claim_of (hole us) c = c.0
  claim_of (tree l cs us) c = c.0

  -- one element that is an expression
  record One (f : Flags) (l : Label) (cs us ds : Slots) (i : ℕ) (ls : Lexemes) (j : ℕ) (rest : Lexemes) : Type 0 where
    ended : Each (Fits text) (places_of false l cs (places_in (within l.kind) cs))
    takes : Taken text f (places_of false l cs (places_in (within l.kind) cs)) → Made f (is_literal l.kind) ds i ls us j rest

  module _ (f : Flags) where
    by_literal : {i j : ℕ} {ls rest : Lexemes} {l : Label} {cs us ds : Slots} → Claim cs → Literal (plus_in f) l cs i ls j rest → Lexes (Led text) i ls → literal_before l (elements_in (within l.kind) cs) us ≡ Some ds → One f l cs us ds i ls j rest
    unfolding rule rule_of
    by_literal {i} {j} {rest = rest} {l} {cs} {us} {ds} c (of_array (is_node (is_seq (is_lexeme {x = x} {ls = more} q) d))) m e =
        let p = literal_of l (elements_in (in_literal false) cs) us ds e in
        let v = c false (plus_in f) x.to j more rest p.inside m.1 d p.is in
        record { ended = v.ended; takes = λ o. subst (λ (w : Slots). Made f true w i (next x more) us j rest) (sym p.whole) (a_pattern refl (as_array f q (v.takes o))) }
    by_literal {i} {j} {rest = rest} {l} {cs} {us} {ds} c (of_object (is_node (is_seq (is_lexeme {x = x} {ls = more} q) d))) m e =
        let p = literal_of l (elements_in (in_literal true) cs) us ds e in
        let v = c true (plus_in f) x.to j more rest p.inside m.1 d p.is in
        record { ended = v.ended; takes = λ o. subst (λ (w : Slots). Made f true w i (next x more) us j rest) (sym p.whole) (a_pattern refl (as_object f q (v.takes o))) }

    one_of : {i j : ℕ} {ls rest : Lexemes} {l : Label} {cs us ds : Slots} → Claim cs → Takes rule (rule (at Assignment (plus_in f))) end (tree l cs end) i ls end j rest → Lexes (Led text) i ls → element_before l cs (elements_in (within l.kind) cs) us ≡ Some ds → One f l cs us ds i ls j rest
    one_of {i} {j} {ls} {rest} {l} {cs} {us} {ds} c d m e = by (is_elision l.kind) (is_spread l.kind) (is_assignment l.kind) (is_property l.kind) (is_literal l.kind) refl refl refl refl refl e
      where
        ws : List Widening
        ws = places_in (within l.kind) cs

        assigned : (b : Bool) → is_equals l.op ≡ b → is_assignment l.kind ≡ true → Some (tree (relabelled assignment_target_with_default l) cs us) ≡ Some ds → One f l cs us ds i ls j rest
        assigned true h r e =
            let n : places_of false l cs ws ≡ [] = places_assigned false l cs ws r ∙ (rw h refl) in
            record { ended = subst (λ (v : List Widening). Each (Fits text) v) (sym n) tt; takes = λ o. subst (λ (w : Slots). Made f (is_literal l.kind) w i ls us j rest) (some_is e) (with_default refl (as_default f (initialised (plus_in f) d r h))) }
        assigned false h r e =
            let n : places_of false l cs ws ≡ Operator (made_span l.span) ∷ [] = places_assigned false l cs ws r ∙ (rw h refl) in
            record { ended = subst (λ (v : List Widening). Each (Fits text) v) (sym n) (tt, tt); takes = λ o. wider (subst (λ (v : List Widening). Taken text f v) n o) }
          where
            wider : Taken text f (Operator (made_span l.span) ∷ []) → Made f (is_literal l.kind) ds i ls us j rest
            wider (inl w) = subst (λ (v : Slots). Made f (is_literal l.kind) v i ls us j rest) (some_is e) (with_default refl (as_wide f w h (operated_line (plus_in f) d (other_operator l r h))))
            wider (inr m) = absurd m.0

        by : (a b g q h : Bool) → is_elision l.kind ≡ a → is_spread l.kind ≡ b → is_assignment l.kind ≡ g → is_property l.kind ≡ q → is_literal l.kind ≡ h → by_tests a b g q h l cs (elements_in (within l.kind) cs) us ≡ Some ds → One f l cs us ds i ls j rest
        by true b g q h k1 k2 k3 k4 k5 e = absurd (no_gap (plus_in f) d (or_left (is_elision l.kind) _ k1))
        by false true g q h k1 k2 k3 k4 k5 e = absurd (no_gap (plus_in f) d (or_right (is_elision l.kind) _ (or_left (is_spread l.kind) _ k2)))
        by false false true q h k1 k2 k3 k4 k5 e = assigned (is_equals l.op) refl k3 e
        by false false false true h k1 k2 k3 k4 k5 e = absurd (no_gap (plus_in f) d (or_right (is_elision l.kind) _ (or_right (is_spread l.kind) _ k4)))
        by false false false false true k1 k2 k3 k4 k5 e = by_literal c (literal_shape {f = plus_in f} k5 ((of_assignment (plus_in f)).down (may_literal l.kind k5) (is_such d refl))) m e
        by false false false false false k1 k2 k3 k4 k5 e =
            let n = places_simple false l cs ws k2 k3 k4 k5 in
            let v = simple_of (target_of l cs) us ds e in
            record { ended = subst (λ (v : List Widening). Each (Fits text) v) (sym n) tt; takes = λ o. subst (λ (w : Slots). Made f (is_literal l.kind) w i ls us j rest) (sym v.whole) (a_simple (by_simple f {t = v.target} (left_hand_side_target cs (plus_in f) l v.target v.is ((of_assignment (plus_in f)).down (may_target l cs v.target v.is) (is_such d refl))))) }

  -- ---- an element, or a property

  record Item (o : Bool) (f : Flags) (l : Label) (cs us ds : Slots) (i : ℕ) (ls : Lexemes) (j : ℕ) (rest : Lexemes) : Type 0 where
    ended : Each (Fits text) (places_of o l cs (places_in (within l.kind) cs))
    takes : Taken text f (places_of o l cs (places_in (within l.kind) cs)) → Takes rule (item_line o f) end ds i ls us j rest

  -- one that is no spread, and a spread
  data Part (o : Bool) (f : Flags) : Label → Slots → ℕ → Lexemes → ℕ → Lexemes → Type 0 where
    an_item : {l : Label} {cs : Slots} {i j : ℕ} {ls rest : Lexemes} → ((us ds : Slots) → element_before l cs (elements_in (within l.kind) cs) us ≡ Some ds → Item o f l cs us ds i ls j rest) → Part o f l cs i ls j rest
    a_rest : {m : Label} {ds : Slots} {i j : ℕ} {x : Lexeme} {ls rest : Lexemes} → IsTrue (seen (is Dot3) x) → ((us ts : Slots) → element_before m ds (elements_in (within m.kind) ds) us ≡ Some ts → One f m ds us ts x.to ls j rest) → Part o f (record { kind = spread_element; op = no_op; flags = 0; span = record { from = x.from; to = j } }) (tree m ds end) i (next x ls) j rest

  led_behind : {g : G} {ks ts us : Slots} {i j : ℕ} {x : Lexeme} {ls mid : Lexemes} → Takes rule g ks ts i ls us j (next x mid) → Lexes (Led text) i ls → Led text j x × Lexes (Led text) x.to mid
  led_behind d m = lexed_behind (Led text) d m

  -- of an array
  element_item : {f : Flags} {l : Label} {cs us ds : Slots} {i j : ℕ} {ls rest : Lexemes} → Takes rule (rule (at Assignment (plus_in f))) end (tree l cs end) i ls end j rest → One f l cs us ds i ls j rest → Item false f l cs us ds i ls j rest
  element_item d v = record { ended = v.ended; takes = λ o. element_made (v.takes o) }

  element_part : {f : Flags} {l : Label} {cs : Slots} {i j : ℕ} {ls rest : Lexemes} → Element f l cs i ls j rest → Lexes (Led text) i ls → Claims cs → Part false f l cs i ls j rest
  element_part {f} {cs = cs} (an_expression d) m c = an_item (λ us ds e. element_item d (one_of f (claim_of cs c) d m e))
  element_part {f} (a_spread {ds = xs} z d) m c = a_rest z (λ us ts e. one_of f (claim_of xs c.1) d m.1 e)

  -- of an object
  record ValuePart (l k : Label) (ks : Slots) (r : Option Slots) (us ds : Slots) : Type 0 where
    value : Slots
    is : r ≡ Some value
    whole : ds ≡ tree (record { kind = assignment_target_property_property; op = no_op; flags = l.flags; span = l.span }) (tree k ks value) us

  value_of : (l k m : Label) (ks es : Slots) (r : Option Slots) (us ds : Slots) → followed (named_slot l (before_value k ks (tree m es end) r)) us ≡ Some ds → ValuePart l k ks r us ds
  value_of l k m ks es (Some vs) us ds e = record { value = vs; is = refl; whole = sym (some_is e) }
  value_of l k m ks es None us ds e = absurd (cc)

  function_none : (k : NodeKind) (o : Op) (fl : ℕ) (p : Span) (cs : Slots) (own : Option Slots) → k ≡ function_expression → element_before (record { kind = k; op = o; flags = fl; span = p }) cs own end ≡ None
  function_none k o fl p cs own h = subst (λ (v : NodeKind). element_before (record { kind = v; op = o; flags = fl; span = p }) cs own end ≡ None) (sym h) refl

  module _ (f : Flags) where
    -- a name and a value
    value_item : (c : Bool) {k m : Label} {ks es us ds : Slots} {i j a : ℕ} {x : Lexeme} {ls mid rest : Lexemes} → ((vs : Slots) → Takes rule (name c false f) end (tree k ks vs) i ls vs a (next x mid)) → IsTrue (seen (is Colon) x) → ((vs : Slots) → element_before m es (elements_in (within m.kind) es) end ≡ Some vs → One f m es end vs x.to mid j rest)
        → element_before (property_label init (flag c computed_flag) ls j) (tree k ks (tree m es end)) (elements_in in_property (tree k ks (tree m es end))) us ≡ Some ds → Item true f (property_label init (flag c computed_flag) ls j) (tree k ks (tree m es end)) us ds i ls j rest
    unfolding rule rule_of
    value_item false {k} {m} {ks} {es} {us} {ds} {i} {j} {ls = ls} {rest = rest} n q g e =
        let p = value_of (property_label init 0 ls j) k m ks es (element_before m es (elements_in (within m.kind) es) end) us ds e in
        let v = g p.value p.is in
        record {
          ended = all_of (Fits text) (places_of false m es (places_in (within m.kind) es)) [] v.ended tt;
          takes = λ o. subst (λ (w : Slots). Takes rule (symbol TargetProperty f) end w i ls us j rest) (sym p.whole) (is_such (is_right (is_left (is_node (is_seq (n p.value) (is_seq (is_lexeme q) (element_made (v.takes (taken_left text f (places_of false m es (places_in (within m.kind) es)) [] o)))))))) refl);
        }
    value_item true {k} {m} {ks} {es} {us} {ds} {i} {j} {ls = ls} {rest = rest} n q g e =
        let p = value_of (property_label init 4 ls j) k m ks es (element_before m es (elements_in (within m.kind) es) end) us ds e in
        let v = g p.value p.is in
        record {
          ended = all_of (Fits text) (places_of false m es (places_in (within m.kind) es)) [] v.ended tt;
          takes = λ o. subst (λ (w : Slots). Takes rule (symbol TargetProperty f) end w i ls us j rest) (sym p.whole) (is_such (is_right (is_right (is_node (is_seq (n p.value) (is_seq (is_lexeme q) (element_made (v.takes (taken_left text f (places_of false m es (places_in (within m.kind) es)) [] o)))))))) refl);
        }

    -- a name alone
    shorthand_item : {cs us ds : Slots} {i j : ℕ} {ls rest : Lexemes} → Takes rule (shorthand_line f) end cs i ls end j rest → element_before (property_label init shorthand_flag ls j) cs (elements_in in_property cs) us ≡ Some ds → Item true f (property_label init shorthand_flag ls j) cs us ds i ls j rest
    unfolding rule rule_of
    shorthand_item {us = us} {i = i} {j = j} {ls = ls} {rest = rest} (is_seq (is_ahead (is_such a b)) (is_seq (is_such d h) (is_left (is_when v (is_such g q))))) e = record { ended = tt; takes = λ o. subst (λ (w : Slots). Takes rule (symbol TargetProperty f) end w i ls us j rest) (some_is e) (is_such (is_left (is_node (is_seq (is_such d refl) (is_left (is_such g refl))))) refl) }
    shorthand_item {us = us} {i = i} {j = j} {ls = ls} {rest = rest} (is_seq (is_ahead (is_such a b)) (is_seq (is_such d h) (is_right is_nothing))) e = record { ended = tt; takes = λ o. subst (λ (w : Slots). Takes rule (symbol TargetProperty f) end w i ls us j rest) (some_is e) (is_such (is_left (is_node (is_seq (is_such d refl) (is_right is_empty_slot)))) refl) }

  -- a method has no target
  no_method : (o : Op) (fl : ℕ) (ls : Lexemes) (j : ℕ) (k m : Label) (ks es us ds : Slots) → has_flag shorthand_flag fl ≡ false → m.kind ≡ function_expression → element_before (property_label o fl ls j) (tree k ks (tree m es end)) (elements_in in_property (tree k ks (tree m es end))) us ≡ Some ds → ⊥
  no_method o fl ls j k m ks es us ds h g e =
      let u : followed (property_slot (property_label o fl ls j) (tree k ks (tree m es end)) (before_value k ks (tree m es end) None)) us ≡ None = rw h refl in
      let v = ap (λ (r : Option Slots). followed (property_slot (property_label o fl ls j) (tree k ks (tree m es end)) (before_value k ks (tree m es end) r)) us) (function_none m.kind m.op m.flags m.span es (elements_in (within m.kind) es) g) in
      let w : None ≡ Some ds = sym u ∙ (sym v ∙ e) in
      cc

  property_part : {f : Flags} {l : Label} {cs : Slots} {i j : ℕ} {ls rest : Lexemes} → PropertyOf f l cs i ls j rest → Lexes (Led text) i ls → Claims cs → Part true f l cs i ls j rest
  property_part {f} (a_shorthand d) m c = an_item (λ us ds e. shorthand_item f d e)
  property_part {f} (a_value b {ds = es} n q d) m c = an_item (λ us ds e. value_item f b n q (λ vs k. one_of f (claim_of es c.2.1) d (led_behind (n end) m).1 k) e)
  property_part {f} {i = i} {j = j} {ls = ls} (a_method {o = o} {fl = fl} {k = k} {m = n} {ks = ks} {ds = es} h g) m c = an_item (λ us ds e. absurd (no_method o fl ls j k n ks es us ds h g e))
  property_part {f} (a_spread_property {ds = xs} z d) m c = a_rest z (λ us ts e. one_of f (claim_of xs c.1) d m.1 e)

  -- ---- the elements

  end_built : (o : Bool) (f : Flags) {ds : Slots} {i : ℕ} {x : Lexeme} {rest : Lexemes} → IsTrue (seen (is (closer o)) x) → Some end ≡ Some ds → Converted o f end ds i (next x rest) x.to rest
  end_built o f {ds} {i} {x} {rest} q e = record { ended = tt; takes = λ n. subst (λ (w : Slots). Takes rule (target_items o f) end w i (next x rest) end x.to rest) (some_is e) (the_last o f (is_right (is_right is_nothing)) (is_lexeme q)) }

  closes_it : (o : Bool) (x : Lexeme) → IsTrue (seen (is (closer o)) x) → one_of_kinds (RBrack ∷ RCurly ∷ []) x.kind ≡ true
  closes_it false x q = ap (λ (k : Kind). one_of_kinds (RBrack ∷ RCurly ∷ []) k) (kind_is {k = RBrack} x q)
  closes_it true x q = ap (λ (k : Kind). one_of_kinds (RBrack ∷ RCurly ∷ []) k) (kind_is {k = RCurly} x q)

  -- what closes it
  record Closing (o : Bool) (f : Flags) (i : ℕ) (ls : Lexemes) (j : ℕ) (rest : Lexemes) : Type 0 where
    closed : Closed text i
    takes : Takes rule (tok (closer o)) end end i ls end j rest

  closing : (o : Bool) (f : Flags) {i j : ℕ} {ls rest : Lexemes} → Takes rule (source o f) end end i ls end j rest → Lexes (Led text) i ls → Closing o f i ls j rest
  closing false f d m = go (step_of {f = f} d) m
    where
      go : {i j : ℕ} {ls rest : Lexemes} → Step f end i ls j rest → Lexes (Led text) i ls → Closing false f i ls j rest
      go (closes {x = x} q) m = record { closed = record { bracket = x; stands = m.0.0; is = closes_it false x q }; takes = is_lexeme q }
  closing true f d m = go (property_step {f = f} d) m
    where
      go : {i j : ℕ} {ls rest : Lexemes} → PropertyStep f end i ls j rest → Lexes (Led text) i ls → Closing true f i ls j rest
      go (shuts {x = x} q) m = record { closed = record { bracket = x; stands = m.0.0; is = closes_it true x q }; takes = is_lexeme q }

  closed_by : (o : Bool) (f : Flags) {us : Slots} {i j : ℕ} {ls rest : Lexemes} → us ≡ end → Takes rule (source o f) end us i ls end j rest → Lexes (Led text) i ls → Closing o f i ls j rest
  closed_by o f {us} {i} {j} {ls} {rest} e d m = closing o f (subst (λ (v : Slots). Takes rule (source o f) end v i ls end j rest) e d) m

  -- a rest, with a comma behind it or without one
  comma_taken : (o : Bool) (f : Flags) {ts ds : Slots} {i j k : ℕ} {y x : Lexeme} {ls mid rest : Lexemes} → IsTrue (seen (is Dot3) y) → Takes rule (argument_line o f) end ts y.to ls end k (next x mid) → f.wide ≡ true → IsTrue (seen (is Comma) x) → Takes rule (tok (closer o)) end end x.to mid end j rest
      → ds ≡ tree (record { kind = assignment_target_rest; op = no_op; flags = 0; span = record { from = y.from; to = k } }) ts end → Takes rule (target_items o f) end ds i (next y ls) end j rest
  comma_taken o f {ts} {ds} {i} {j} {k} {y} {x} {ls} {mid} {rest} z d w q r g = subst (λ (v : Slots). Takes rule (target_items o f) end v i (next y ls) end j rest) (sym g) (the_last o f (is_right (is_left (is_seq (is_node (is_seq (is_lexeme z) d)) (is_left (is_when w (is_lexeme q)))))) r)

  literal_fits : (b : Bool) (p : Span) → Each (Fits text) (cond b (RestTarget (made_span p) ∷ []) [])
  literal_fits true p = (tt, tt)
  literal_fits false p = tt

  -- where a literal is the argument of an object's rest, targets are wide
  wide_there : (f : Flags) (b : Bool) (p : Span) → Taken text f (cond b (RestTarget (made_span p) ∷ []) []) → b ≡ true → f.wide ≡ true
  wide_there f b p (inl w) h = w
  wide_there f true p (inr n) h = absurd n.0
  wide_there f false p (inr n) h = absurd (false≢true h)

  item_built : (o : Bool) (f : Flags) {l : Label} {cs us ds : Slots} {i j k : ℕ} {x : Lexeme} {ls mid rest : Lexemes} → Part o f l cs i ls k (next x mid) → IsTrue (seen (is Comma) x) → Takes rule (source o f) end us x.to mid end j rest → Led text k x × Lexes (Led text) x.to mid → Claim us → elements_in (in_literal o) (tree l cs us) ≡ Some ds → Converted o f (tree l cs us) ds i ls j rest
  item_built o f {l} {cs} {us} {ds} {i} {j} {k} {x} {ls} {mid} {rest} (an_item g) q r h c e =
      let p = before_of l cs (elements_in (within l.kind) cs) (elements_in (in_literal o) us) ds e in
      let v = g p.behind ds p.element in
      let w = c o f x.to j mid rest p.behind h.1 r p.is in
      let ws = places_of o l cs (places_in (within l.kind) cs) in
      record {
        ended = all_of (Fits text) ws (places_in (in_literal o) us) v.ended w.ended;
        takes = λ n. one_more o f (is_right (is_seq (v.takes (taken_left text f ws (places_in (in_literal o) us) n)) (is_lexeme q))) (w.takes (taken_right text f ws (places_in (in_literal o) us) n));
      }
  item_built o f {l} {us = us} {ds} {i} {j} {k} {x} {ls} {mid} {rest} (a_rest {m = n} {ds = xs} z g) q r h c e =
      let own = elements_in (in_literal false) (tree n xs end) in
      let p = before_of l (tree n xs end) own (elements_in (in_literal o) us) ds e in
      let t = rest_part l own p.behind ds p.element in
      let v = g end (tree t.label t.slots end) t.is in
      let w = c o f x.to j mid rest p.behind h.1 r p.is in
      let u = is_end o us (p.is ∙ ap Some t.last) in
      let y = closed_by o f u r h.1 in
      let ws = places_of false n xs (places_in (within n.kind) xs) in
      let vs = literal_places o n.kind (made_span n.span) in
      let rs = Rest (made_span l.span) ∷ [] in
      record {
        ended = all_of (Fits text) ((ws ++ []) ++ (vs ++ rs)) (places_in (in_literal o) us) (all_of (Fits text) (ws ++ []) (vs ++ rs) (all_of (Fits text) ws [] v.ended tt) (all_of (Fits text) vs rs (literal_fits (o && is_literal n.kind) n.span) (record { reached = h.0.1; between = h.0.2; either = inr (record { comma = x; stands = h.0.0; is = kind_is x q; behind = y.closed }) }, tt))) w.ended;
        takes = λ o'. elim o' [
          | inl w ↦ comma_taken o f z (argument_made o t.target (λ b. w) (v.takes (inl w))) w q y.takes t.whole
          | inr g ↦ absurd ((all_right (Narrow text) vs rs (all_right (Narrow text) (ws ++ []) (vs ++ rs) (all_left (Narrow text) ((ws ++ []) ++ (vs ++ rs)) (places_in (in_literal o) us) g))).0 x h.0.0 (kind_is x q))
        ];
      }

  final_built : (o : Bool) (f : Flags) {l : Label} {cs ds : Slots} {i k : ℕ} {x : Lexeme} {ls rest : Lexemes} → Part o f l cs i ls k (next x rest) → IsTrue (seen (is (closer o)) x) → Led text k x → elements_in (in_literal o) (tree l cs end) ≡ Some ds → Converted o f (tree l cs end) ds i ls x.to rest
  final_built o f {l} {cs} {ds} {i} {k} {x} {ls} {rest} (an_item g) q h e =
      let v = g end ds e in
      let ws = places_of o l cs (places_in (within l.kind) cs) in
      record {
        ended = all_of (Fits text) ws [] v.ended tt;
        takes = λ n. the_last o f (is_left (v.takes (taken_left text f ws [] n))) (is_lexeme q);
      }
  final_built o f {l} {ds = ds} {i} {k} {x} {ls} {rest} (a_rest {m = n} {ds = xs} {x = y} {ls = more} z g) q h e =
      let own = elements_in (in_literal false) (tree n xs end) in
      let t = rest_part l own end ds e in
      let v = g end (tree t.label t.slots end) t.is in
      let ws = places_of false n xs (places_in (within n.kind) xs) in
      let vs = literal_places o n.kind (made_span n.span) in
      let rs = Rest (made_span l.span) ∷ [] in
      record {
        ended = all_of (Fits text) ((ws ++ []) ++ (vs ++ rs)) [] (all_of (Fits text) (ws ++ []) (vs ++ rs) (all_of (Fits text) ws [] v.ended tt) (all_of (Fits text) vs rs (literal_fits (o && is_literal n.kind) n.span) (record { reached = h.1; between = h.2; either = inl (record { bracket = x; stands = h.0; is = closes_it o x q }) }, tt))) tt;
        takes = λ o'.
            let a = taken_left text f ((ws ++ []) ++ (vs ++ rs)) [] o' in
            let b = taken_left text f ws [] (taken_left text f (ws ++ []) (vs ++ rs) a) in
            let c = taken_left text f vs rs (taken_right text f (ws ++ []) (vs ++ rs) a) in
            subst (λ (w : Slots). Takes rule (target_items o f) end w i (next y more) end x.to rest) (sym t.whole) (the_last o f (is_right (is_left (is_seq (is_node (is_seq (is_lexeme z) (argument_made o t.target (wide_there f (o && is_literal n.kind) n.span c) (v.takes b)))) (is_right is_nothing)))) (is_lexeme q));
      }

  built : {f : Flags} {cs us ds : Slots} {l : Label} {i j : ℕ} {ls rest : Lexemes} → Step f (tree l cs us) i ls j rest → Lexes (Led text) i ls → Claims cs → Claim us → elements_in (in_literal false) (tree l cs us) ≡ Some ds → Converted false f (tree l cs us) ds i ls j rest
  built {f} {us = us} {ds} {i = i} {j} {rest = rest} (gap {x = x} {ls = ls} q r) m a c e =
      let p = before_of (gap_label x) end (Some end) (elements_in (in_literal false) us) ds e in
      let v = c false f x.to j ls rest p.behind m.1 r p.is in
      record { ended = v.ended; takes = λ o. subst (λ (w : Slots). Takes rule (target_items false f) end w i (next x ls) end j rest) (some_is p.element) (one_more false f (is_left (is_seq is_empty_slot (is_lexeme q))) (v.takes o)) }
  built {f} (item d q r) m a c e = item_built false f (element_part (element_of d) m a) q r (led_behind d m) c e
  built {f} (final d q) m a c e = final_built false f (element_part (element_of d) m a) q (led_behind d m).0 e

  property_built : {f : Flags} {cs us ds : Slots} {l : Label} {i j : ℕ} {ls rest : Lexemes} → PropertyStep f (tree l cs us) i ls j rest → Lexes (Led text) i ls → Claims cs → Claim us → elements_in (in_literal true) (tree l cs us) ≡ Some ds → Converted true f (tree l cs us) ds i ls j rest
  property_built {f} (property d q r) m a c e = item_built true f (property_part (property_of f d) m a) q r (led_behind d m) c e
  property_built {f} (last_property d q) m a c e = final_built true f (property_part (property_of f d) m a) q (led_behind d m).0 e

  none_built : Claim end
  none_built false f i j ls rest ds m d e = go (step_of {f = f} d)
    where
      go : {i j : ℕ} {ls rest : Lexemes} → Step f end i ls j rest → Converted false f end ds i ls j rest
      go (closes q) = end_built false f q e
  none_built true f i j ls rest ds m d e = go (property_step {f = f} d)
    where
      go : {i j : ℕ} {ls rest : Lexemes} → PropertyStep f end i ls j rest → Converted true f end ds i ls j rest
      go (shuts q) = end_built true f q e

  some_built : (l : Label) (cs us : Slots) → Claims cs → Claim us → Claim (tree l cs us)
  some_built l cs us a c false f i j ls rest ds m d e = built (step_of {f = f} d) m a c e
  some_built l cs us a c true f i j ls rest ds m d e = property_built (property_step {f = f} d) m a c e

  converts : (cs : Slots) → Claims cs
  converts end = none_built
  converts (hole us) = (λ o f i j ls rest ds m d e. absurd (cc), converts us)
  converts (tree l cs us) = (some_built l cs us (converts cs) (claim_of us (converts us)), converts cs, converts us)

  pub led : (s : ℕ) (ls : Lexemes) → IsUtf8 text → Reached text s → IsCharBoundary text s → Lexes (Lex text) s ls → Lexes (Led text) s ls
  led s (last x) u r b l = (l, r, b)
  led s (next x ls) u r b l = ((l.0, r, b), led x.to ls u (reached_next r l.0.0) (lexeme_between u b l.0).1 l.1)

  -- An element alone, and a property, as those of a target.
  pub element_target : {f : Flags} {l : Label} {cs : Slots} (ds : Slots) {i j : ℕ} {ls rest : Lexemes} → Takes rule (rule (at Assignment (plus_in f))) end (tree l cs end) i ls end j rest → Lexes (Led text) i ls → element_before l cs (elements_in (within l.kind) cs) end ≡ Some ds → Taken text f (places_of false l cs (places_in (within l.kind) cs)) → Takes rule (symbol TargetElement f) end ds i ls end j rest
  element_target {f} {cs = cs} ds d m e o = element_made ((one_of f (claim_of cs (converts cs)) d m e).takes o)

  pub property_target : {f : Flags} {l : Label} {cs : Slots} (ds : Slots) {i j : ℕ} {ls rest : Lexemes} → is_spread l.kind ≡ false → Takes rule (rule (at Property f)) end (tree l cs end) i ls end j rest → Lexes (Led text) i ls → element_before l cs (elements_in (within l.kind) cs) end ≡ Some ds → Taken text f (places_of true l cs (places_in (within l.kind) cs)) → Takes rule (symbol TargetProperty f) end ds i ls end j rest
  property_target {f} {l} {cs} ds n d m e o = go (property_part (property_of f d) m (converts cs)) n e o
    where
      go : {l : Label} {cs : Slots} {i j : ℕ} {ls rest : Lexemes} → Part true f l cs i ls j rest → is_spread l.kind ≡ false → element_before l cs (elements_in (within l.kind) cs) end ≡ Some ds → Taken text f (places_of true l cs (places_in (within l.kind) cs)) → Takes rule (symbol TargetProperty f) end ds i ls end j rest
      go (an_item g) n e o = (g end ds e).takes o
      go (a_rest q g) n e o = absurd (false≢true (sym n))

  -- A literal as a target.
  pub record Targeted (o : Bool) (f : Flags) (l : Label) (cs ds : Slots) (i : ℕ) (ls : Lexemes) (j : ℕ) (rest : Lexemes) : Type 0 where
    pub ended : Each (Fits text) (places_in (in_literal o) cs)
    pub takes : Taken text f (places_in (in_literal o) cs) → Takes rule (symbol (target_name o) f) end (tree (relabelled (pattern_kind o) l) ds end) i ls end j rest

  pub literal_target : {f : Flags} {l : Label} {cs : Slots} (o : Bool) (ds : Slots) {i j : ℕ} {ls rest : Lexemes} → l.kind ≡ literal_kind o → elements_in (in_literal o) cs ≡ Some ds → IsUtf8 text → Reached text i → IsCharBoundary text i → Lexes (Lex text) i ls → Takes rule (such (at LeftHandSide f) always) end (tree l cs end) i ls end j rest → Targeted o f l cs ds i ls j rest
  unfolding rule rule_of
  literal_target {f} {l} {cs} o ds h e u r b m d = go o (literal_shape {f = f} (is_literal_kind o l.kind h) d) h e m r b
    where
      go : (o : Bool) {l : Label} {i j : ℕ} {ls rest : Lexemes} → Literal f l cs i ls j rest → l.kind ≡ literal_kind o → elements_in (in_literal o) cs ≡ Some ds → Lexes (Lex text) i ls → Reached text i → IsCharBoundary text i → Targeted o f l cs ds i ls j rest
      go false (of_array (is_node (is_seq (is_lexeme {x = x} {ls = more} q) d))) h e m r b =
          let v = claim_of cs (converts cs) false f x.to _ more _ ds (led x.to more u (reached_next r m.0.0) (lexeme_between u b m.0).1 m.1) d e in
          record { ended = v.ended; takes = λ o. is_such (is_node (is_seq (is_lexeme q) (v.takes o))) refl }
      go true (of_object (is_node (is_seq (is_lexeme {x = x} {ls = more} q) d))) h e m r b =
          let v = claim_of cs (converts cs) true f x.to _ more _ ds (led x.to more u (reached_next r m.0.0) (lexeme_between u b m.0).1 m.1) d e in
          record { ended = v.ended; takes = λ o. is_such (is_node (is_seq (is_lexeme q) (v.takes o))) refl }
      go true (of_array (is_node d)) h e m r b = absurd (false≢true (ap is_object h))
      go false (of_object (is_node d)) h e m r b = absurd (false≢true (sym (ap is_object h)))
