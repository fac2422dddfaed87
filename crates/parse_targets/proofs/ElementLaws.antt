-- Expressions as elements of targets, and properties (ECMA-262, 13.15.5).
use Rattle.std.proofs.Common.{ℕ, ◌≡◌, Bool, true, false, cond, List, [], ◌∷◌, ◌++◌, Option, Some, None, inl, refl, sym, ap, subst, ◌∙◌}
use Rattle.std.proofs.lemmas.Bool.{false≢true, or_left, or_right}
use Rattle.std.specs.Prelude.{IsUtf8}
use Rattle.js_base.specs.declared.kind.Kind.{Kind}
use Rattle.js_base.specs.declared.span.Span.{Span}
use Rattle.js_grammar.specs.Grammar.{Lexemes, last, next, such, ◌▸◌, Takes, is_lexeme, is_seq}
use Rattle.js_grammar.specs.Lexed.{Lexes}
use Rattle.js_grammar.specs.Parsing.{always}
use Rattle.js_grammar.specs.Productions.{Flags, at, tok, plus_in, has_flag, shorthand_flag, Assignment, Property, SimpleTarget, TargetElement, TargetProperty}
use Rattle.js_grammar.specs.Table.{rule}
use Rattle.js_grammar.specs.Trees.{NodeKind, Span as TreeSpan, Label, Slots, end, hole, tree, Tree, function_expression, assignment_target_with_default}
use Rattle.js_grammar.specs.CoverInitialisers.{is_property}
use Rattle.js_grammar.proofs.Behind.{lexed_behind}
use Rattle.parse_shared.specs.js_tree.declared.id.NodeId.{NodeId}
use Rattle.parse_shared.specs.js_tree.Nodes.{Node}
use Rattle.parse_shared.specs.laws_shared.Lexemes.{Lex}
use Rattle.parse_targets.specs.declared.widening.Widening.{Widening}
use Rattle.parse_targets.specs.declared.widening.Widening.TheVariants.{Operator}
use Rattle.parse_targets.specs.Targets.{Each, Fits, Spotted, Spanned, in_property, within, is_assignment, is_elision, is_equals, is_literal, is_spread, made_span, operator_places, places_in, places_of, relabelled, slot_of, target_by, elements_in, element_slot, rest_slot, property_slot, behind_first, reference_slot, named_slot, before_value, followed}
use Rattle.parse_targets.proofs.ArrayElements.{Operated, operated, no_gap}
use Rattle.parse_targets.proofs.Edges.{Ends, first_led, taken, one_ends, then_ends, ends_then, spanned}
use Rattle.parse_targets.proofs.LiteralsAsTargets.{Led, led, all_of, assignment_kind, element_before, element_target, other_operator, property_target, property_kind}
use Rattle.parse_targets.proofs.Properties.{PropertyOf, a_shorthand, a_value, a_method, a_spread, property_of}
use Rattle.parse_targets.proofs.TargetsAsLiterals.{element_source, property_source}
use Rattle.parse_targets.specs.Covered.{Read, AnyLabel, IsAssignment, IsProperty, an_expression, in_a_target, in_an_element, in_a_property, target_answer, element_answer, property_answer}
use Rattle.parse_targets.proofs.Laws.{Lawful, Law, slot_parts, within as inside}
use Rattle.parse_targets.proofs.TargetLaws.{none_some, target_fits, target_spotted}

-- ---- what an expression is not

not_part : (f : Flags) {l : Label} {cs : Slots} {i j : ℕ} {ls rest : Lexemes} → Takes rule (rule (an_expression f)) end (tree l cs end) i ls end j rest → (is_elision l.kind ≡ false) × (is_spread l.kind ≡ false) × (is_property l.kind ≡ false)
not_part f {l} d = (elision (is_elision l.kind) refl, spread (is_spread l.kind) refl, property (is_property l.kind) refl)
  where
    elision : (b : Bool) → is_elision l.kind ≡ b → is_elision l.kind ≡ false
    elision true e = absurd (no_gap (plus_in f) d (or_left (is_elision l.kind) _ e))
    elision false e = e

    spread : (b : Bool) → is_spread l.kind ≡ b → is_spread l.kind ≡ false
    spread true e = absurd (no_gap (plus_in f) d (or_right (is_elision l.kind) _ (or_left (is_spread l.kind) _ e)))
    spread false e = e

    property : (b : Bool) → is_property l.kind ≡ b → is_property l.kind ≡ false
    property true e = absurd (no_gap (plus_in f) d (or_right (is_elision l.kind) _ (or_right (is_spread l.kind) _ e)))
    property false e = e

-- as an element it is what it is converted to
as_element : (l : Label) (cs : Slots) → is_elision l.kind ≡ false → is_spread l.kind ≡ false → is_property l.kind ≡ false → element_slot true l cs (elements_in (within l.kind) cs) ≡ element_answer l cs
as_element l cs a b c = by (is_elision l.kind) (is_spread l.kind) (is_property l.kind) a b c
  where
    by : (e s q : Bool) → e ≡ false → s ≡ false → q ≡ false → cond e (Some (hole end)) (cond s (rest_slot true l (elements_in (within l.kind) cs)) (cond (is_assignment l.kind) (Some (tree (relabelled assignment_target_with_default l) cs end)) (cond q (property_slot l cs (elements_in (within l.kind) cs)) (target_answer l cs)))) ≡ element_answer l cs
    by e s q i j k = rw (i, j, k) refl

-- and its places are those of an element
element_placed : (l : Label) (cs : Slots) → is_spread l.kind ≡ false → is_property l.kind ≡ false → places_of false l cs (places_in (within l.kind) cs) ≡ in_an_element l cs
element_placed l cs s q = by (is_literal l.kind) (is_assignment l.kind) refl refl
  where
    order : (b q g h : Bool) → b ≡ false → q ≡ false → (g ≡ true → h ≡ true → ⊥) → (vs ws : List Widening) → cond b (ws ++ (vs ++ [])) (cond h ws (cond q ws (cond g vs []))) ≡ cond g vs (cond h ws [])
    order b q true true i j n vs ws = absurd (n refl refl)
    order b q true false i j n vs ws = rw (i, j) refl
    order b q false h i j n vs ws = rw (i, j) refl

    by : (h g : Bool) → is_literal l.kind ≡ h → is_assignment l.kind ≡ g → places_of false l cs (places_in (within l.kind) cs) ≡ in_an_element l cs
    by true true k a = absurd (false≢true (sym (assignment_kind l.kind a).1 ∙ k))
    by true false k a = rw (s, k, a) refl
    by false true k a = rw (s, k, q, a) refl
    by false false k a = rw (s, k, q, a) refl

-- ---- what its places need

unled : (text : List ℕ) (s : ℕ) (ls : Lexemes) → Lexes (Led text) s ls → Lexes (Lex text) s ls
unled text s (last x) m = m.0
unled text s (next x ls) m = (m.0.0, unled text x.to ls m.1)

by_operator : (text : List ℕ) (u : IsUtf8 text) (f : Flags) {i j : ℕ} {ls rest : Lexemes} {l : Label} {cs : Slots} → Operated (plus_in f) l cs i ls j rest → Lexes (Led text) i ls → Spanned text (made_span l.span)
by_operator text u f {i} {j} {ls} {rest} {l} {cs} x m = subst (λ (s : TreeSpan). Spanned text (made_span s)) (sym x.span_is) (spanned text i ls u m (go x.operator x.sides m))
  where
    go : (k : Kind) {cs : Slots} {i j : ℕ} {ls rest : Lexemes} → Takes rule (such (at SimpleTarget (plus_in f)) always ▸ tok k ▸ such (at Assignment (plus_in f)) always) end cs i ls end j rest → Lexes (Led text) i ls → Ends text ls j
    go k (is_seq d (is_seq (is_lexeme q) e)) m =
        let a = lexed_behind (Led text) d m in
        then_ends text (taken text d m) a (ends_then text (one_ends text a.0) a.1 (taken text e a.1))

module _ (text : List ℕ) (u : IsUtf8 text) (f : Flags) {l : Label} {cs : Slots} {i j : ℕ} {ls rest : Lexemes} (m : Lexes (Led text) i ls) (d : Takes rule (rule (an_expression f)) end (tree l cs end) i ls end j rest) where
  operator_spotted : is_assignment l.kind ≡ true → (g : Bool) → is_equals l.op ≡ g → Each (Spotted text) (cond g [] (Operator (made_span l.span) ∷ []))
  operator_spotted h true e = tt
  operator_spotted h false e = (by_operator text u f (operated (plus_in f) d (other_operator l h e)) m, tt)

  element_spotted : Each (Spotted text) (in_an_element l cs)
  element_spotted = by (is_assignment l.kind) refl
    where
      by : (g : Bool) → is_assignment l.kind ≡ g → Each (Spotted text) (cond g (operator_places l.op (made_span l.span)) (in_a_target l cs))
      by true h = operator_spotted h (is_equals l.op) refl
      by false h = let b = first_led ls m in target_spotted text f u b.1 b.2 (unled text i ls m) d

  element_fits : (ts : Slots) → element_answer l cs ≡ Some ts → Each (Fits text) (in_an_element l cs)
  element_fits ts e = by (is_assignment l.kind) e
    where
      operator_fits : (g : Bool) (s : Span) → Each (Fits text) (cond g [] (Operator s ∷ []))
      operator_fits true s = tt
      operator_fits false s = (tt, tt)

      by : (g : Bool) → cond g (Some (tree (relabelled assignment_target_with_default l) cs end)) (target_answer l cs) ≡ Some ts → Each (Fits text) (cond g (operator_places l.op (made_span l.span)) (in_a_target l cs))
      by true e = operator_fits (is_equals l.op) (made_span l.span)
      by false e = let b = first_led ls m in target_fits text f u b.1 b.2 (unled text i ls m) d ts e

  -- its places, as those of a literal's element
  value_spotted : Each (Spotted text) (places_of false l cs (places_in (within l.kind) cs))
  value_spotted = let n = not_part f d in subst (λ (ws : List Widening). Each (Spotted text) ws) (sym (element_placed l cs n.1 n.2)) element_spotted

  value_fits : (ts : Slots) → element_slot true l cs (elements_in (within l.kind) cs) ≡ Some ts → Each (Fits text) (places_of false l cs (places_in (within l.kind) cs))
  value_fits ts e = let n = not_part f d in subst (λ (ws : List Widening). Each (Fits text) ws) (sym (element_placed l cs n.1 n.2)) (element_fits ts (sym (as_element l cs n.0 n.1 n.2) ∙ e))

-- ---- elements

element_parts : (g : Bool) (l : Label) (cs : Slots) (r : Option Tree) (ts : Slots) → cond g (Some (tree l cs end)) (slot_of r) ≡ Some ts → (t : Tree) × (ts ≡ tree t.label t.slots end)
element_parts true l cs r ts e = (record { label = l; slots = cs }, (let k : tree l cs end ≡ ts = cc in sym k))
element_parts false l cs r ts e = let s = slot_parts r ts e in (s.0, s.2)

-- before no other element
alone : (l : Label) (cs : Slots) (own r : Option Slots) (t : Tree) → element_slot true l cs own ≡ r → r ≡ Some (tree t.label t.slots end) → element_before l cs own end ≡ Some (tree t.label t.slots end)
alone l cs own r t e h = ap (λ (z : Option Slots). followed z end) (e ∙ h)

none_alone : (l : Label) (cs : Slots) (own r : Option Slots) (ts : Slots) → element_slot true l cs own ≡ r → r ≡ None → element_before l cs own end ≡ Some ts → ⊥
none_alone l cs own r ts e h k = none_some (ap (λ (z : Option Slots). followed z end) (e ∙ h)) k

module _ {text : List ℕ} (f : Flags) {ns : List Node} {id : NodeId} (x : Read text (an_expression f) ns id) (v : f.cover ≡ true) (w : f.wide ≡ true) where
  element_led : Lexes (Led text) x.place x.lexemes
  element_led = led text x.place x.lexemes (x.only).utf8 (x.only).reached (x.only).between (x.only).lexed

  element_at : Lawful text (at TargetElement f) x (in_an_element x.label x.slots) (element_answer x.label x.slots)
  element_at = record {
    sound = λ ts e.
        let p = element_parts (is_assignment x.label.kind) (relabelled assignment_target_with_default x.label) x.slots (target_by x.label x.slots (elements_in (within x.label.kind) x.slots)) ts e in
        let n = not_part f (x.only).derived in
        (p.0, p.1, inside (element_target text (tree p.0.label p.0.slots end) (x.only).derived element_led (alone x.label x.slots (elements_in (within x.label.kind) x.slots) (element_answer x.label x.slots) p.0 (as_element x.label x.slots n.0 n.1 n.2) (e ∙ ap Some p.1)) (inl w)));
    complete = λ e t d.
        let y = element_source text true f w v d (x.only).lexed in
        let u = (x.only).only (record { label = y.label; slots = y.slots }) y.derived in
        let n = not_part f (x.only).derived in
        none_alone x.label x.slots (elements_in (within x.label.kind) x.slots) (element_answer x.label x.slots) (tree y.target y.inside end) (as_element x.label x.slots n.0 n.1 n.2) e (ap (λ (z : Tree). element_before z.label z.slots (elements_in (within z.label.kind) z.slots) end) (sym u) ∙ y.covers end);
    spotted = element_spotted text (x.only).utf8 f element_led (x.only).derived;
    fits = element_fits text (x.only).utf8 f element_led (x.only).derived;
  }

pub element_law : Law an_expression AnyLabel (at TargetElement) in_an_element element_answer
element_law = record { of = λ text f v w x i. element_at f x v w }

pub assignment_law : Law an_expression IsAssignment (at TargetElement) in_an_element element_answer
assignment_law = record { of = λ text f v w x i. element_at f x v w }

-- ---- properties

as_property : (l : Label) (cs : Slots) → is_property l.kind ≡ true → element_slot true l cs (elements_in (within l.kind) cs) ≡ property_answer l cs
as_property l cs h = let k = property_kind l.kind h in rw k refl

not_spread : (k : NodeKind) → is_property k ≡ true → is_spread k ≡ false
not_spread k h = ap is_spread (property_kind k h)

reference_parts : (l : Label) (us ts : Slots) → reference_slot l us ≡ Some ts → (t : Tree) × (ts ≡ tree t.label t.slots end)
reference_parts l (tree m ds us) ts e = (_, sym (some_is e))
  where
    some_is : {a b : Slots} → Some a ≡ Some b → a ≡ b
    some_is e = cc
reference_parts l (hole us) ts e = absurd (cc)
reference_parts l end ts e = absurd (cc)

named_parts : (l : Label) (r : Option Slots) (ts : Slots) → named_slot l r ≡ Some ts → (t : Tree) × (ts ≡ tree t.label t.slots end)
named_parts l (Some us) ts e = (_, sym (some_is e))
  where
    some_is : {a b : Slots} → Some a ≡ Some b → a ≡ b
    some_is e = cc
named_parts l None ts e = absurd (cc)

property_parts : (g : Bool) (l : Label) (us : Slots) (r : Option Slots) (ts : Slots) → cond g (reference_slot l us) (named_slot l r) ≡ Some ts → (t : Tree) × (ts ≡ tree t.label t.slots end)
property_parts true l us r ts e = reference_parts l us ts e
property_parts false l us r ts e = named_parts l r ts e

-- a property with a name has a value that is converted
value_answered : (l k : Label) (ks : Slots) (n : Label) (es : Slots) (r : Option Slots) (ts : Slots) → named_slot l (before_value k ks (tree n es end) (followed r end)) ≡ Some ts → (vs : Slots) × (r ≡ Some vs)
value_answered l k ks n es (Some vs) ts e = (vs, refl)
value_answered l k ks n es None ts e = absurd (cc)

-- a function is no place
function_places : (m : Label) (cs : Slots) (ws : List Widening) → m.kind ≡ function_expression → places_of false m cs ws ≡ []
function_places m cs ws h = rw h refl

module _ (text : List ℕ) (u : IsUtf8 text) (f : Flags) where
  method_each : (P : Widening → Type 0) (fl : ℕ) (n : Label) (es : Slots) → n.kind ≡ function_expression → Each P (cond (has_flag shorthand_flag fl) [] (places_of false n es (places_in (within n.kind) es) ++ []))
  method_each P fl n es g = by (has_flag shorthand_flag fl)
    where
      by : (b : Bool) → Each P (cond b [] (places_of false n es (places_in (within n.kind) es) ++ []))
      by true = tt
      by false = subst (λ (vs : List Widening). Each P (vs ++ [])) (sym (function_places n es (places_in (within n.kind) es) g)) tt

  property_spotted : {l : Label} {cs : Slots} {i j : ℕ} {ls rest : Lexemes} → PropertyOf f l cs i ls j rest → Lexes (Led text) i ls → is_property l.kind ≡ true → Each (Spotted text) (in_a_property l cs)
  property_spotted (a_shorthand d) m h = tt
  property_spotted (a_value false {m = n} {ds = es} g q d) m h = all_of (Spotted text) (places_of false n es (places_in (within n.kind) es)) [] (value_spotted text u f (lexed_behind (Led text) (g end) m).1 d) tt
  property_spotted (a_value true {m = n} {ds = es} g q d) m h = all_of (Spotted text) (places_of false n es (places_in (within n.kind) es)) [] (value_spotted text u f (lexed_behind (Led text) (g end) m).1 d) tt
  property_spotted (a_method {fl = fl} {m = n} {ds = es} k g) m h = method_each (Spotted text) fl n es g
  property_spotted (a_spread q d) m h = absurd (false≢true h)

  property_fits : {l : Label} {cs : Slots} {i j : ℕ} {ls rest : Lexemes} → PropertyOf f l cs i ls j rest → Lexes (Led text) i ls → is_property l.kind ≡ true → (ts : Slots) → property_answer l cs ≡ Some ts → Each (Fits text) (in_a_property l cs)
  property_fits (a_shorthand d) m h ts e = tt
  property_fits {l} (a_value false {k = k} {m = n} {ks = ks} {ds = es} g q d) m h ts e =
      let a = value_answered l k ks n es (element_slot true n es (elements_in (within n.kind) es)) ts e in
      all_of (Fits text) (places_of false n es (places_in (within n.kind) es)) [] (value_fits text u f (lexed_behind (Led text) (g end) m).1 d a.0 a.1) tt
  property_fits {l} (a_value true {k = k} {m = n} {ks = ks} {ds = es} g q d) m h ts e =
      let a = value_answered l k ks n es (element_slot true n es (elements_in (within n.kind) es)) ts e in
      all_of (Fits text) (places_of false n es (places_in (within n.kind) es)) [] (value_fits text u f (lexed_behind (Led text) (g end) m).1 d a.0 a.1) tt
  property_fits (a_method {fl = fl} {m = n} {ds = es} k g) m h ts e = method_each (Fits text) fl n es g
  property_fits (a_spread q d) m h ts e = absurd (false≢true h)

module _ {text : List ℕ} (f : Flags) {ns : List Node} {id : NodeId} (x : Read text (at Property f) ns id) (v : f.cover ≡ true) (w : f.wide ≡ true) (h : is_property x.label.kind ≡ true) where
  property_led : Lexes (Led text) x.place x.lexemes
  property_led = led text x.place x.lexemes (x.only).utf8 (x.only).reached (x.only).between (x.only).lexed

  property_at : Lawful text (at TargetProperty f) x (in_a_property x.label x.slots) (property_answer x.label x.slots)
  property_at = record {
    sound = λ ts e.
        let p = property_parts (has_flag shorthand_flag x.label.flags) x.label (behind_first x.slots) (elements_in in_property x.slots) ts e in
        (p.0, p.1, inside (property_target text (tree p.0.label p.0.slots end) (not_spread x.label.kind h) (x.only).derived property_led (alone x.label x.slots (elements_in (within x.label.kind) x.slots) (property_answer x.label x.slots) p.0 (as_property x.label x.slots h) (e ∙ ap Some p.1)) (inl w)));
    complete = λ e t d.
        let y = property_source text true f w v d (x.only).lexed in
        let u = (x.only).only (record { label = y.label; slots = y.slots }) y.derived in
        none_alone x.label x.slots (elements_in (within x.label.kind) x.slots) (property_answer x.label x.slots) (tree y.target y.inside end) (as_property x.label x.slots h) e (ap (λ (z : Tree). element_before z.label z.slots (elements_in (within z.label.kind) z.slots) end) (sym u) ∙ y.covers end);
    spotted = property_spotted text (x.only).utf8 f (property_of f (x.only).derived) property_led h;
    fits = property_fits text (x.only).utf8 f (property_of f (x.only).derived) property_led h;
  }

pub property_law : Law (at Property) IsProperty (at TargetProperty) in_a_property property_answer
property_law = record { of = λ text f v w x i. property_at f x v w i }
