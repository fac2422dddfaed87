-- A target is derived as a literal whose elements are those of the target, over the same lexemes; where targets aren't wide, nowhere is this literal wider than a target (ECMA-262, 13.15.5).
use Rattle.std.proofs.Common.{ℕ, zero, suc, ◌+◌, ◌<◌, arith, ◌≡◌, Bool, true, false, not, cond, ◌&&◌, ◌||◌, IsTrue, List, [], ◌∷◌, ◌++◌, Option, Some, None, refl, sym, ap, subst, ◌∙◌}
use Rattle.std.proofs.lemmas.Bool.{false≢true, or_left, or_right}
use Rattle.js_base.specs.declared.kind.Kind.{Kind}
use Rattle.js_base.specs.declared.kind.Kind.TheVariants.{Eq, Await, Yield, Colon, Comma, Dot3, RBrack, RCurly}
use Rattle.js_base.specs.Kinds.{same_kind, one_of_kinds}
use Rattle.js_grammar.specs.Trees.{NodeKind, Op, Span, Label, Slots, end, hole, tree, Tree, of, no_op, init, identifier_reference, static_member_expression, computed_member_expression, private_field_expression, parenthesized_expression, array_expression, object_expression, assignment_expression, spread_element, array_assignment_target, object_assignment_target, assignment_target_rest, assignment_target_with_default, assignment_target_property_identifier, assignment_target_property_property}
use Rattle.js_grammar.specs.Grammar.{Lexeme, Lexemes, next, here, seen, is, such, many, ◌▸◌, Takes, is_nothing, is_lexeme, is_empty_slot, is_seq, is_left, is_right, is_when, is_many, is_commas, is_such, is_node, is_ahead}
use Rattle.js_grammar.specs.Insertion.{other_operators}
use Rattle.js_grammar.specs.Lexed.{Lexes}
use Rattle.js_grammar.specs.Parsing.{always}
use Rattle.js_grammar.specs.Productions.{G, Flags, Symbol, at, tok, slot, plus_in, branches, flag, computed_flag, shorthand_flag, Argument, Assignment, LeftHandSide, Primary, Property, Init, IdentifierReference, SimpleTarget, Target, ArrayTarget, ObjectTarget, TargetElement, TargetProperty}
use Rattle.js_grammar.specs.Productions.{sym as symbol}
use Rattle.js_grammar.specs.Table.{rule, rule_of, name}
use Rattle.js_grammar.specs.TreeForms.{is_parenthesized}
use Rattle.js_grammar.proofs.Behind.{lexed_behind}
use Rattle.js_grammar.proofs.Calculus.{label_is, slots_are}
use Rattle.js_grammar.proofs.CoverInitialisers.{deep}
use Rattle.parse_shared.specs.laws_shared.Lexemes.{Lex}
use Rattle.parse_targets.specs.declared.widening.Widening.{Widening}
use Rattle.parse_targets.specs.declared.widening.Widening.TheVariants.{Rest}
use Rattle.parse_targets.specs.Taken.{target_name}
use Rattle.parse_targets.specs.Targets.{Each, Closed, Shut, in_literal, within, is_literal, literal_kind, is_pattern, is_target, target_in, target_of, relabelled, pattern_kind, before_all, before_value, followed, named_slot, elements_in, argument_places, places_of, places_in}
use Rattle.parse_targets.proofs.ArrayElements.{gap_label}
use Rattle.parse_targets.proofs.ArrayTargets.{target_step, target_last, literal_items, with_operator, default_label, assigned_label, by_other, more_items, left_line, target_property, last_property, properties, bound_word}
use Rattle.parse_shared.proofs.laws_shared.FreeOfIn.{any_in}
use Rattle.parse_targets.proofs.LiteralsAsTargets.{all_of, rest_before, literal_before, simple_before, element_before, kind_is}
use Rattle.parse_targets.proofs.Properties.{property_label, named}
use Rattle.parse_targets.proofs.Targets.{by_braces, by_brackets, by_primary, of_assignment, target_left_hand_side}
use Rattle.parse_targets.proofs.ArraysBeforeSigns.{target_no_literal}

-- ---- simple targets

-- as an element, what has a simple target is this target
simple_kind : (k : NodeKind) (o : Op) (fl : ℕ) (p : Span) (cs : Slots) (t : Tree) (own : Option Slots) (us : Slots) → target_of (record { kind = k; op = o; flags = fl; span = p }) cs ≡ Some t → element_before (record { kind = k; op = o; flags = fl; span = p }) cs own us ≡ simple_before (target_of (record { kind = k; op = o; flags = fl; span = p }) cs) us
simple_kind identifier_reference o fl p cs t own us e = refl
simple_kind static_member_expression o fl p cs t own us e = refl
simple_kind computed_member_expression o fl p cs t own us e = refl
simple_kind private_field_expression o fl p cs t own us e = refl
simple_kind parenthesized_expression o fl p cs t own us e = refl
simple_kind _ o fl p cs t own us e = absurd (cc)

simple_element : (l : Label) (cs : Slots) (t : Tree) (own : Option Slots) (us : Slots) → target_of l cs ≡ Some t → element_before l cs own us ≡ Some (tree t.label t.slots us)
simple_element l cs t own us e = simple_kind l.kind l.op l.flags l.span cs t own us e ∙ ap (λ (r : Option Tree). simple_before r us) e

-- and is nowhere wide
simple_places : (k : NodeKind) (o : Op) (fl : ℕ) (p : Span) (cs : Slots) (t : Tree) (rs : List Widening) → target_of (record { kind = k; op = o; flags = fl; span = p }) cs ≡ Some t → places_of false (record { kind = k; op = o; flags = fl; span = p }) cs rs ≡ []
simple_places identifier_reference o fl p cs t rs e = refl
simple_places static_member_expression o fl p cs t rs e = refl
simple_places computed_member_expression o fl p cs t rs e = refl
simple_places private_field_expression o fl p cs t rs e = refl
simple_places parenthesized_expression o fl p cs t rs e = refl
simple_places _ o fl p cs t rs e = absurd (cc)

-- nor a literal
no_literal_kind : (k : NodeKind) (o : Op) (fl : ℕ) (p : Span) (cs : Slots) (t : Tree) → target_of (record { kind = k; op = o; flags = fl; span = p }) cs ≡ Some t → is_literal k ≡ false
no_literal_kind array_expression o fl p cs t e = absurd (cc)
no_literal_kind object_expression o fl p cs t e = absurd (cc)
no_literal_kind _ o fl p cs t e = refl

target_label : (l : Label) (cs : Slots) (t : Tree) (a b : Bool) → is_parenthesized l.kind ≡ a → is_target l.kind ≡ b → (target_in cs ≡ Some t → is_target t.label.kind ≡ true) → cond a (target_in cs) (cond b (Some (record { label = l; slots = cs })) None) ≡ Some t → is_target t.label.kind ≡ true
target_label l cs t true b p q f e = f e
target_label l cs t false true p q f e = let w : record { label = l; slots = cs } ≡ t = cc in subst (λ (v : Tree). is_target v.label.kind ≡ true) w q
target_label l cs t false false p q f e = absurd (cc)

pub target_kind : (cs : Slots) (t : Tree) → target_in cs ≡ Some t → is_target t.label.kind ≡ true
target_kind end t e = absurd (cc)
target_kind (hole us) t e = absurd (cc)
target_kind (tree l cs end) t e = target_label l cs t (is_parenthesized l.kind) (is_target l.kind) refl refl (λ h. target_kind cs t h) e
target_kind (tree l cs (hole us)) t e = absurd (cc)
target_kind (tree l cs (tree m ds us)) t e = absurd (cc)

-- ---- sources

-- a text, and whether targets are wide
module _ (text : List ℕ) (wide : Bool) where
  -- An element of a literal (with o: a property), or what a symbol derives: as an element it is the first of these slots.
  pub record Source (o : Bool) (n : Symbol) (ts us : Slots) (i : ℕ) (ls : Lexemes) (j : ℕ) (rest : Lexemes) : Type 0 where
    pub label : Label
    pub slots : Slots
    pub target : Label
    pub inside : Slots
    pub is_tree : ts ≡ tree target inside us
    pub derived : Takes rule (rule n) end (tree label slots end) i ls end j rest
    pub covers : (vs : Slots) → element_before label slots (elements_in (within label.kind) slots) vs ≡ Some (tree target inside vs)
    pub closed : wide ≡ false → Each (Shut text) (places_of o label slots (places_in (within label.kind) slots))

  -- one whose target has no initialiser
  record Bare (f : Flags) (ts us : Slots) (i : ℕ) (ls : Lexemes) (j : ℕ) (rest : Lexemes) : Type 0 where
    source : Source false (at Assignment (plus_in f)) ts us i ls j rest
    is_target' : (is_target (source.target).kind || is_pattern (source.target).kind) ≡ true

  -- elements, or with o properties
  record Last (o : Bool) (a : G) (ts : Slots) (i : ℕ) (ls : Lexemes) (j : ℕ) (rest : Lexemes) : Type 0 where
    slots : Slots
    derived : Takes rule a end slots i ls end j rest
    covers : elements_in (in_literal o) slots ≡ Some ts
    closed : wide ≡ false → Each (Shut text) (places_in (in_literal o) slots)

  -- The target of an array, or with o of an object, as a literal.
  pub record Literal (o : Bool) (f : Flags) (ts us : Slots) (i : ℕ) (ls : Lexemes) (j : ℕ) (rest : Lexemes) : Type 0 where
    pub label : Label
    pub slots : Slots
    pub inside : Slots
    pub kind : label.kind ≡ literal_kind o
    pub is_tree : ts ≡ tree (relabelled (pattern_kind o) label) inside us
    pub covers : elements_in (in_literal o) slots ≡ Some inside
    pub closed : wide ≡ false → Each (Shut text) (places_in (in_literal o) slots)
    pub derived : Takes rule (rule (at Primary f)) end (tree label slots end) i ls end j rest

  of_such : {n : Symbol} {l : Label} {cs : Slots} {i j : ℕ} {ls rest : Lexemes} → Takes rule (such n always) end (tree l cs end) i ls end j rest → Takes rule (rule n) end (tree l cs end) i ls end j rest
  of_such (is_such d h) = d

  raised : (f : Flags) {l : Label} {cs : Slots} {i j : ℕ} {ls rest : Lexemes} → Takes rule (such (at LeftHandSide f) always) end (tree l cs end) i ls end j rest → Takes rule (rule (at Assignment (plus_in f))) end (tree l cs end) i ls end j rest
  raised f d = of_such ((of_assignment (plus_in f)).up (any_in LeftHandSide f (plus_in f) refl refl d))

  simple_bare : (f : Flags) (t : Tree) {us : Slots} {i j : ℕ} {ls rest : Lexemes} → Takes rule (rule (at SimpleTarget f)) end (tree t.label t.slots end) i ls end j rest → Bare f (tree t.label t.slots us) us i ls j rest
  simple_bare f t d =
      let x = target_left_hand_side t d in
      let n = simple_places x.label.kind x.label.op x.label.flags x.label.span x.slots t (places_in (within x.label.kind) x.slots) x.has in
      record {
        source = record {
          label = x.label;
          slots = x.slots;
          target = t.label;
          inside = t.slots;
          is_tree = refl;
          derived = raised f x.derived;
          covers = λ vs. simple_element x.label x.slots t (elements_in (within x.label.kind) x.slots) vs x.has;
          closed = λ g. subst (λ (rs : List Widening). Each (Shut text) rs) (sym n) tt;
        };
        is_target' = or_left (is_target t.label.kind) _ (target_kind (tree x.label x.slots end) t x.has);
      }

  -- a literal as an element
  literal_element : (o : Bool) (k : NodeKind) (op : Op) (fl : ℕ) (p : Span) (cs ds us : Slots) → k ≡ literal_kind o → elements_in (in_literal o) cs ≡ Some ds → element_before (record { kind = k; op = op; flags = fl; span = p }) cs (elements_in (within k) cs) us ≡ Some (tree (relabelled (pattern_kind o) (record { kind = k; op = op; flags = fl; span = p })) ds us)
  literal_element false k op fl p cs ds us h e = subst (λ (v : NodeKind). element_before (record { kind = v; op = op; flags = fl; span = p }) cs (elements_in (within v) cs) us ≡ Some (tree (record { kind = array_assignment_target; op = no_op; flags = 0; span = p }) ds us)) (sym h) (ap (λ (r : Option Slots). literal_before (record { kind = array_expression; op = op; flags = fl; span = p }) r us) e)
  literal_element true k op fl p cs ds us h e = subst (λ (v : NodeKind). element_before (record { kind = v; op = op; flags = fl; span = p }) cs (elements_in (within v) cs) us ≡ Some (tree (record { kind = object_assignment_target; op = no_op; flags = 0; span = p }) ds us)) (sym h) (ap (λ (r : Option Slots). literal_before (record { kind = object_expression; op = op; flags = fl; span = p }) r us) e)

  literal_shut : (o : Bool) (l : Label) (cs : Slots) → l.kind ≡ literal_kind o → Each (Shut text) (places_in (in_literal o) cs) → Each (Shut text) (places_of false l cs (places_in (within l.kind) cs))
  literal_shut false l cs h e = rw h e
  literal_shut true l cs h e = rw h e

  pattern_kinds : (o : Bool) → is_pattern (pattern_kind o) ≡ true
  pattern_kinds false = refl
  pattern_kinds true = refl

  literal_bare : (o : Bool) (f : Flags) {ts us : Slots} {i j : ℕ} {ls rest : Lexemes} → Literal o f ts us i ls j rest → Bare f ts us i ls j rest
  literal_bare o f x = record {
    source = record {
      label = x.label;
      slots = x.slots;
      target = relabelled (pattern_kind o) x.label;
      inside = x.inside;
      is_tree = x.is_tree;
      derived = raised f (by_primary x.derived);
      covers = λ vs. literal_element o x.label.kind x.label.op x.label.flags x.label.span x.slots x.inside vs x.kind x.covers;
      closed = λ g. literal_shut o x.label x.slots x.kind (x.closed g);
    };
    is_target' = or_right (is_target (pattern_kind o)) _ (pattern_kinds o);
  }

  as_argument : (f : Flags) {ts us : Slots} {i j : ℕ} {ls rest : Lexemes} → Source false (at Assignment (plus_in f)) ts us i ls j rest → Source false (at Argument f) ts us i ls j rest
  unfolding rule rule_of
  as_argument f x = record { label = x.label; slots = x.slots; target = x.target; inside = x.inside; is_tree = x.is_tree; derived = up x.derived; covers = x.covers; closed = x.closed }
    where
      up : {l : Label} {cs : Slots} {i j : ℕ} {ls rest : Lexemes} → Takes rule (rule (at Assignment (plus_in f))) end (tree l cs end) i ls end j rest → Takes rule (rule (at Argument f)) end (tree l cs end) i ls end j rest
      up d = is_left (is_such d refl)

  -- a target and its initialiser
  with_initialiser : (f : Flags) {cs us : Slots} {i j : ℕ} {ls rest : Lexemes} → Takes rule (symbol Target f ▸ tok Eq ▸ symbol Assignment (plus_in f)) end cs i ls end j rest → Source false (at Assignment (plus_in f)) (tree (record { kind = assignment_target_with_default; op = no_op; flags = 0; span = record { from = (here ls).from; to = j } }) cs us) us i ls j rest
  unfolding rule rule_of
  with_initialiser f {cs} {us} {i} {j} {ls} {rest} d = record {
    label = record { kind = assignment_expression; op = of Eq; flags = 0; span = record { from = (here ls).from; to = j } };
    slots = cs;
    target = record { kind = assignment_target_with_default; op = no_op; flags = 0; span = record { from = (here ls).from; to = j } };
    inside = cs;
    is_tree = refl;
    derived = by d;
    covers = λ vs. refl;
    closed = λ g. tt;
  }
    where
      by : {cs : Slots} {i j : ℕ} {ls rest : Lexemes} → Takes rule (symbol Target f ▸ tok Eq ▸ symbol Assignment (plus_in f)) end cs i ls end j rest → Takes rule (rule (at Assignment (plus_in f))) end (tree (record { kind = assignment_expression; op = of Eq; flags = 0; span = record { from = (here ls).from; to = j } }) cs end) i ls end j rest
      by (is_seq (is_such (is_left (is_such d c)) g) e) = is_right (is_right (is_right (is_left (is_left (is_node (is_seq (any_in SimpleTarget f (plus_in f) refl refl (is_such d refl)) e))))))
      by (is_seq (is_such (is_right (is_left (is_such d c))) g) e) = is_right (is_right (is_right (is_right (is_node (is_seq (is_left (any_in ArrayTarget f (plus_in f) refl refl (is_such d refl))) e)))))
      by (is_seq (is_such (is_right (is_right (is_such d c))) g) e) = is_right (is_right (is_right (is_right (is_node (is_seq (is_right (any_in ObjectTarget f (plus_in f) refl refl (is_such d refl))) e)))))

  -- a simple target and another operator
  other_source : (f : Flags) → wide ≡ true → {l : Label} {cs us : Slots} {i j : ℕ} {ls rest : Lexemes} → Takes rule (branches other_operators (with_operator f)) end (tree l cs end) i ls end j rest → Source false (at Assignment (plus_in f)) (tree l cs us) us i ls j rest
  unfolding rule rule_of
  other_source f h {us = us} {j = j} {ls = ls} d =
      let x = by_other f other_operators d in
      record {
        label = assigned_label x.operator ls j;
        slots = x.slots;
        target = default_label ls j;
        inside = x.slots;
        is_tree = λ i. tree (label_is x.is_tree i) (slots_are x.is_tree i) us;
        derived = is_right (is_right (is_right (is_left (is_right x.derived))));
        covers = λ vs. refl;
        closed = λ g. absurd (false≢true (sym g ∙ h));
      }

  -- ---- elements

  before_by : (o : Bool) (l : Label) (cs vs us ts : Slots) → elements_in (in_literal o) vs ≡ Some us → element_before l cs (elements_in (within l.kind) cs) us ≡ Some ts → elements_in (in_literal o) (tree l cs vs) ≡ Some ts
  before_by o l cs vs us ts h e = ap (λ (r : Option Slots). before_all l cs (elements_in (within l.kind) cs) r) h ∙ e

  -- an element with its comma, or a gap, before others
  item_before : {f : Flags} {ts us : Slots} {i j k : ℕ} {x : Lexeme} {ls mid rest : Lexemes} → IsTrue (seen (is Comma) x) → Source false (at Argument f) ts us i ls j (next x mid) → Last false (literal_items f) us x.to mid k rest → Last false (literal_items f) ts i ls k rest
  item_before {f} {us = us} q y z = record {
    slots = tree y.label y.slots z.slots;
    derived = more_items f (is_right (is_seq (is_such y.derived refl) (is_lexeme q))) z.derived;
    covers = before_by false y.label y.slots z.slots us _ z.covers (y.covers us ∙ ap Some (sym y.is_tree));
    closed = λ g. all_of (Shut text) (places_of false y.label y.slots (places_in (within y.label.kind) y.slots)) (places_in (in_literal false) z.slots) (y.closed g) (z.closed g);
  }

  gap_before : {f : Flags} {us : Slots} {i k : ℕ} {x : Lexeme} {ls rest : Lexemes} → IsTrue (seen (is Comma) x) → Last false (literal_items f) us x.to ls k rest → Last false (literal_items f) (hole us) i (next x ls) k rest
  gap_before {f} {x = x} q z = record {
    slots = tree (gap_label x) end z.slots;
    derived = more_items f (is_left (is_node (is_lexeme q))) z.derived;
    covers = ap (λ (r : Option Slots). before_all (gap_label x) end (Some end) r) z.covers;
    closed = z.closed;
  }

  last_item : {f : Flags} {ts : Slots} {i j : ℕ} {ls rest : Lexemes} → Source false (at Argument f) ts end i ls j rest → Last false (literal_items f) ts i ls j rest
  last_item x = record {
    slots = tree x.label x.slots end;
    derived = is_seq (is_many (is_right is_nothing)) (is_left (is_such x.derived refl));
    covers = x.covers end ∙ ap Some (sym x.is_tree);
    closed = λ g. all_of (Shut text) (places_of false x.label x.slots (places_in (within x.label.kind) x.slots)) [] (x.closed g) tt;
  }

  no_item : {f : Flags} {i : ℕ} {ls : Lexemes} → Last false (literal_items f) end i ls i ls
  no_item = record { slots = end; derived = is_seq (is_many (is_right is_nothing)) (is_right (is_right is_nothing)); covers = refl; closed = λ g. tt }

  rest_by : (l m : Label) (ds : Slots) → (is_target m.kind || is_pattern m.kind) ≡ true → rest_before l (Some (tree m ds end)) end ≡ Some (tree (relabelled assignment_target_rest l) (tree m ds end) end)
  rest_by l m ds h = rw h refl

  -- a rest, as a spread
  abbrev spread_at : Span → Label
  spread_at p = record { kind = spread_element; op = no_op; flags = 0; span = p }

  abbrev argument : {f : Flags} {ts us : Slots} {i j : ℕ} {ls rest : Lexemes} → Bare f ts us i ls j rest → Slots
  argument b = tree (b.source).label (b.source).slots end

  rest_covers : (o : Bool) (p : Span) {f : Flags} {ts : Slots} {i j : ℕ} {ls rest : Lexemes} (b : Bare f ts end i ls j rest) → elements_in (in_literal o) (tree (spread_at p) (argument b) end) ≡ Some (tree (relabelled assignment_target_rest (spread_at p)) ts end)
  rest_covers o p b = let y = b.source in ap (λ (r : Option Slots). rest_before (spread_at p) r end) (y.covers end) ∙ (rest_by (spread_at p) y.target y.inside b.is_target' ∙ ap (λ (v : Slots). Some (tree (relabelled assignment_target_rest (spread_at p)) v end)) (sym y.is_tree))

  rest_shut : (o : Bool) (p : Span) {f : Flags} {ts : Slots} {i j : ℕ} {ls rest : Lexemes} (b : Bare f ts end i ls j rest) → wide ≡ false → Closed text p.to → Each (Shut text) (argument_places o (argument b)) → Each (Shut text) (places_in (in_literal o) (tree (spread_at p) (argument b) end))
  rest_shut o p b g k h =
      let y = b.source in
      let ws = places_in (in_literal false) (argument b) in
      let vs = argument_places o (argument b) in
      let rs = Rest (record { start = p.from; end = p.to }) ∷ [] in
      all_of (Shut text) (ws ++ (vs ++ rs)) [] (all_of (Shut text) ws (vs ++ rs) (all_of (Shut text) (places_of false y.label y.slots (places_in (within y.label.kind) y.slots)) [] (y.closed g) tt) (all_of (Shut text) vs rs h (k, tt))) tt

  rest_last : {f : Flags} {ts : Slots} {i j : ℕ} {x : Lexeme} {ls rest : Lexemes} → IsTrue (seen (is Dot3) x) → Closed text j → Bare f ts end x.to ls j rest → Last false (literal_items f) (tree (record { kind = assignment_target_rest; op = no_op; flags = 0; span = record { from = x.from; to = j } }) ts end) i (next x ls) j rest
  unfolding rule rule_of
  rest_last {j = j} {x} q k b = record {
    slots = tree (record { kind = spread_element; op = no_op; flags = 0; span = record { from = x.from; to = j } }) (argument b) end;
    derived = is_seq (is_many (is_right is_nothing)) (is_left (is_such (is_right (is_node (is_seq (is_lexeme q) (is_such (b.source).derived refl)))) refl));
    covers = rest_covers false (record { from = x.from; to = j }) b;
    closed = λ g. rest_shut false (record { from = x.from; to = j }) b g k tt;
  }

  -- where targets are wide, with a comma behind it
  rest_with_comma : {f : Flags} {ts : Slots} {i j : ℕ} {x y : Lexeme} {ls rest : Lexemes} → wide ≡ true → IsTrue (seen (is Dot3) x) → IsTrue (seen (is Comma) y) → Bare f ts end x.to ls j (next y rest) → Last false (literal_items f) (tree (record { kind = assignment_target_rest; op = no_op; flags = 0; span = record { from = x.from; to = j } }) ts end) i (next x ls) y.to rest
  unfolding rule rule_of
  rest_with_comma {f} {j = j} {x} h q c b = record {
    slots = tree (record { kind = spread_element; op = no_op; flags = 0; span = record { from = x.from; to = j } }) (argument b) end;
    derived = more_items f (is_right (is_seq (is_such (is_right (is_node (is_seq (is_lexeme q) (is_such (b.source).derived refl)))) refl) (is_lexeme c))) (is_seq (is_many (is_right is_nothing)) (is_right (is_right is_nothing)));
    covers = rest_covers false (record { from = x.from; to = j }) b;
    closed = λ g. absurd (false≢true (sym g ∙ h));
  }

  no_argument_shut : (l : Label) (cs : Slots) → is_literal l.kind ≡ false → Each (Shut text) (argument_places true (tree l cs end))
  no_argument_shut l cs h = rw h tt

  rest_property : {f : Flags} {ts : Slots} {i j : ℕ} {x : Lexeme} {ls rest : Lexemes} → IsTrue (seen (is Dot3) x) → Closed text j → (b : Bare f ts end x.to ls j rest) → (wide ≡ false → is_literal (b.source).label.kind ≡ false) → Last true (properties f) (tree (record { kind = assignment_target_rest; op = no_op; flags = 0; span = record { from = x.from; to = j } }) ts end) i (next x ls) j rest
  unfolding rule rule_of
  rest_property {j = j} {x} q k b h = record {
    slots = tree (record { kind = spread_element; op = no_op; flags = 0; span = record { from = x.from; to = j } }) (argument b) end;
    derived = is_left (is_commas (is_seq (is_such (is_right (is_right (is_node (is_seq (is_lexeme q) (is_such (b.source).derived refl))))) refl) (is_right is_nothing)));
    covers = rest_covers true (record { from = x.from; to = j }) b;
    closed = λ g. rest_shut true (record { from = x.from; to = j }) b g k (no_argument_shut (b.source).label (b.source).slots (h g));
  }

  -- ---- properties

  -- a property, before others or alone
  property_on : {f : Flags} {l : Label} {cs vs : Slots} {i j k : ℕ} {x : Lexeme} {ls mid rest : Lexemes} → Takes rule (rule (at Property f)) end (tree l cs end) i ls end j (next x mid) → IsTrue (seen (is Comma) x) → Takes rule (properties f) end vs x.to mid end k rest → Takes rule (properties f) end (tree l cs vs) i ls end k rest
  property_on d q (is_left e) = is_left (is_commas (is_seq (is_such d refl) (is_left (is_seq (is_lexeme q) (is_left e)))))
  property_on d q (is_right is_nothing) = is_left (is_commas (is_seq (is_such d refl) (is_left (is_seq (is_lexeme q) (is_right is_nothing)))))

  rest_property_with_comma : {f : Flags} {ts : Slots} {i j : ℕ} {x y : Lexeme} {ls rest : Lexemes} → wide ≡ true → IsTrue (seen (is Dot3) x) → IsTrue (seen (is Comma) y) → Bare f ts end x.to ls j (next y rest) → Last true (properties f) (tree (record { kind = assignment_target_rest; op = no_op; flags = 0; span = record { from = x.from; to = j } }) ts end) i (next x ls) y.to rest
  unfolding rule rule_of
  rest_property_with_comma {j = j} {x} h q c b = record {
    slots = tree (record { kind = spread_element; op = no_op; flags = 0; span = record { from = x.from; to = j } }) (argument b) end;
    derived = property_on (is_right (is_right (is_node (is_seq (is_lexeme q) (is_such (b.source).derived refl))))) c (is_right is_nothing);
    covers = rest_covers true (record { from = x.from; to = j }) b;
    closed = λ g. absurd (false≢true (sym g ∙ h));
  }

  one_property : {f : Flags} {ts us : Slots} {i j k : ℕ} {x : Lexeme} {ls mid rest : Lexemes} → Source true (at Property f) ts us i ls j (next x mid) → IsTrue (seen (is Comma) x) → Last true (properties f) us x.to mid k rest → Last true (properties f) ts i ls k rest
  one_property {us = us} y q z = record {
    slots = tree y.label y.slots z.slots;
    derived = property_on y.derived q z.derived;
    covers = before_by true y.label y.slots z.slots us _ z.covers (y.covers us ∙ ap Some (sym y.is_tree));
    closed = λ g. all_of (Shut text) (places_of true y.label y.slots (places_in (within y.label.kind) y.slots)) (places_in (in_literal true) z.slots) (y.closed g) (z.closed g);
  }

  property_alone : {f : Flags} {ts : Slots} {i j : ℕ} {ls rest : Lexemes} → Source true (at Property f) ts end i ls j rest → Last true (properties f) ts i ls j rest
  property_alone y = record {
    slots = tree y.label y.slots end;
    derived = is_left (is_commas (is_seq (is_such y.derived refl) (is_right is_nothing)));
    covers = y.covers end ∙ ap Some (sym y.is_tree);
    closed = λ g. all_of (Shut text) (places_of true y.label y.slots (places_in (within y.label.kind) y.slots)) [] (y.closed g) tt;
  }

  no_property : {f : Flags} {i : ℕ} {ls : Lexemes} → Last true (properties f) end i ls i ls
  no_property = record { slots = end; derived = is_right is_nothing; covers = refl; closed = λ g. tt }

  -- a name alone, with an initialiser or without one
  shorthand_source : (f : Flags) → f.cover ≡ true → {cs us : Slots} {i j : ℕ} {ls rest : Lexemes} → Takes rule (symbol IdentifierReference f ▸ slot (symbol Init (plus_in f))) end cs i ls end j rest → Source true (at Property f) (tree (record { kind = assignment_target_property_identifier; op = no_op; flags = 0; span = record { from = (here ls).from; to = j } }) cs us) us i ls j rest
  unfolding rule rule_of
  shorthand_source f v {j = j} {ls = ls} (is_seq (is_such (is_node (is_lexeme {x = x} t)) h) (is_left (is_such d g))) = record {
    label = property_label init shorthand_flag ls j;
    slots = _;
    target = _;
    inside = _;
    is_tree = refl;
    derived = is_left (is_node (is_seq (is_ahead (is_such (is_node (is_lexeme (bound_word x.kind (not (same_kind Yield x.kind && f.yield_)) (not (same_kind Await x.kind && f.await_)) t))) refl)) (is_seq (is_such (is_node (is_lexeme t)) refl) (is_left (is_when v (is_such d refl))))));
    covers = λ vs. refl;
    closed = λ g. tt;
  }
  shorthand_source f v {j = j} {ls = ls} (is_seq (is_such (is_node (is_lexeme {x = x} t)) h) (is_right is_empty_slot)) = record {
    label = property_label init shorthand_flag ls j;
    slots = _;
    target = _;
    inside = _;
    is_tree = refl;
    derived = is_left (is_node (is_seq (is_ahead (is_such (is_node (is_lexeme (bound_word x.kind (not (same_kind Yield x.kind && f.yield_)) (not (same_kind Await x.kind && f.await_)) t))) refl)) (is_seq (is_such (is_node (is_lexeme t)) refl) (is_right is_nothing))));
    covers = λ vs. refl;
    closed = λ g. tt;
  }

  -- a name and a target
  abbrev value_label : Bool → Lexemes → ℕ → Label
  value_label c ls j = record { kind = assignment_target_property_property; op = no_op; flags = flag c computed_flag; span = record { from = (here ls).from; to = j } }

  abbrev named_before : Label → Label → Slots → Label → Slots → Option Slots → Slots → Option Slots
  named_before l k ks m es r vs = followed (named_slot l (before_value k ks (tree m es end) r)) vs

  value_source : (f : Flags) (c : Bool) {ks cs us : Slots} {i j k : ℕ} {x : Lexeme} {ls mid rest : Lexemes} → Takes rule (name c false f) end ks i ls cs j (next x mid) → IsTrue (seen (is Colon) x) → Source false (at Assignment (plus_in f)) cs end x.to mid k rest → Source true (at Property f) (tree (value_label c ls k) ks us) us i ls k rest
  unfolding rule rule_of
  value_source f false {us = us} {k = k} {ls = ls} n q y =
      let z = named false f n in
      record {
        label = property_label init 0 ls k;
        slots = tree z.label z.slots (tree y.label y.slots end);
        target = value_label false ls k;
        inside = tree z.label z.slots (tree y.target y.inside end);
        is_tree = ap (λ (v : Slots). tree (value_label false ls k) v us) (z.is ∙ ap (λ (v : Slots). tree z.label z.slots v) y.is_tree);
        derived = is_right (is_left (is_left (is_left (is_node (is_seq (z.derived (tree y.label y.slots end)) (is_seq (is_lexeme q) (is_such y.derived refl)))))));
        covers = λ vs. ap (λ (r : Option Slots). named_before (property_label init 0 ls k) z.label z.slots y.label y.slots r vs) (y.covers end);
        closed = λ g. all_of (Shut text) (places_of false y.label y.slots (places_in (within y.label.kind) y.slots)) [] (y.closed g) tt;
      }
  value_source f true {us = us} {k = k} {ls = ls} n q y =
      let z = named true f n in
      record {
        label = property_label init 4 ls k;
        slots = tree z.label z.slots (tree y.label y.slots end);
        target = value_label true ls k;
        inside = tree z.label z.slots (tree y.target y.inside end);
        is_tree = ap (λ (v : Slots). tree (value_label true ls k) v us) (z.is ∙ ap (λ (v : Slots). tree z.label z.slots v) y.is_tree);
        derived = is_right (is_left (is_right (is_left (is_node (is_seq (z.derived (tree y.label y.slots end)) (is_seq (is_lexeme q) (is_such y.derived refl)))))));
        covers = λ vs. ap (λ (r : Option Slots). named_before (property_label init 4 ls k) z.label z.slots y.label y.slots r vs) (y.covers end);
        closed = λ g. all_of (Shut text) (places_of false y.label y.slots (places_in (within y.label.kind) y.slots)) [] (y.closed g) tt;
      }

  -- ---- the law

  bracket_behind : {i : ℕ} {x : Lexeme} (ls : Lexemes) → IsTrue (seen (is RBrack) x) → Lexes (Lex text) i (next x ls) → Closed text i
  bracket_behind {x = x} ls p m = record { bracket = x; stands = m.0; is = ap (λ (k : Kind). one_of_kinds (RBrack ∷ RCurly ∷ []) k) (kind_is {k = RBrack} x p) }

  brace_behind : {i : ℕ} {x : Lexeme} (ls : Lexemes) → IsTrue (seen (is RCurly) x) → Lexes (Lex text) i (next x ls) → Closed text i
  brace_behind {x = x} ls p m = record { bracket = x; stands = m.0; is = ap (λ (k : Kind). one_of_kinds (RBrack ∷ RCurly ∷ []) k) (kind_is {k = RCurly} x p) }

  anew : {o : Bool} {f : Flags} {l : Label} {cs us vs : Slots} {i j : ℕ} {ls rest : Lexemes} → Literal o f (tree l cs us) us i ls j rest → Literal o f (tree l cs vs) vs i ls j rest
  anew {vs = vs} x = record { label = x.label; slots = x.slots; inside = x.inside; kind = x.kind; is_tree = λ i. tree (label_is x.is_tree i) (slots_are x.is_tree i) vs; covers = x.covers; closed = x.closed; derived = x.derived }

  -- targets whose derivations are smaller than n are expressions
  abbrev UpTo : Flags → ℕ → Type 0
  UpTo f n = (l : Label) (cs us : Slots) (i j : ℕ) (ls rest : Lexemes) (d : Takes rule (rule (at Target f)) end (tree l cs end) i ls end j rest) → deep d < n → Lexes (Lex text) i ls → Bare f (tree l cs us) us i ls j rest

  module _ (f : Flags) (w : f.wide ≡ wide) (v : f.cover ≡ true) where
    module _ {n : ℕ} (up : UpTo f n) where
      element_back : {l : Label} {cs us : Slots} {i j : ℕ} {ls rest : Lexemes} (d : Takes rule (rule (at TargetElement f)) end (tree l cs end) i ls end j rest) → deep d < n → Lexes (Lex text) i ls → Source false (at Assignment (plus_in f)) (tree l cs us) us i ls j rest
      unfolding rule rule_of
      element_back (is_left (is_such d h)) o c = (up _ _ _ _ _ _ _ d (omega arith) c).source
      element_back (is_right (is_left (is_node d))) o c = with_initialiser f d
      element_back (is_right (is_right (is_when z d))) o c = other_source f (sym w ∙ z) d

      many_back : {ts us : Slots} {i j k : ℕ} {ls mid rest : Lexemes} (d : Takes rule (many (target_step f)) end ts i ls us j mid) → deep d < n → Lexes (Lex text) i ls → Last false (literal_items f) us j mid k rest → Last false (literal_items f) ts i ls k rest
      many_back (is_many (is_right is_nothing)) o c y = y
      many_back (is_many (is_left (is_seq (is_left (is_seq is_empty_slot (is_lexeme q))) m))) o c y = gap_before q (many_back m (omega arith) c.1 y)
      many_back (is_many (is_left (is_seq (is_right (is_seq (is_such d h) (is_lexeme q))) m))) o c y = let b = lexed_behind (Lex text) d c in item_before q (as_argument f (element_back d (omega arith) c)) (many_back m (omega arith) b.1 y)

      last_back : {ts : Slots} {i j : ℕ} {ls rest : Lexemes} (d : Takes rule (target_last f) end ts i ls end j rest) → deep d < n → Lexes (Lex text) i ls → Closed text j → Last false (literal_items f) ts i ls j rest
      last_back (is_left (is_such d h)) o c k = last_item (as_argument f (element_back d (omega arith) c))
      last_back (is_right (is_left (is_seq (is_node (is_seq (is_lexeme q) (is_such d h))) (is_right is_nothing)))) o c k = rest_last q k (up _ _ _ _ _ _ _ d (omega arith) c.1)
      last_back (is_right (is_left (is_seq (is_node (is_seq (is_lexeme q) (is_such d h))) (is_left (is_when z (is_lexeme p)))))) o c k = rest_with_comma (sym w ∙ z) q p (up _ _ _ _ _ _ _ d (omega arith) c.1)
      last_back (is_right (is_right is_nothing)) o c k = no_item

      array_at : {ts us : Slots} {i j : ℕ} {ls rest : Lexemes} (d : Takes rule (rule (at ArrayTarget f)) end ts i ls us j rest) → deep d < n → Lexes (Lex text) i ls → Literal false f ts us i ls j rest
      unfolding rule rule_of
      array_at (is_node (is_seq (is_lexeme q) (is_seq (is_seq m l) (is_lexeme p)))) o c =
          let b = lexed_behind (Lex text) m c.1 in
          let g = lexed_behind (Lex text) l b in
          let y = many_back m (omega arith) c.1 (last_back l (omega arith) b (bracket_behind _ p g)) in
          record {
            label = _;
            slots = y.slots;
            inside = _;
            kind = refl;
            is_tree = refl;
            covers = y.covers;
            closed = y.closed;
            derived = by_brackets (is_node (is_seq (is_lexeme q) (is_seq y.derived (is_lexeme p))));
          }

      property_back : {l : Label} {cs us : Slots} {i j : ℕ} {ls rest : Lexemes} (d : Takes rule (rule (at TargetProperty f)) end (tree l cs end) i ls end j rest) → deep d < n → Lexes (Lex text) i ls → Source true (at Property f) (tree l cs us) us i ls j rest
      unfolding rule rule_of
      property_back (is_left (is_node d)) o c = shorthand_source f v d
      property_back (is_right (is_left (is_node (is_seq m (is_seq (is_lexeme q) (is_such d h)))))) o c = let b = lexed_behind (Lex text) m c in value_source f false m q (element_back d (omega arith) b.1)
      property_back (is_right (is_right (is_node (is_seq m (is_seq (is_lexeme q) (is_such d h)))))) o c = let b = lexed_behind (Lex text) m c in value_source f true m q (element_back d (omega arith) b.1)

      properties_back : {ts us : Slots} {i j k : ℕ} {ls mid rest : Lexemes} (d : Takes rule (many (target_property f)) end ts i ls us j mid) → deep d < n → Lexes (Lex text) i ls → Last true (properties f) us j mid k rest → Last true (properties f) ts i ls k rest
      properties_back (is_many (is_right is_nothing)) o c y = y
      properties_back (is_many (is_left (is_seq (is_left z) m))) o c y = elim z [ ]
      properties_back (is_many (is_left (is_seq (is_right (is_seq (is_such d h) (is_lexeme q))) m))) o c y = let b = lexed_behind (Lex text) d c in one_property (property_back d (omega arith) c) q (properties_back m (omega arith) b.1 y)

      -- what is left of the properties, a literal among it where targets are wide
      left_back : {ts : Slots} {i j : ℕ} {ls rest : Lexemes} (d : Takes rule (left_line f) end ts i ls end j rest) → 3 + deep d < n → Lexes (Lex text) i ls → (b : Bare f ts end i ls j rest) × (wide ≡ false → is_literal (b.source).label.kind ≡ false)
      unfolding rule rule_of simple_bare
      left_back (is_left (is_such {l = l} {cs = cs} d h)) o c = let x = target_left_hand_side (record { label = l; slots = cs }) d in (simple_bare f (record { label = l; slots = cs }) d, λ g. target_no_literal x.label x.slots (record { label = l; slots = cs }) x.has)
      left_back (is_right (is_when z (is_left (is_such d h)))) o c = (up _ _ _ _ _ _ _ (is_right (is_left (is_such d h))) (omega arith) c, λ g. absurd (false≢true (sym g ∙ (sym w ∙ z))))
      left_back (is_right (is_when z (is_right (is_such d h)))) o c = (up _ _ _ _ _ _ _ (is_right (is_right (is_such d h))) (omega arith) c, λ g. absurd (false≢true (sym g ∙ (sym w ∙ z))))

      last_property_back : {ts : Slots} {i j : ℕ} {ls rest : Lexemes} (d : Takes rule (last_property f) end ts i ls end j rest) → 2 + deep d < n → Lexes (Lex text) i ls → Closed text j → Last true (properties f) ts i ls j rest
      last_property_back (is_left (is_such d h)) o c k = property_alone (property_back d (omega arith) c)
      last_property_back (is_right (is_left (is_seq (is_node (is_seq (is_lexeme q) d)) (is_right is_nothing)))) o c k = let b = left_back d (omega arith) c.1 in rest_property q k b.0 b.1
      last_property_back (is_right (is_left (is_seq (is_node (is_seq (is_lexeme q) d)) (is_left (is_when z (is_lexeme p)))))) o c k = rest_property_with_comma (sym w ∙ z) q p (left_back d (omega arith) c.1).0
      last_property_back (is_right (is_right is_nothing)) o c k = no_property

      object_at : {ts us : Slots} {i j : ℕ} {ls rest : Lexemes} (d : Takes rule (rule (at ObjectTarget f)) end ts i ls us j rest) → deep d < n → Lexes (Lex text) i ls → Literal true f ts us i ls j rest
      unfolding rule rule_of
      object_at (is_node (is_seq (is_lexeme q) (is_seq (is_seq m l) (is_lexeme p)))) o c =
          let b = lexed_behind (Lex text) m c.1 in
          let g = lexed_behind (Lex text) l b in
          let y = properties_back m (omega arith) c.1 (last_property_back l (omega arith) b (brace_behind _ p g)) in
          record {
            label = _;
            slots = y.slots;
            inside = _;
            kind = refl;
            is_tree = refl;
            covers = y.covers;
            closed = y.closed;
            derived = by_braces f (is_node (is_seq (is_lexeme q) (is_seq y.derived (is_lexeme p))));
          }

      one_deeper : UpTo f (suc n)
      unfolding rule rule_of
      one_deeper l cs us i j ls rest (is_left (is_such d h)) o c = simple_bare f (record { label = l; slots = cs }) d
      one_deeper l cs us i j ls rest (is_right (is_left (is_such d h))) o c = literal_bare false f (anew (array_at d (omega arith) c))
      one_deeper l cs us i j ls rest (is_right (is_right (is_such d h))) o c = literal_bare true f (anew (object_at d (omega arith) c))

    up_to : (n : ℕ) → UpTo f n
    up_to zero l cs us i j ls rest d o c = absurd (omega arith)
    up_to (suc n) l cs us i j ls rest d o c = one_deeper (up_to n) l cs us i j ls rest d o c

    pub array_back : {ts us : Slots} {i j : ℕ} {ls rest : Lexemes} → Takes rule (rule (at ArrayTarget f)) end ts i ls us j rest → Lexes (Lex text) i ls → Literal false f ts us i ls j rest
    array_back d c = array_at (up_to (suc (deep d))) d (omega arith) c

    pub object_back : {ts us : Slots} {i j : ℕ} {ls rest : Lexemes} → Takes rule (rule (at ObjectTarget f)) end ts i ls us j rest → Lexes (Lex text) i ls → Literal true f ts us i ls j rest
    object_back d c = object_at (up_to (suc (deep d))) d (omega arith) c

    pub literal_back : (o : Bool) {ts us : Slots} {i j : ℕ} {ls rest : Lexemes} → Takes rule (rule (at (target_name o) f)) end ts i ls us j rest → Lexes (Lex text) i ls → Literal o f ts us i ls j rest
    literal_back false d c = array_back d c
    literal_back true d c = object_back d c

    -- the same of an element, and of a property
    pub element_source : {l : Label} {cs : Slots} {i j : ℕ} {ls rest : Lexemes} → Takes rule (rule (at TargetElement f)) end (tree l cs end) i ls end j rest → Lexes (Lex text) i ls → Source false (at Assignment (plus_in f)) (tree l cs end) end i ls j rest
    element_source d c = element_back (up_to (suc (deep d))) d (omega arith) c

    pub property_source : {l : Label} {cs : Slots} {i j : ℕ} {ls rest : Lexemes} → Takes rule (rule (at TargetProperty f)) end (tree l cs end) i ls end j rest → Lexes (Lex text) i ls → Source true (at Property f) (tree l cs end) end i ls j rest
    property_source d c = property_back (up_to (suc (deep d))) d (omega arith) c

    -- and of a target
    pub target_source : {l : Label} {cs : Slots} {i j : ℕ} {ls rest : Lexemes} → Takes rule (rule (at Target f)) end (tree l cs end) i ls end j rest → Lexes (Lex text) i ls → Source false (at Assignment (plus_in f)) (tree l cs end) end i ls j rest
    target_source {l} {cs} {i} {j} {ls} {rest} d c = (up_to (suc (deep d)) l cs end i j ls rest d (omega arith) c).source
