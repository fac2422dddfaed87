-- Expressions as targets, simple ones and others (ECMA-262, 8.6.4 and 13.15.5).
use Rattle.std.proofs.Common.{ℕ, ◌≡◌, Bool, true, false, cond, List, [], Option, Some, None, inl, refl, sym, ap, subst, ◌∙◌}
use Rattle.std.specs.Prelude.{IsCharBoundary, IsUtf8}
use Rattle.js_grammar.specs.Grammar.{Lexemes, such, Takes, Derives, is_such, is_left, is_right}
use Rattle.js_grammar.specs.Lexed.{Lexes}
use Rattle.js_grammar.specs.LexicalFaults.{Reached}
use Rattle.js_grammar.specs.Parsing.{always}
use Rattle.js_grammar.specs.Productions.{Flags, at, plus_in, ArrayTarget, ObjectTarget, LeftHandSide, SimpleTarget, Target}
use Rattle.js_grammar.specs.Productions.{sym as symbol}
use Rattle.js_grammar.specs.Table.{rule, rule_of}
use Rattle.js_grammar.specs.Trees.{Label, Slots, end, tree, Tree}
use Rattle.parse_shared.specs.js_tree.declared.id.NodeId.{NodeId}
use Rattle.parse_shared.specs.js_tree.Nodes.{Node}
use Rattle.parse_shared.specs.laws_shared.Lexemes.{Lex}
use Rattle.parse_shared.proofs.laws_shared.FreeOfIn.{any_in}
use Rattle.parse_targets.specs.declared.widening.Widening.{Widening}
use Rattle.parse_targets.specs.Taken.{target_name}
use Rattle.parse_targets.specs.Targets.{Each, Fits, Spotted, in_literal, within, is_literal, is_object, literal_kind, pattern_kind, relabelled, literal_tree, slot_of, target_of, elements_in, places_in}
use Rattle.parse_targets.proofs.LiteralsAsTargets.{Targeted, literal_target}
use Rattle.parse_targets.proofs.Spots.{literal_spots}
use Rattle.parse_targets.proofs.Targets.{by_primary, is_literal_kind, kind_of_literal, left_hand_side_target, may_be, may_literal, may_target, of_assignment, target_left_hand_side}
use Rattle.parse_targets.proofs.TargetsAsLiterals.{literal_back}
use Rattle.parse_targets.proofs.ArraysBeforeSigns.{target_no_literal}
use Rattle.parse_targets.specs.Covered.{Read, NoneCovered, AnyLabel, an_expression, no_places, in_a_target, simple_answer, target_answer}
use Rattle.parse_targets.proofs.Laws.{Lawful, Law, slot_parts, within as inside, elements_are, no_elements, literal_slots}

pub none_some : {a : Option Slots} {b : Slots} → a ≡ None → a ≡ Some b → ⊥
none_some {b = b} e h = let k : None ≡ Some b = sym e ∙ h in absurd (cc)

-- ---- levels of operators

pub raised : (f : Flags) {l : Label} {cs : Slots} {i j : ℕ} {ls rest : Lexemes} → Takes rule (such (at LeftHandSide f) always) end (tree l cs end) i ls end j rest → Takes rule (rule (an_expression f)) end (tree l cs end) i ls end j rest
raised f d = inside ((of_assignment (plus_in f)).up (any_in LeftHandSide f (plus_in f) refl refl d))

pub lowered : (f : Flags) {l : Label} {cs : Slots} {i j : ℕ} {ls rest : Lexemes} → may_be l.kind ≡ true → Takes rule (rule (an_expression f)) end (tree l cs end) i ls end j rest → Takes rule (such (at LeftHandSide (plus_in f)) always) end (tree l cs end) i ls end j rest
lowered f q d = (of_assignment (plus_in f)).down q (is_such d refl)

simple_taken : (f : Flags) (l : Label) (cs : Slots) (t : Tree) {i j : ℕ} {ls rest : Lexemes} → target_of l cs ≡ Some t → Takes rule (rule (an_expression f)) end (tree l cs end) i ls end j rest → Derives rule (at SimpleTarget f) t i ls j rest
simple_taken f l cs t e d = inside (any_in SimpleTarget (plus_in f) f refl refl (left_hand_side_target cs (plus_in f) l t e (lowered f (may_target l cs t e) d)))

literal_name_in : (o : Bool) (f : Flags) {ts : Slots} {i j : ℕ} {ls rest : Lexemes} → Takes rule (symbol (target_name o) (plus_in f)) end ts i ls end j rest → Takes rule (symbol (target_name o) f) end ts i ls end j rest
literal_name_in false f d = any_in ArrayTarget (plus_in f) f refl refl d
literal_name_in true f d = any_in ObjectTarget (plus_in f) f refl refl d

simple_as_target : (f : Flags) {t : Tree} {i j : ℕ} {ls rest : Lexemes} → Derives rule (at SimpleTarget f) t i ls j rest → Derives rule (at Target f) t i ls j rest
unfolding rule rule_of
simple_as_target f d = is_left (is_such d refl)

literal_as_target : (o : Bool) (f : Flags) {t : Tree} {i j : ℕ} {ls rest : Lexemes} → Derives rule (at (target_name o) f) t i ls j rest → Derives rule (at Target f) t i ls j rest
unfolding rule rule_of
literal_as_target false f d = is_right (is_left (is_such d refl))
literal_as_target true f d = is_right (is_right (is_such d refl))

-- a target, by its kind
data TargetOf (f : Flags) (t : Tree) (i : ℕ) (ls : Lexemes) (j : ℕ) (rest : Lexemes) : Type 0 where
  a_simple : Derives rule (at SimpleTarget f) t i ls j rest → TargetOf f t i ls j rest
  a_literal : (o : Bool) → Derives rule (at (target_name o) f) t i ls j rest → TargetOf f t i ls j rest

target_shape : (f : Flags) (t : Tree) {i j : ℕ} {ls rest : Lexemes} → Derives rule (at Target f) t i ls j rest → TargetOf f t i ls j rest
unfolding rule rule_of
target_shape f t (is_left (is_such d c)) = a_simple d
target_shape f t (is_right (is_left (is_such d c))) = a_literal false d
target_shape f t (is_right (is_right (is_such d c))) = a_literal true d

-- ---- what is answered of a literal, and of others

literal_answered : (o : Bool) (l : Label) (cs : Slots) → l.kind ≡ literal_kind o → target_answer l cs ≡ literal_slots o l cs
literal_answered false l cs h = rw h refl
literal_answered true l cs h = rw h refl

literal_placed : (o : Bool) (l : Label) (cs : Slots) → l.kind ≡ literal_kind o → in_a_target l cs ≡ places_in (in_literal o) cs
literal_placed false l cs h = rw h refl
literal_placed true l cs h = rw h refl

simple_answered : (l : Label) (cs : Slots) → is_literal l.kind ≡ false → target_answer l cs ≡ simple_answer l cs
simple_answered l cs h = ap (λ (b : Bool). slot_of (cond b (literal_tree l (elements_in (within l.kind) cs)) (target_of l cs))) h

simple_placed : (l : Label) (cs : Slots) → is_literal l.kind ≡ false → in_a_target l cs ≡ []
simple_placed l cs h = ap (λ (b : Bool). cond b (places_in (within l.kind) cs) []) h

-- ---- what its places need

module _ (text : List ℕ) (f : Flags) {l : Label} {cs : Slots} {i j : ℕ} {ls rest : Lexemes} (u : IsUtf8 text) (r : Reached text i) (b : IsCharBoundary text i) (m : Lexes (Lex text) i ls) (d : Takes rule (rule (an_expression f)) end (tree l cs end) i ls end j rest) where
  literal_line : (o : Bool) → l.kind ≡ literal_kind o → Takes rule (such (at LeftHandSide (plus_in f)) always) end (tree l cs end) i ls end j rest
  literal_line o h = lowered f (may_literal l.kind (is_literal_kind o l.kind h)) d

  literal_targeted : (o : Bool) (ds : Slots) → l.kind ≡ literal_kind o → elements_in (in_literal o) cs ≡ Some ds → Targeted text o (plus_in f) l cs ds i ls j rest
  literal_targeted o ds h e = literal_target text o ds h e u r b m (literal_line o h)

  pub target_spotted : Each (Spotted text) (in_a_target l cs)
  target_spotted = by (is_literal l.kind) refl
    where
      by : (g : Bool) → is_literal l.kind ≡ g → Each (Spotted text) (in_a_target l cs)
      by true k = let h = kind_of_literal l.kind k in subst (λ (ws : List Widening). Each (Spotted text) ws) (sym (literal_placed (is_object l.kind) l cs h)) (literal_spots text u (is_object l.kind) h r b m (literal_line (is_object l.kind) h))
      by false k = subst (λ (ws : List Widening). Each (Spotted text) ws) (sym (simple_placed l cs k)) tt

  pub target_fits : (ts : Slots) → target_answer l cs ≡ Some ts → Each (Fits text) (in_a_target l cs)
  target_fits ts e = by (is_literal l.kind) refl
    where
      by : (g : Bool) → is_literal l.kind ≡ g → Each (Fits text) (in_a_target l cs)
      by true k =
          let h = kind_of_literal l.kind k in
          let p = elements_are (is_object l.kind) l cs ts h (sym (literal_answered (is_object l.kind) l cs h) ∙ e) in
          subst (λ (ws : List Widening). Each (Fits text) ws) (sym (literal_placed (is_object l.kind) l cs h)) (literal_targeted (is_object l.kind) p.0 h p.1).ended
      by false k = subst (λ (ws : List Widening). Each (Fits text) ws) (sym (simple_placed l cs k)) tt

  target_taken : f.wide ≡ true → (ts : Slots) → target_answer l cs ≡ Some ts → (t : Tree) × (ts ≡ tree t.label t.slots end) × Derives rule (at Target f) t i ls j rest
  target_taken w ts e = by (is_literal l.kind) refl
    where
      by : (g : Bool) → is_literal l.kind ≡ g → (t : Tree) × (ts ≡ tree t.label t.slots end) × Derives rule (at Target f) t i ls j rest
      by true k =
          let h = kind_of_literal l.kind k in
          let p = elements_are (is_object l.kind) l cs ts h (sym (literal_answered (is_object l.kind) l cs h) ∙ e) in
          (record { label = relabelled (pattern_kind (is_object l.kind)) l; slots = p.0 }, p.2, literal_as_target (is_object l.kind) f (inside (literal_name_in (is_object l.kind) f ((literal_targeted (is_object l.kind) p.0 h p.1).takes (inl w)))))
      by false k = let s = slot_parts (target_of l cs) ts (sym (simple_answered l cs k) ∙ e) in (s.0, s.2, simple_as_target f (simple_taken f l cs s.0 s.1 d))

-- ---- the laws

module _ {text : List ℕ} (f : Flags) {ns : List Node} {id : NodeId} (x : Read text (an_expression f) ns id) where
  simple_source : (t : Tree) → Derives rule (at SimpleTarget f) t x.place x.lexemes x.behind x.rest → target_of x.label x.slots ≡ Some t
  simple_source t d =
      let y = target_left_hand_side t d in
      let u = (x.only).only (record { label = y.label; slots = y.slots }) (raised f y.derived) in
      ap (λ (z : Tree). target_of z.label z.slots) (sym u) ∙ y.has

  simple_at : Lawful text (at SimpleTarget f) x [] (simple_answer x.label x.slots)
  simple_at = record {
    sound = λ ts e. let s = slot_parts (target_of x.label x.slots) ts e in (s.0, s.2, simple_taken f x.label x.slots s.0 s.1 (x.only).derived);
    complete = λ e t d. none_some e (ap slot_of (simple_source t d));
    spotted = tt;
    fits = λ ts e. tt;
  }

  module _ (v : f.cover ≡ true) (w : f.wide ≡ true) where
    -- none of it is a target where it isn't converted to one
    target_source : target_answer x.label x.slots ≡ None → NoneCovered (at Target f) x
    target_source e t d = by (target_shape f t d)
      where
        by : TargetOf f t x.place x.lexemes x.behind x.rest → ⊥
        by (a_simple d) =
            let h = simple_source t d in
            none_some e (simple_answered x.label x.slots (target_no_literal x.label x.slots t h) ∙ ap slot_of h)
        by (a_literal o d) =
            let y = literal_back text true f w v o d (x.only).lexed in
            let u = (x.only).only (record { label = y.label; slots = y.slots }) (raised f (by_primary y.derived)) in
            no_elements o x.label x.slots y.inside (sym (literal_answered o x.label x.slots (ap (λ (z : Tree). z.label.kind) (sym u) ∙ y.kind)) ∙ e) (ap (λ (z : Tree). elements_in (in_literal o) z.slots) (sym u) ∙ y.covers)

    pub target_at : Lawful text (at Target f) x (in_a_target x.label x.slots) (target_answer x.label x.slots)
    target_at = record {
      sound = target_taken text f (x.only).utf8 (x.only).reached (x.only).between (x.only).lexed (x.only).derived w;
      complete = target_source;
      spotted = target_spotted text f (x.only).utf8 (x.only).reached (x.only).between (x.only).lexed (x.only).derived;
      fits = target_fits text f (x.only).utf8 (x.only).reached (x.only).between (x.only).lexed (x.only).derived;
    }

pub simple_law : Law an_expression AnyLabel (at SimpleTarget) no_places simple_answer
simple_law = record { of = λ text f v w x i. simple_at f x }

pub target_law : Law an_expression AnyLabel (at Target) in_a_target target_answer
target_law = record { of = λ text f v w x i. target_at f x v w }
