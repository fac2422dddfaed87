-- What the conversion of an expression to a target says of derivations (ECMA-262, 13.15.5).
use Rattle.std.proofs.Common.{ℕ, ◌≡◌, Bool, true, false, List, Option, Some, None, inl, refl, sym, ap, subst, ◌∙◌}
use Rattle.js_grammar.specs.Grammar.{Lexemes, such, Takes, Derives, is_such}
use Rattle.js_grammar.specs.Parsing.{always}
use Rattle.js_grammar.specs.Productions.{Flags, Symbol, at, Primary}
use Rattle.js_grammar.specs.Table.{rule}
use Rattle.js_grammar.specs.Trees.{NodeKind, Label, Slots, end, tree, Tree}
use Rattle.parse_shared.specs.js_tree.declared.id.NodeId.{NodeId}
use Rattle.parse_shared.specs.js_tree.Nodes.{Node}
use Rattle.parse_targets.specs.declared.widening.Widening.{Widening}
use Rattle.parse_targets.specs.Taken.{target_name}
use Rattle.parse_targets.specs.Targets.{Each, Fits, Spotted, in_literal, is_object, literal_kind, pattern_kind, relabelled, literal_tree, slot_of, elements_in, places_in}
use Rattle.parse_targets.proofs.LiteralsAsTargets.{Targeted, literal_target}
use Rattle.parse_targets.proofs.Spots.{literal_spots}
use Rattle.parse_targets.proofs.Targets.{by_primary}
use Rattle.parse_targets.proofs.TargetsAsLiterals.{literal_back}
use Rattle.parse_targets.specs.Covered.{Read, NoneCovered, IsLiteral, in_a_literal, literal_answer}

-- The slots that an expression is converted to are those of a target over its lexemes; where there are none, no target is derived. And its places can be told.
pub record Lawful (text : List ℕ) (m : Symbol) {n : Symbol} {ns : List Node} {id : NodeId} (x : Read text n ns id) (ws : List Widening) (r : Option Slots) : Type 0 where
  pub sound : (ts : Slots) → r ≡ Some ts → (t : Tree) × (ts ≡ tree t.label t.slots end) × Derives rule m t x.place x.lexemes x.behind x.rest
  pub complete : r ≡ None → NoneCovered m x
  pub spotted : Each (Spotted text) ws
  pub fits : (ts : Slots) → r ≡ Some ts → Each (Fits text) ws

-- the same of every expression that was read
pub record Law (n : Flags → Symbol) (Is : Label → Type 0) (m : Flags → Symbol) (places : Label → Slots → List Widening) (r : Label → Slots → Option Slots) : Type 0 where
  pub of : (text : List ℕ) (f : Flags) → f.cover ≡ true → f.wide ≡ true → {ns : List Node} {id : NodeId} (x : Read text (n f) ns id) → Is x.label → Lawful text (m f) x (places x.label x.slots) (r x.label x.slots)

pub slot_parts : (r : Option Tree) (ts : Slots) → slot_of r ≡ Some ts → (t : Tree) × (r ≡ Some t) × (ts ≡ tree t.label t.slots end)
slot_parts (Some t) ts e = (t, refl, (let k : tree t.label t.slots end ≡ ts = cc in sym k))
slot_parts None ts e = absurd (cc)

pub literal_parts : (l : Label) (r : Option Slots) (t : Tree) → literal_tree l r ≡ Some t → (ds : Slots) × (r ≡ Some ds) × (t ≡ record { label = relabelled (pattern_kind (is_object l.kind)) l; slots = ds })
literal_parts l (Some ds) t e = (ds, refl, (let k : record { label = relabelled (pattern_kind (is_object l.kind)) l; slots = ds } ≡ t = cc in sym k))
literal_parts l None t e = absurd (cc)

pub within : {m : Symbol} {t : Label} {ts : Slots} {i j : ℕ} {ls rest : Lexemes} → Takes rule (such m always) end (tree t ts end) i ls end j rest → Takes rule (rule m) end (tree t ts end) i ls end j rest
within (is_such d c) = d

pub literal_is_object : (o : Bool) (k : NodeKind) → k ≡ literal_kind o → is_object k ≡ o
literal_is_object false k h = ap is_object h
literal_is_object true k h = ap is_object h

-- ---- literals

abbrev pub literal_slots : Bool → Label → Slots → Option Slots
literal_slots o l cs = slot_of (literal_tree l (elements_in (in_literal o) cs))

-- the target's elements are those of the literal
pub elements_are : (o : Bool) (l : Label) (cs ts : Slots) → l.kind ≡ literal_kind o → literal_slots o l cs ≡ Some ts → (ds : Slots) × (elements_in (in_literal o) cs ≡ Some ds) × (ts ≡ tree (relabelled (pattern_kind o) l) ds end)
elements_are o l cs ts h e =
    let s = slot_parts (literal_tree l (elements_in (in_literal o) cs)) ts e in
    let p = literal_parts l (elements_in (in_literal o) cs) s.0 s.1 in
    (p.0, p.1, s.2 ∙ (ap (λ (t : Tree). tree t.label t.slots end) p.2 ∙ ap (λ (b : Bool). tree (relabelled (pattern_kind b) l) p.0 end) (literal_is_object o l.kind h)))

pub no_elements : (o : Bool) (l : Label) (cs ds : Slots) → literal_slots o l cs ≡ None → elements_in (in_literal o) cs ≡ Some ds → ⊥
no_elements o l cs ds e h = let k : Some (tree (relabelled (pattern_kind (is_object l.kind)) l) ds end) ≡ None = sym (ap (λ (r : Option Slots). slot_of (literal_tree l r)) h) ∙ e in absurd (cc)

pub literal_at : (text : List ℕ) (o : Bool) (f : Flags) → f.cover ≡ true → f.wide ≡ true → {ns : List Node} {id : NodeId} (x : Read text (at Primary f) ns id) → IsLiteral o x.label → Lawful text (at (target_name o) f) x (places_in (in_literal o) x.slots) (literal_slots o x.label x.slots)
literal_at text o f v w x h = record {
  sound = λ ts e.
      let p = elements_are o x.label x.slots ts h e in
      (record { label = relabelled (pattern_kind o) x.label; slots = p.0 }, p.2, within ((targeted p.0 p.1).takes (inl w)));
  complete = λ e t d.
      let y = literal_back text true f w v o d (x.only).lexed in
      let u = (x.only).only (record { label = y.label; slots = y.slots }) y.derived in
      no_elements o x.label x.slots y.inside e (ap (λ (t : Tree). elements_in (in_literal o) t.slots) (sym u) ∙ y.covers);
  spotted = literal_spots text (x.only).utf8 o h (x.only).reached (x.only).between (x.only).lexed (by_primary (x.only).derived);
  fits = λ ts e. let p = elements_are o x.label x.slots ts h e in (targeted p.0 p.1).ended;
}
  where
    targeted : (ds : Slots) → elements_in (in_literal o) x.slots ≡ Some ds → Targeted text o f x.label x.slots ds x.place x.lexemes x.behind x.rest
    targeted ds e = literal_target text o ds h e (x.only).utf8 (x.only).reached (x.only).between (x.only).lexed (by_primary (x.only).derived)

pub literal_law : (o : Bool) → Law (at Primary) (IsLiteral o) (at (target_name o)) in_a_literal literal_answer
literal_law o = record { of = λ text f v w x h. subst (λ (b : Bool). Lawful text (at (target_name o) f) x (places_in (in_literal b) x.slots) (literal_slots b x.label x.slots)) (sym (literal_is_object o x.label.kind h)) (literal_at text o f v w x h) }
