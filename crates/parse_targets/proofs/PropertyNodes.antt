-- What properties of object literals are converted to, node by node (ECMA-262, 13.15.5).
use Rattle.std.proofs.Common.{ℕ, ◌≡◌, ◌<◌, inl, inr, ◌+◌, ◌*◌, ◌/◌, ◌%◌, suc, Bool, true, false, List, [], ◌∷◌, ◌++◌, length, Option, Some, None, refl, sym, ap, subst, arith, ◌∙◌, append-nil}
use Rattle.std.specs.Prelude.{get_or, nat_eq}
use Rattle.js_grammar.proofs.Frame.{append_end}
use Rattle.js_grammar.specs.Productions.{has_flag, shorthand_flag}
use Rattle.js_grammar.specs.Trees.{Label, Slots, end, tree, append, no_op, assignment_target_property_identifier, assignment_target_property_property}
use Rattle.parse_shared.specs.js_tree.declared.flags.NodeFlags.{NodeFlags}
use Rattle.parse_shared.specs.js_tree.declared.id.NodeId.{NodeId}
use Rattle.parse_shared.specs.js_tree.Labels.{number_of, with_bit}
use Rattle.parse_shared.specs.js_tree.Nodes.{Node, label, node_at}
use Rattle.parse_shared.specs.js_tree.Holding.{Stands, StandsAll, no_slots, next_child, next_hole, AreDistinct, AreWithin}
use Rattle.parse_shared.proofs.js_tree.HoldingLemmas.{Stands-within, Keeps-refl, Keeps-trans, Keeps-made, AreWithin-wider}
use Rattle.parse_targets.specs.declared.widening.Widening.{Widening}
use Rattle.parse_targets.specs.Targets.{is_made, IsIn, Stood, Two, in_literal, in_property, relabelled, initialiser_in, reference_slot, shorthand_slot, before_value, followed, named_slot, property_slot, property_places, element_slot, elements_in, places_in, Noted, unnoted, Blames, Slotted, Converted, converts, refuses, one_node, OfNode, Noded}
use Rattle.parse_targets.proofs.ConvertedNodes.{own_of, spots_at, within_left, within_right, made_of, refused_of, holds_node, noded_lies, noded_made, renoted, answer_as, ElementAnswer, PropertyAnswer}
use Rattle.parse_targets.proofs.ReusedNodes.{children_of, in_left, in_right, distinct_left, distinct_right, distinct_apart, slotted_on, slotted_hole, slotted_wider, slotted_old, slotted_node}

-- ---- the flag of a shorthand

eighth : (a b c : Bool) (n : ℕ) → with_bit a (with_bit b (with_bit c n)) / 8 ≡ n
eighth true true true n = omega arith
eighth true true false n = omega arith
eighth true false true n = omega arith
eighth true false false n = omega arith
eighth false true true n = omega arith
eighth false true false n = omega arith
eighth false false true n = omega arith
eighth false false false n = omega arith

lowest : (b : Bool) (n : ℕ) → nat_eq (with_bit b n % 2) 1 ≡ b
lowest true n = let e : (1 + 2 * n) % 2 ≡ 1 = omega arith in rw e refl
lowest false n = let e : (2 * n) % 2 ≡ 0 = omega arith in rw e refl

pub shorthand_told : (f : NodeFlags) → has_flag shorthand_flag (number_of f) ≡ f.shorthand
shorthand_told f = ap (λ (n : ℕ). nat_eq (n % 2) 1) (eighth f.prefix f.optional f.computed _) ∙ lowest f.shorthand _

-- ---- numbers of nodes among others

-- the slots behind a name that is a property alone
record Reference (os : List Node) (r : NodeId) (third : Option NodeId) (us : Slots) (qs : List ℕ) : Type 0 where
  slots : Slots
  is : (l : Label) → reference_slot l us ≡ Some (tree (relabelled assignment_target_property_identifier l) slots end)
  slotted : Slotted os os qs (Some r ∷ third ∷ []) slots

-- the slots of such a property
record Shorthand (os : List Node) (r : NodeId) (third : Option NodeId) (cs : Slots) (rs : List ℕ) : Type 0 where
  slots : Slots
  is : (l : Label) → shorthand_slot l cs ≡ Some (tree (relabelled assignment_target_property_identifier l) slots end)
  slotted : Slotted os os rs (Some r ∷ third ∷ []) slots

module _ {os : List Node} where
  -- a node and then others, of which it is known where they stand
  both_slotted : {ps qs : List ℕ} {ids js : List (Option NodeId)} {us vs : Slots} → AreDistinct (ps ++ qs) → AreWithin 0 (length os) (ps ++ qs) → Slotted os os ps ids us → Slotted os os qs js vs → Slotted os os (ps ++ qs) (ids ++ js) (append us vs)
  both_slotted {ps} {qs} d w x y = slotted_on (Keeps-refl os) (Keeps-refl os) (distinct_apart ps qs d) (within_left 0 (length os) ps qs w) (within_right 0 (length os) ps qs w) x y

  initialiser : {below : ℕ} {more : List (Option NodeId)} {us : Slots} {qs : List ℕ} → StandsAll os below more us qs → AreDistinct qs → Slotted os os qs (get_or more 0 None ∷ []) (initialiser_in us)
  initialiser no_slots d = slotted_hole os []
  initialiser (next_child {rs = ps} {ss = qs} b h a) d = slotted_old (in_left ps qs) h (distinct_left ps qs d)
  initialiser (next_hole a) d = slotted_hole os _

  reference : {below : ℕ} {ids : List (Option NodeId)} {us : Slots} {qs : List ℕ} (r : NodeId) → Some r ≡ get_or ids 0 None → StandsAll os below ids us qs → AreDistinct qs → AreWithin 0 (length os) qs → Reference os r (get_or ids 1 None) us qs
  reference r e no_slots d w = absurd (cc)
  reference r e (next_hole a) d w = absurd (cc)
  reference {below} r e (next_child {id = c} {ids = more} {l = l} {cs = cs} {us = us} {rs = ps} {ss = qs} b h a) d w =
      let q : c ≡ r = cc in
      subst (λ (v : NodeId). Reference os v (get_or more 0 None) (tree l cs us) (ps ++ qs)) q (record {
        slots = tree l cs (initialiser_in us);
        is = λ m. refl;
        slotted = both_slotted d w (slotted_old (λ n i. i) h (distinct_left ps qs d)) (initialiser a (distinct_right ps qs d));
      })

  shorthand : {below : ℕ} {ids : List (Option NodeId)} {cs : Slots} {rs : List ℕ} (r : NodeId) → Some r ≡ get_or ids 1 None → StandsAll os below ids cs rs → AreDistinct rs → AreWithin 0 (length os) rs → Shorthand os r (get_or ids 2 None) cs rs
  shorthand r e no_slots d w = absurd (cc)
  shorthand r e (next_child {rs = ps} {ss = qs} b h a) d w = let x = reference r e a (distinct_right ps qs d) (within_right 0 (length os) ps qs w) in record { slots = x.slots; is = x.is; slotted = slotted_wider (in_right ps qs) x.slotted }
  shorthand r e (next_hole a) d w = let x = reference r e a d w in record { slots = x.slots; is = x.is; slotted = x.slotted }

  -- no reference stands there
  unreferenced : {below : ℕ} {ids : List (Option NodeId)} {us : Slots} {qs : List ℕ} (l : Label) → None ≡ get_or ids 0 None → StandsAll os below ids us qs → reference_slot l us ≡ None
  unreferenced l e no_slots = refl
  unreferenced l e (next_hole a) = refl
  unreferenced l e (next_child b h a) = absurd (cc)

  no_shorthand : {below : ℕ} {ids : List (Option NodeId)} {cs : Slots} {rs : List ℕ} (l : Label) → None ≡ get_or ids 1 None → StandsAll os below ids cs rs → shorthand_slot l cs ≡ None
  no_shorthand l e no_slots = refl
  no_shorthand l e (next_child b h a) = unreferenced l e a
  no_shorthand l e (next_hole a) = unreferenced l e a

children_within : {os : List Node} {id : NodeId} {l : Label} {cs : Slots} {rs : List ℕ} (s : Stands os id.0 l cs rs) → AreWithin 0 (length os) (children_of {id = id} s).numbers
children_within {os} {id} {rs = rs} s =
    let k = children_of {id = id} s in
    (subst (λ (xs : List ℕ). AreWithin 0 (length os) xs) k.is (AreWithin-wider 0 (suc id.0) 0 (length os) rs (omega arith) (let b = k.below in omega arith) (Stands-within s))).2

abbrev pub ShorthandAnswer : List Node → List Node → NodeId → Option NodeId → Type 0
ShorthandAnswer os ns id found = OfNode os id (λ l cs rs. Converted os ns rs unnoted unnoted [] (one_node found) (shorthand_slot l cs))

-- the label of a property with a name and a target
abbrev pub named_label : Label → Label
named_label l = record { kind = assignment_target_property_property; op = no_op; flags = l.flags; span = l.span }

record TwoChildren (os : List Node) (below : ℕ) (a b : NodeId) (cs : Slots) (rs : List ℕ) : Type 0 where
  key : Label
  inside : Slots
  value : Label
  slots : Slots
  before : List ℕ
  behind : List ℕ
  is : cs ≡ tree key inside (tree value slots end)
  split : rs ≡ before ++ behind
  key_stands : Stands os a.0 key inside before
  value_stands : Stands os b.0 value slots behind
  less : b.0 < below

not_two : {os : List Node} {below : ℕ} {ids : List (Option NodeId)} {cs : Slots} {rs : List ℕ} → Two ids None → StandsAll os below ids cs rs → elements_in in_property cs ≡ None
not_two o no_slots = refl
not_two o (next_hole z) = refl
not_two o (next_child {l = k} {cs = ks} l h no_slots) = refl
not_two o (next_child {l = k} {cs = ks} l h (next_hole z)) = refl
not_two o (next_child l h (next_child l' h' no_slots)) = absurd (cc)
not_two o (next_child {l = k} {cs = ks} l h (next_child {l = m} {cs = ds} {us = us} l' h' (next_child m' k' z))) = refl
not_two o (next_child {l = k} {cs = ks} l h (next_child {l = m} {cs = ds} {us = us} l' h' (next_hole z))) = refl

named_none : (l : Label) (cs : Slots) → has_flag shorthand_flag l.flags ≡ false → elements_in in_property cs ≡ None → property_slot l cs (elements_in in_property cs) ≡ None
named_none l cs h e = rw (h, e) refl

some_pair : {x y : NodeId × NodeId} → Some x ≡ Some y → x ≡ y
some_pair e = cc

two_of : {os : List Node} {below : ℕ} {ids : List (Option NodeId)} {cs : Slots} {rs : List ℕ} (a b : NodeId) → Two ids (Some (a, b)) → StandsAll os below ids cs rs → TwoChildren os below a b cs rs
two_of a b o no_slots = absurd (cc)
two_of a b o (next_hole z) = absurd (cc)
two_of a b o (next_child l h no_slots) = absurd (cc)
two_of a b o (next_child l h (next_hole z)) = absurd (cc)
two_of a b o (next_child l h (next_child l' h' (next_child m k z))) = absurd (cc)
two_of a b o (next_child l h (next_child l' h' (next_hole z))) = absurd (cc)
two_of {os} {below} a b o (next_child {id = i} {l = k} {cs = ks} {rs = ps} l h (next_child {id = j} {l = m} {cs = ds} {rs = qs} l' h' no_slots)) =
    let w : (a, b) ≡ (i, j) = some_pair o in
    let e : i ≡ a = sym (ap (λ p. p.0) w) in
    let g : j ≡ b = sym (ap (λ p. p.1) w) in
    subst (λ (v : NodeId). TwoChildren os below v b (tree k ks (tree m ds end)) (ps ++ (qs ++ []))) e (subst (λ (v : NodeId). TwoChildren os below i v (tree k ks (tree m ds end)) (ps ++ (qs ++ []))) g (record { key = k; inside = ks; value = m; slots = ds; before = ps; behind = qs; is = refl; split = ap (λ (xs : List ℕ). ps ++ xs) (append-nil qs); key_stands = h; value_stands = h'; less = l' }))

followed_none : (k m : Label) (ks ds : Slots) (r : Option Slots) → r ≡ None → before_value k ks (tree m ds end) (followed r end) ≡ None
followed_none k m ks ds r e = ap (λ (v : Option Slots). before_value k ks (tree m ds end) (followed v end)) e

followed_some : (k m : Label) (ks ds vs : Slots) (r : Option Slots) → r ≡ Some vs → before_value k ks (tree m ds end) (followed r end) ≡ Some (tree k ks vs)
followed_some k m ks ds vs r e = ap (λ (v : Option Slots). before_value k ks (tree m ds end) (followed v end)) e ∙ ap (λ (us : Slots). Some (tree k ks us)) (append_end vs)

places_here : (l : Label) (ws : List Widening) → has_flag shorthand_flag l.flags ≡ false → ws ≡ property_places l ws
places_here l ws h = rw h refl

named_here : (l : Label) (cs ts : Slots) → has_flag shorthand_flag l.flags ≡ false → elements_in in_property cs ≡ Some ts → property_slot l cs (elements_in in_property cs) ≡ named_slot l (Some ts)
named_here l cs ts h e = rw (h, e) refl

module _ {os : List Node} {id : NodeId} where
  pub shorthand_none : None ≡ get_or (node_at os id).children 1 None → ShorthandAnswer os os id None
  shorthand_none e = λ l cs rs s d. refuses (record { keeps = Keeps-refl os; lies = λ text h. h; made = λ j h. h; is = no_shorthand l e (children_of {id = id} s).stands; blames = inl refl })

  pub shorthand_made : {ns : List Node} {r made : NodeId} {third : Option NodeId} → Some r ≡ get_or (node_at os id).children 1 None → third ≡ get_or (node_at os id).children 2 None → Noded os ns (relabelled assignment_target_property_identifier (label (node_at os id))) (Some r ∷ third ∷ []) made → ShorthandAnswer os ns id (Some made)
  shorthand_made {ns} {r} {made} {third} e g n = λ l cs rs s d.
      let k = children_of {id = id} s in
      let x = shorthand r e k.stands (subst AreDistinct k.is d).1 (children_within {id = id} s) in
      let y = subst (λ (t : Option NodeId). Slotted os os k.numbers (Some r ∷ t ∷ []) x.slots) (sym g) x.slotted in
      converts (record {
        keeps = Keeps-made (n.made);
        lies = λ text w. noded_lies os id n k.below refl text w w;
        made = λ j w. noded_made n refl j w;
        slots = tree (relabelled assignment_target_property_identifier l) x.slots end;
        is = x.is l;
        slotted = subst (λ (m : Label). Slotted os ns rs (Some made ∷ []) (tree (relabelled assignment_target_property_identifier m) x.slots end)) (sym k.label_is) (slotted_node (Keeps-refl os) (slotted_wider (λ q i. subst (λ (xs : List ℕ). IsIn xs q) (sym k.is) (inr i)) y) n);
        places_are = refl;
        unblamed = refl;
      })

  -- as what a property is converted to
  flag_here : {f : NodeFlags} {b : Bool} {l : Label} {cs : Slots} {rs : List ℕ} → f ≡ (node_at os id).flags → f.shorthand ≡ b → Stands os id.0 l cs rs → has_flag shorthand_flag l.flags ≡ b
  flag_here {f} e h s = ap (λ (m : Label). has_flag shorthand_flag m.flags) (children_of {id = id} s).label_is ∙ (ap (λ (g : NodeFlags). has_flag shorthand_flag (number_of g)) (sym e) ∙ (shorthand_told f ∙ h))

  pub property_shorthand : {ns : List Node} {noted : Noted} {f : NodeFlags} (found : Option NodeId) → f ≡ (node_at os id).flags → f.shorthand ≡ true → ShorthandAnswer os ns id found → PropertyAnswer os ns id noted noted found
  property_shorthand found e h v = λ l cs rs s d. let b = flag_here e h s in answer_as (one_node found) (rw b refl) (rw b refl) (renoted (one_node found) (v l cs rs s d))

  -- ---- a name and a value

  pub property_without : {noted : Noted} {f : NodeFlags} → f ≡ (node_at os id).flags → f.shorthand ≡ false → Two (node_at os id).children None → PropertyAnswer os os id noted noted None
  property_without e h o = λ l cs rs s d. refuses (record { keeps = Keeps-refl os; lies = λ text h. h; made = λ j h. h; is = named_none l cs (flag_here e h s) (not_two o (children_of {id = id} s).stands); blames = inl refl })

  module _ (a b : NodeId) (o : Two (node_at os id).children (Some (a, b))) where
    two : {l : Label} {cs : Slots} {rs : List ℕ} (s : Stands os id.0 l cs rs) → TwoChildren os id.0 a b cs (children_of {id = id} s).numbers
    two s = two_of a b o (children_of {id = id} s).stands

    value_distinct : {l : Label} {cs : Slots} {rs : List ℕ} (s : Stands os id.0 l cs rs) → AreDistinct rs → AreDistinct ((two s).before ++ (two s).behind)
    value_distinct s d = subst AreDistinct (two s).split (subst AreDistinct (children_of {id = id} s).is d).1

    pub value_stood : Stood os id → Stood os b
    value_stood w =
        let x = two (w.holds).stands in
        record { lo = 0; hi = suc b.0; label = x.value; slots = x.slots; holds = holds_node {id = b} x.value_stands (distinct_right x.before x.behind (value_distinct (w.holds).stands (w.holds).distinct)) }

    pub value_less : Stood os id → b.0 < id.0
    value_less w = (two (w.holds).stands).less

    -- its value as a target
    value_slots : {l : Label} {cs : Slots} {rs : List ℕ} (s : Stands os id.0 l cs rs) → elements_in in_property cs ≡ before_value (two s).key (two s).inside (tree (two s).value (two s).slots end) (elements_in (in_literal false) (tree (two s).value (two s).slots end))
    value_slots s = ap (elements_in in_property) (two s).is

    value_places : {l : Label} {cs : Slots} {rs : List ℕ} (s : Stands os id.0 l cs rs) → places_in in_property cs ≡ spots_at false (two s).value (two s).slots
    value_places s = ap (places_in in_property) (two s).is ∙ append-nil (spots_at false (two s).value (two s).slots)

    pub property_refused : {ns : List Node} {noted notes : Noted} {f : NodeFlags} → f ≡ (node_at os id).flags → f.shorthand ≡ false → ElementAnswer false os ns b true noted notes None → PropertyAnswer os ns id noted notes None
    property_refused {noted = noted} {notes} e h v = λ l cs rs s d.
        let x = two s in
        let y = refused_of (v x.value x.slots x.behind x.value_stands (distinct_right x.before x.behind (value_distinct s d))) in
        let g = flag_here e h s in
        refuses (record {
          keeps = y.keeps;
          lies = y.lies;
          made = y.made;
          is = named_none l cs g (value_slots s ∙ followed_none x.key x.value x.inside x.slots (element_slot true x.value x.slots (own_of x.value x.slots)) y.is);
          blames = subst (λ (ws : List Widening). Blames ws noted notes) (sym (value_places s) ∙ places_here l (places_in in_property cs) g) y.blames;
        })

    pub property_made : {ns ms : List Node} {noted notes : Noted} {f : NodeFlags} {slot : Option NodeId} {made : NodeId} {t : Label} → f ≡ (node_at os id).flags → f.shorthand ≡ false → ElementAnswer false os ns b true noted notes (Some slot) → Noded ns ms t (Some a ∷ slot ∷ []) made → t ≡ named_label (label (node_at os id)) → PropertyAnswer os ms id noted notes (Some made)
    property_made {ns} {ms} {noted} {notes} {f} {slot} {made} {t} e h v n q = λ l cs rs s d.
        let k = children_of {id = id} s in
        let x = two s in
        let u = value_distinct s d in
        let z = subst (λ (xs : List ℕ). AreWithin 0 (length os) xs) x.split (children_within {id = id} s) in
        let y = made_of (v x.value x.slots x.behind x.value_stands (distinct_right x.before x.behind u)) in
        let g = flag_here e h s in
        let w : t ≡ named_label l = q ∙ ap named_label (sym k.label_is) in
        let own : Slotted os ns (x.before ++ x.behind) (Some a ∷ slot ∷ []) (tree x.key x.inside y.slots) = slotted_on (Keeps-refl os) y.keeps (distinct_apart x.before x.behind u) (within_left 0 (length os) x.before x.behind z) (within_right 0 (length os) x.before x.behind z) (slotted_old (λ r i. i) x.key_stands (distinct_left x.before x.behind u)) y.slotted in
        let all : Slotted os ns rs (Some a ∷ slot ∷ []) (tree x.key x.inside y.slots) = slotted_wider (λ r i. subst (λ (xs : List ℕ). IsIn xs r) (sym k.is) (inr (subst (λ (xs : List ℕ). IsIn xs r) (sym x.split) i))) own in
        converts (record {
          keeps = Keeps-trans y.keeps (Keeps-made (n.made));
          lies = λ text w. noded_lies os id n k.below (ap (λ (m : Label). m.span) q) text w (y.lies text w);
          made = λ j w. noded_made n (ap (λ (m : Label). is_made m.kind) q) j (y.made j w);
          slots = tree (named_label l) (tree x.key x.inside y.slots) end;
          is = named_here l cs (tree x.key x.inside y.slots) g (value_slots s ∙ followed_some x.key x.value x.inside x.slots y.slots (element_slot true x.value x.slots (own_of x.value x.slots)) y.is);
          slotted = subst (λ (m : Label). Slotted os ms rs (Some made ∷ []) (tree m (tree x.key x.inside y.slots) end)) w (slotted_node y.keeps all n);
          places_are = y.places_are ∙ ap (λ (ws : List Widening). noted.places ++ ws) (sym (value_places s) ∙ places_here l (places_in in_property cs) g);
          unblamed = y.unblamed;
        })
