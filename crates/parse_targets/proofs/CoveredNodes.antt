-- The node of a target: that of the expression, or what stands in its parentheses.
use Rattle.std.proofs.Common.{ℕ, ◌≡◌, ◌<◌, Bool, true, false, cond, List, [], ◌∷◌, length, Option, Some, None, refl, ap, subst, arith, ◌∙◌, append-nil}
use Rattle.std.specs.Prelude.{get_or, slice_get}
use Rattle.js_grammar.specs.Trees.{Label, Slots, end, tree}
use Rattle.js_grammar.specs.TreeForms.{is_parenthesized}
use Rattle.parse_shared.specs.js_tree.declared.id.NodeId.{NodeId}
use Rattle.parse_shared.specs.js_tree.Nodes.{Node, label, node_at, empty_program}
use Rattle.parse_shared.specs.js_tree.Holding.{Stands, stands, StandsAll, no_slots, next_child, next_hole, AreWithin, AreDistinct, Holds}
use Rattle.parse_targets.specs.Targets.{is_target, target_in, target_of, TargetNode, IsTarget, Stood, Only}

pub label_at : {ns : List Node} {id : ℕ} {l : Label} {cs : Slots} {rs : List ℕ} → Stands ns id l cs rs → l ≡ label (get_or ns id empty_program)
label_at (stands id h a) = refl

pub label_of_node : {ns : List Node} {lo hi : ℕ} {id : NodeId} {l : Label} {cs : Slots} → Holds ns lo hi id.0 l cs → l ≡ label (node_at ns id)
label_of_node h = label_at h.stands

-- ---- the one child

pub record Child (ns : List Node) (lo hi below : ℕ) (cs : Slots) (c : NodeId) : Type 0 where
  pub label : Label
  pub slots : Slots
  pub is : cs ≡ tree label slots end
  pub holds : Holds ns lo hi c.0 label slots
  pub less : c.0 < below

child_in : {ns : List Node} {lo hi below : ℕ} {ids : List (Option NodeId)} {cs : Slots} {rs : List ℕ} (c : NodeId) → Only ids (Some c) → StandsAll ns below ids cs rs → AreWithin lo hi rs → AreDistinct rs → Child ns lo hi below cs c
child_in c o no_slots w d = absurd (cc)
child_in c o (next_hole a) w d = absurd (cc)
child_in {ns} {lo} {hi} {below} c o (next_child {id = i} {l = l} {cs = ds} {rs = rs} b h no_slots) w d =
    let e : i ≡ c = cc in
    subst (λ (v : NodeId). Child ns lo hi below (tree l ds end) v) e (record { label = l; slots = ds; is = refl; holds = record { numbers = rs; stands = h; within = subst (λ (vs : List ℕ). AreWithin lo hi vs) (append-nil rs) w; distinct = subst AreDistinct (append-nil rs) d }; less = b })
child_in c o (next_child b h (next_child b' h' a)) w d = absurd (cc)
child_in c o (next_child b h (next_hole a)) w d = absurd (cc)

child_at : {ns : List Node} {lo hi id : ℕ} {l : Label} {cs : Slots} {rs : List ℕ} (c : NodeId) → Only (get_or ns id empty_program).children (Some c) → Stands ns id l cs rs → AreWithin lo hi rs → AreDistinct rs → Child ns lo hi id cs c
child_at c o (stands id h a) w d = child_in c o a w.2 d.1

pub child_of : {ns : List Node} {lo hi : ℕ} {id : NodeId} {l : Label} {cs : Slots} (c : NodeId) → Only (node_at ns id).children (Some c) → Holds ns lo hi id.0 l cs → Child ns lo hi id.0 cs c
child_of c o h = child_at c o h.stands h.within h.distinct

none_in : {ns : List Node} {below : ℕ} {ids : List (Option NodeId)} {cs : Slots} {rs : List ℕ} → Only ids None → StandsAll ns below ids cs rs → target_in cs ≡ None
none_in o no_slots = refl
none_in o (next_hole a) = refl
none_in o (next_child b h no_slots) = absurd (cc)
none_in o (next_child b h (next_child b' h' a)) = refl
none_in o (next_child b h (next_hole a)) = refl

none_at : {ns : List Node} {id : ℕ} {l : Label} {cs : Slots} {rs : List ℕ} → Only (get_or ns id empty_program).children None → Stands ns id l cs rs → target_in cs ≡ None
none_at o (stands id h a) = none_in o a

-- ---- what is answered

pub open_parens : (l : Label) (cs : Slots) → is_parenthesized l.kind ≡ true → target_of l cs ≡ target_in cs
open_parens l cs p = rw p refl

pub empty_parens : {ns : List Node} {lo hi : ℕ} {id : NodeId} {l : Label} {cs : Slots} → Only (node_at ns id).children None → is_parenthesized (label (node_at ns id)).kind ≡ true → Holds ns lo hi id.0 l cs → target_of l cs ≡ None
empty_parens {l = l} {cs = cs} o p h = open_parens l cs (ap (λ (m : Label). is_parenthesized m.kind) (label_of_node h) ∙ p) ∙ none_at o h.stands

pub in_the_parens : {ns : List Node} {lo hi : ℕ} {id : NodeId} {l : Label} {cs : Slots} (c : NodeId) (r : Option NodeId) → Only (node_at ns id).children (Some c) → is_parenthesized (label (node_at ns id)).kind ≡ true → Holds ns lo hi id.0 l cs → ((m : Label) (ds : Slots) → Holds ns lo hi c.0 m ds → IsTarget ns lo hi m ds r) → IsTarget ns lo hi l cs r
in_the_parens {ns} {lo} {hi} {id} {l} {cs} c r o p h f =
    let x = child_of c o h in
    let e : target_of l cs ≡ target_of x.label x.slots = open_parens l cs (ap (λ (m : Label). is_parenthesized m.kind) (label_of_node h) ∙ p) ∙ ap target_in x.is in
    moved x.label x.slots r e (f x.label x.slots x.holds)
  where
    moved : (m : Label) (ds : Slots) (r : Option NodeId) → target_of l cs ≡ target_of m ds → IsTarget ns lo hi m ds r → IsTarget ns lo hi l cs r
    moved m ds (Some id) e t = record { tree = t.tree; is = e ∙ t.is; holds = t.holds }
    moved m ds None e t = e ∙ t

pub directly : (l : Label) (cs : Slots) (b : Bool) → is_parenthesized l.kind ≡ false → is_target l.kind ≡ b → target_of l cs ≡ cond b (Some (record { label = l; slots = cs })) None
directly l cs b p t = rw (p, t) refl

pub itself : {ns : List Node} {lo hi : ℕ} {id : NodeId} {l : Label} {cs : Slots} → is_parenthesized (label (node_at ns id)).kind ≡ false → is_target (label (node_at ns id)).kind ≡ true → Holds ns lo hi id.0 l cs → TargetNode ns lo hi l cs id
itself {l = l} {cs = cs} p t h = record { tree = record { label = l; slots = cs }; is = directly l cs true (ap (λ (m : Label). is_parenthesized m.kind) (label_of_node h) ∙ p) (ap (λ (m : Label). is_target m.kind) (label_of_node h) ∙ t); holds = h }

pub no_target : {ns : List Node} {lo hi : ℕ} {id : NodeId} {l : Label} {cs : Slots} → is_parenthesized (label (node_at ns id)).kind ≡ false → is_target (label (node_at ns id)).kind ≡ false → Holds ns lo hi id.0 l cs → target_of l cs ≡ None
no_target {l = l} {cs = cs} p t h = directly l cs false (ap (λ (m : Label). is_parenthesized m.kind) (label_of_node h) ∙ p) (ap (λ (m : Label). is_target m.kind) (label_of_node h) ∙ t)

pub child_stood : {ns : List Node} {id : NodeId} (c : NodeId) → Only (node_at ns id).children (Some c) → Stood ns id → Stood ns c
child_stood c o s = let x = child_of c o s.holds in record { lo = s.lo; hi = s.hi; label = x.label; slots = x.slots; holds = x.holds }

pub child_less : {ns : List Node} {id : NodeId} (c : NodeId) → Only (node_at ns id).children (Some c) → Stood ns id → c.0 < id.0
child_less c o s = (child_of c o s.holds).less

-- by the length of the children, and the first one
pub only_of : (ids : List (Option NodeId)) (r : Option NodeId) → length ids ≡ 1 → slice_get ids 0 ≡ Some r → Only ids r
only_of (Some id ∷ []) r l e = cc
only_of (None ∷ []) r l e = cc
only_of [] r l e = absurd (omega arith)
only_of (x ∷ y ∷ ids) r l e = absurd (omega arith)

pub not_only : (ids : List (Option NodeId)) → (length ids ≡ 1 → ⊥) → Only ids None
not_only (Some id ∷ []) n = absurd (n refl)
not_only (None ∷ []) n = refl
not_only [] n = refl
not_only (Some x ∷ y ∷ ids) n = refl
not_only (None ∷ y ∷ ids) n = refl
