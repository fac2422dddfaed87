-- The walk over a tree finds the nodes that add something, in the order of their ends.
use Rattle.std.proofs.Common.{◌≡◌, ℕ, ◌<◌, Bool, true, false, cond, List, [], ◌∷◌, ◌++◌, Option, Some, None, length, nat_lt, refl, ap, sym, ◌∙◌, subst, arith, append_assoc, append-nil, lt-ltb}
use Rattle.js_grammar.specs.Modules.{adds, itself, found_in, by_end, in_order_of_ends}
use Rattle.js_grammar.specs.Trees.{Label, Slots, Tree}
use Rattle.js_tree.specs.declared.id.NodeId.{NodeId}
use Rattle.js_tree.specs.Holding.{Stands, stands, StandsAll, no_slots, next_child, next_hole}
use Rattle.js_tree.specs.Nodes.{Node, node_at}
use Rattle.js_tree.specs.Parts.{below_all}
use Rattle.js_tree.proofs.WeightLemmas.{stack_weight, stack_weight-append}
use Rattle.js_tree.proofs.CountLemmas.{children_lighter}
use Rattle.js_record.specs.Walked.{forward, AreFound, none_found, kept_before}

-- ---- the walk ends

forward_weight : (ns : List Node) (b : ℕ) (ids : List (Option NodeId)) → stack_weight ns (forward b ids) ≡ stack_weight ns (below_all b ids)
forward_weight ns b [] = refl
forward_weight ns b (None ∷ ids) = forward_weight ns b ids
forward_weight ns b (Some id ∷ ids) =
    let one = cond (nat_lt id.0 b) (id ∷ []) [] in
    let e = stack_weight-append ns one (forward b ids) in
    let f = stack_weight-append ns (below_all b ids) one in
    let h = forward_weight ns b ids in
    omega arith

-- the children of a node weigh less than it does
pub forward_lighter : (ns : List Node) (ps : List NodeId) (id : NodeId) → stack_weight ns (ps ++ forward id.0 (node_at ns id).children) < stack_weight ns (ps ++ id ∷ [])
forward_lighter ns ps id =
    let a = stack_weight-append ns ps (forward id.0 (node_at ns id).children) in
    let b = stack_weight-append ns ps (below_all id.0 (node_at ns id).children) in
    let e = forward_weight ns id.0 (node_at ns id).children in
    let h = children_lighter ns ps id in
    omega arith

-- ---- what the stack holds, from its bottom to its top

-- what a node and its slots add
abbrev all_of : Label → Slots → List Tree
all_of l cs = found_in cs ++ itself l cs

pub record Means (ns : List Node) (id : NodeId) (ts : List Tree) : Type 0 where
  pub label : Label
  pub slots : Slots
  pub numbers : List ℕ
  pub stands : Stands ns id.0 label slots numbers
  pub is : ts ≡ all_of label slots

pub data Ahead (ns : List Node) : List NodeId → List Tree → Type 0 where
  none_ahead : {ts : List Tree} → ts ≡ [] → Ahead ns [] ts
  next_ahead : {id : NodeId} {ids : List NodeId} {ts : List Tree} (us vs : List Tree) → Means ns id us → Ahead ns ids vs → ts ≡ us ++ vs → Ahead ns (id ∷ ids) ts

ahead_more : {ns : List Node} (ps : List NodeId) (qs : List NodeId) (ts us : List Tree) → Ahead ns ps ts → Ahead ns qs us → Ahead ns (ps ++ qs) (ts ++ us)
ahead_more {ns} [] qs ts us (none_ahead e) b = subst (λ (v : List Tree). Ahead ns qs v) (ap (λ (v : List Tree). v ++ us) (sym e)) b
ahead_more (p ∷ ps) qs ts us (next_ahead vs ws m a e) b = next_ahead vs (ws ++ us) m (ahead_more ps qs ws us a b) (ap (λ (v : List Tree). v ++ us) e ∙ append_assoc vs ws us)

record Popped (ns : List Node) (ps : List NodeId) (p : NodeId) (ts : List Tree) : Type 0 where
  rest : List Tree
  own : List Tree
  means : Means ns p own
  ahead : Ahead ns ps rest
  whole : ts ≡ rest ++ own

popped : {ns : List Node} (ps : List NodeId) (p : NodeId) (ts : List Tree) → Ahead ns (ps ++ p ∷ []) ts → Popped ns ps p ts
popped [] p ts (next_ahead us vs m (none_ahead e) q) = record { rest = []; own = us; means = m; ahead = none_ahead refl; whole = q ∙ ap (λ (v : List Tree). us ++ v) e ∙ append-nil us }
popped (o ∷ ps) p ts (next_ahead us vs m a q) =
    let x = popped ps p vs a in
    record { rest = us ++ x.rest; own = x.own; means = x.means; ahead = next_ahead us x.rest m x.ahead refl; whole = q ∙ ap (λ (v : List Tree). us ++ v) x.whole ∙ sym (append_assoc us x.rest x.own) }

-- children on the stack
children_ahead : {ns : List Node} {b : ℕ} {ids : List (Option NodeId)} {cs : Slots} {rs : List ℕ} → StandsAll ns b ids cs rs → Ahead ns (forward b ids) (found_in cs)
children_ahead no_slots = none_ahead refl
children_ahead {ns} {b} (next_child {id = id} {ids = ids} {l = l} {cs = cs} {us = us} {rs = rs} w h a) =
    rw (lt-ltb id.0 b w) (next_ahead (all_of l cs) (found_in us) (record { label = l; slots = cs; numbers = rs; stands = h; is = refl }) (children_ahead a) (sym (append_assoc (found_in cs) (itself l cs) (found_in us))))
children_ahead (next_hole a) = children_ahead a

-- ---- the order of ends

by_itself : (l : Label) (cs : Slots) (ts : List Tree) → in_order_of_ends (itself l cs ++ ts) ≡ kept_before l cs (in_order_of_ends ts)
by_itself l cs ts = go (adds l.kind)
  where
    go : (b : Bool) → in_order_of_ends (cond b (record { label = l; slots = cs } ∷ []) [] ++ ts) ≡ cond b (by_end (record { label = l; slots = cs }) (in_order_of_ends ts)) (in_order_of_ends ts)
    go true = refl
    go false = refl

-- ---- the walk

-- what the stack holds is still to be looked at, and of what was looked at the numbers were kept
pub record Walked (ns : List Node) (ps : List NodeId) (found : List NodeId) (whole : List Tree) : Type 0 where
  pub front : List Tree
  pub past : List Tree
  pub ahead : Ahead ns ps front
  pub kept : AreFound ns found (in_order_of_ends past)
  pub parts : whole ≡ front ++ past

pub walked_start : {ns : List Node} {b : ℕ} {ids : List (Option NodeId)} {cs : Slots} {rs : List ℕ} → StandsAll ns b ids cs rs → Walked ns (forward b ids) [] (found_in cs)
walked_start {cs = cs} a = record { front = found_in cs; past = []; ahead = children_ahead a; kept = none_found refl; parts = sym (append-nil (found_in cs)) }

pub walked_below : {ns : List Node} {whole : List Tree} (ps : List NodeId) (id : NodeId) (found : List NodeId) → Walked ns (ps ++ id ∷ []) found whole → id.0 < length ns
walked_below ps id found w = below (popped ps id w.front w.ahead).means.stands
  where
    below : {ns : List Node} {i : ℕ} {l : Label} {cs : Slots} {rs : List ℕ} → Stands ns i l cs rs → i < length ns
    below (stands i w all) = w

opened : {ns : List Node} {l : Label} {cs : Slots} {rs : List ℕ} (id : NodeId) (n : ℕ) → id.0 ≡ n → Stands ns n l cs rs → Ahead ns (forward id.0 (node_at ns id).children) (found_in cs)
opened {ns} id n e (stands {cs} {rs} m h a) = rw e (children_ahead a)

pub walked_step : {ns : List Node} (ps : List NodeId) (id : NodeId) (found found' : List NodeId) (whole : List Tree)
    → ((l : Label) (cs : Slots) (rs : List ℕ) → Stands ns id.0 l cs rs → (ts : List Tree) → AreFound ns found ts → AreFound ns found' (kept_before l cs ts))
    → Walked ns (ps ++ id ∷ []) found whole → Walked ns (ps ++ forward id.0 (node_at ns id).children) found' whole
walked_step {ns} ps id found found' whole k w =
    let x = popped ps id w.front w.ahead in
    let m = x.means in
    record {
      front = x.rest ++ found_in m.slots;
      past = itself m.label m.slots ++ w.past;
      ahead = ahead_more ps (forward id.0 (node_at ns id).children) x.rest (found_in m.slots) x.ahead (opened id id.0 refl m.stands);
      kept = subst (λ (v : List Tree). AreFound ns found' v) (sym (by_itself m.label m.slots w.past)) (k m.label m.slots m.numbers m.stands (in_order_of_ends w.past) w.kept);
      parts = w.parts ∙ ap (λ (v : List Tree). v ++ w.past) (x.whole ∙ ap (λ (v : List Tree). x.rest ++ v) m.is) ∙ regrouped x.rest (found_in m.slots) (itself m.label m.slots) w.past;
    }
  where
    regrouped : (a b c d : List Tree) → (a ++ (b ++ c)) ++ d ≡ (a ++ b) ++ (c ++ d)
    regrouped a b c d = simp append_assoc

pub walked_end : {ns : List Node} (found : List NodeId) (whole : List Tree) → Walked ns [] found whole → AreFound ns found (in_order_of_ends whole)
walked_end {ns} found whole w = subst (λ (v : List Tree). AreFound ns found (in_order_of_ends v)) (sym (w.parts ∙ ap (λ (v : List Tree). v ++ w.past) (nothing w.front w.ahead))) w.kept
  where
    nothing : (ts : List Tree) → Ahead ns [] ts → ts ≡ []
    nothing ts (none_ahead e) = e
