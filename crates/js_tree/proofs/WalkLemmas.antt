-- The walk over the nodes: it ends, and what it has written and what is still to be written make up the lines of the tree.
use Rattle.std.proofs.Common.{◌≡◌, ℕ, zero, suc, ◌+◌, ◌<◌, ◌≤◌, Bool, true, false, cond, List, [], ◌∷◌, ◌++◌, length, Option, Some, None, slice_get, get_or, drop, nat_lt, refl, ap, sym, ◌∙◌, arith, append_assoc, append-nil, ltb-true, lt-ltb, add-one, length-append, nat_eq, ◌%◌, ◌/◌}
use Rattle.js_grammar.specs.Trees.{Label, Slots, Tree}
use Rattle.js_grammar.specs.Lines.{label_text, indent, slots_text, tree_text, words_of, flag_words}
use Rattle.std.proofs.lemmas.List.{drop_more}
use Rattle.js_tree.specs.declared.id.NodeId.{NodeId}
use Rattle.js_tree.specs.declared.lines.PendingSlot.{PendingSlot}
use Rattle.js_tree.specs.Nodes.{Node, label, node_at, empty_program}
use Rattle.js_tree.specs.Holding.{Stands, stands, StandsAll, no_slots, next_child, next_hole, IsTree}
use Rattle.js_tree.specs.Walking.{text_at, line_at, pending, slot_within, within}
use Rattle.js_tree.proofs.StackLemmas.{Stacked, bottom, Stacked-push, Stacked-pop, Stacked-none}
use Rattle.js_tree.proofs.WeightLemmas.{weight, slots_weight, weight-le}

-- ---- the walk ends

abbrev pub slot_weight : List Node → Option NodeId → ℕ
slot_weight ns None = 1
slot_weight ns (Some id) = weight ns id.0 id.0

abbrev pub slots_left : List Node → List PendingSlot → ℕ
slots_left ns [] = 0
slots_left ns (p ∷ ps) = slot_weight ns p.slot + slots_left ns ps

slots_left-append : (ns : List Node) (ps qs : List PendingSlot) → slots_left ns (ps ++ qs) ≡ slots_left ns ps + slots_left ns qs
slots_left-append ns [] qs = omega arith
slots_left-append ns (p ∷ ps) qs = let e = slots_left-append ns ps qs in omega arith

one_left : (ns : List Node) (t : Bool) (d : ℕ) (id : NodeId) (m : ℕ) → (t ≡ true → weight ns id.0 id.0 ≤ m) → slots_left ns (cond t (record { depth = d; slot = Some id } ∷ []) []) ≤ m
one_left ns true d id m h = let e = h refl in omega arith
one_left ns false d id m h = omega arith

pending_none : (ns : List Node) (d : ℕ) (ss : List (Option NodeId)) → slots_left ns (pending d 0 ss) ≤ slots_weight (λ _. 0) ss
pending_none ns d [] = omega arith
pending_none ns d (None ∷ ss) = let e = slots_left-append ns (pending d 0 ss) (record { depth = d; slot = None } ∷ []) in let h = pending_none ns d ss in omega arith
pending_none ns d (Some id ∷ ss) = let e = slots_left-append ns (pending d 0 ss) (cond (nat_lt id.0 0) (record { depth = d; slot = Some id } ∷ []) []) in let h = pending_none ns d ss in let o = one_left ns (nat_lt id.0 0) d id 0 (λ (t : nat_lt id.0 0 ≡ true). let w = ltb-true id.0 0 t in absurd (omega arith)) in omega arith

pending_weight : (ns : List Node) (d k : ℕ) (ss : List (Option NodeId)) → slots_left ns (pending d (suc k) ss) ≤ slots_weight (weight ns k) ss
pending_weight ns d k [] = omega arith
pending_weight ns d k (None ∷ ss) = let e = slots_left-append ns (pending d (suc k) ss) (record { depth = d; slot = None } ∷ []) in let h = pending_weight ns d k ss in omega arith
pending_weight ns d k (Some id ∷ ss) = let e = slots_left-append ns (pending d (suc k) ss) (cond (nat_lt id.0 (suc k)) (record { depth = d; slot = Some id } ∷ []) []) in let h = pending_weight ns d k ss in let o = one_left ns (nat_lt id.0 (suc k)) d id (weight ns k id.0) (λ (t : nat_lt id.0 (suc k) ≡ true). let w = ltb-true id.0 (suc k) t in weight-le ns id.0 id.0 k (omega arith)) in omega arith

node_lighter : (ns : List Node) (d id : ℕ) → slots_left ns (pending (d + 1) id (get_or ns id empty_program).children) < weight ns id id
node_lighter ns d zero = let h = pending_none ns (d + 1) (get_or ns 0 empty_program).children in omega arith
node_lighter ns d (suc k) = let h = pending_weight ns (d + 1) k (get_or ns (suc k) empty_program).children in omega arith

slot_lighter : (ns : List Node) (d : ℕ) (s : Option NodeId) → slots_left ns (slot_within ns d s) < slot_weight ns s
slot_lighter ns d None = omega arith
slot_lighter ns d (Some id) = node_lighter ns d id.0

-- the slots within a slot weigh less than it does
pub within_lighter : (ns : List Node) (ps : List PendingSlot) (p : PendingSlot) → slots_left ns (ps ++ within ns p) < slots_left ns (ps ++ p ∷ [])
within_lighter ns ps p = let a = slots_left-append ns ps (within ns p) in let b = slots_left-append ns ps (p ∷ []) in let h = slot_lighter ns p.depth p.slot in omega arith

-- ---- what it writes

-- the lines of a slot and of what stands within it
pub data SlotMeans (ns : List Node) (d : ℕ) : Option NodeId → List ℕ → Type 0 where
  a_hole : {v : List ℕ} → v ≡ indent d ++ (45 ∷ 10 ∷ []) → SlotMeans ns d None v
  a_node : {id : NodeId} {v : List ℕ} (l : Label) (cs : Slots) (rs : List ℕ) → Stands ns id.0 l cs rs → v ≡ indent d ++ (label_text l ++ (10 ∷ slots_text (suc d) cs)) → SlotMeans ns d (Some id) v

abbrev pub Means : List Node → PendingSlot → List ℕ → Type 0
Means ns p v = SlotMeans ns p.depth p.slot v

node_before : (a b s t u : List ℕ) → (a ++ (b ++ (10 ∷ s))) ++ (t ++ u) ≡ (a ++ (b ++ (10 ∷ (s ++ t)))) ++ u
node_before a b s t u = simp append_assoc

hole_before : (a t u : List ℕ) → (a ++ (45 ∷ 10 ∷ [])) ++ (t ++ u) ≡ (a ++ (45 ∷ (10 ∷ t))) ++ u
hole_before a t u = simp append_assoc

-- slots on the stack
pending_stacked : {ns : List Node} {b : ℕ} {ids : List (Option NodeId)} {cs : Slots} {rs : List ℕ} (d : ℕ) (ps : List PendingSlot) (u : List ℕ) → StandsAll ns b ids cs rs → Stacked (Means ns) ps u → Stacked (Means ns) (ps ++ pending d b ids) (slots_text d cs ++ u)
pending_stacked d ps u no_slots r = rw append-nil r
pending_stacked {ns} {b} d ps u (next_child {id = id} {ids = ids} {l = l} {cs = cs} {us = us} {rs = rs} {ss = ss} w h a) r =
    let p : PendingSlot = record { depth = d; slot = Some id } in
    let s = Stacked-push (ps ++ pending d b ids) p (slots_text d us ++ u) (indent d ++ (label_text l ++ (10 ∷ slots_text (suc d) cs))) (pending_stacked d ps u a r) (a_node l cs rs h refl) in
    rw (lt-ltb id.0 b w, ← append_assoc ps (pending d b ids) (p ∷ []), ← node_before (indent d) (label_text l) (slots_text (suc d) cs) (slots_text d us) u) s
pending_stacked {ns} {b} d ps u (next_hole {ids = ids} {us = us} a) r =
    let p : PendingSlot = record { depth = d; slot = None } in
    let s = Stacked-push (ps ++ pending d b ids) p (slots_text d us ++ u) (indent d ++ (45 ∷ 10 ∷ [])) (pending_stacked d ps u a r) (a_hole refl) in
    rw (← append_assoc ps (pending d b ids) (p ∷ []), ← hole_before (indent d) (slots_text d us) u) s

-- what the stack holds is this line, and then what the next stack holds
pub record Entered (ns : List Node) (ps : List PendingSlot) (line t : List ℕ) : Type 0 where
  pub rest : List ℕ
  pub stacked : Stacked (Means ns) ps rest
  pub parts : t ≡ line ++ rest

node_first : (a b s u : List ℕ) → (a ++ (b ++ (10 ∷ s))) ++ u ≡ (a ++ (b ++ 10 ∷ [])) ++ (s ++ u)
node_first a b s u = simp append_assoc

open_node : {ns : List Node} {l : Label} {cs : Slots} {rs : List ℕ} (d : ℕ) (id : NodeId) (n : ℕ) (ps : List PendingSlot) (u v : List ℕ) → id.0 ≡ n → Stands ns n l cs rs → v ≡ indent d ++ (label_text l ++ (10 ∷ slots_text (suc d) cs)) → Stacked (Means ns) ps u → Entered ns (ps ++ slot_within ns d (Some id)) (indent d ++ (text_at ns (Some id) ++ 10 ∷ [])) (v ++ u)
open_node {ns} d id n ps u v e (stands {cs} {rs} m h a) q r =
    rw (e, lt-ltb m (length ns) h, add-one) record {
      rest = slots_text (suc d) cs ++ u;
      stacked = pending_stacked (suc d) ps u a r;
      parts = ap (λ (w : List ℕ). w ++ u) q ∙ node_first (indent d) (label_text (label (get_or ns m empty_program))) (slots_text (suc d) cs) u;
    }

open_slot : {ns : List Node} (d : ℕ) (s : Option NodeId) (ps : List PendingSlot) (u v : List ℕ) → SlotMeans ns d s v → Stacked (Means ns) ps u → Entered ns (ps ++ slot_within ns d s) (indent d ++ (text_at ns s ++ 10 ∷ [])) (v ++ u)
open_slot d None ps u v (a_hole e) r = record { rest = u; stacked = rw append-nil r; parts = ap (λ (w : List ℕ). w ++ u) e }
open_slot d (Some id) ps u v (a_node l cs rs h e) r = open_node d id id.0 ps u v refl h e r

entered : {ns : List Node} (ps : List PendingSlot) (p : PendingSlot) (t : List ℕ) → Stacked (Means ns) (ps ++ p ∷ []) t → Entered ns (ps ++ within ns p) (line_at ns p) t
entered {ns} ps p t s =
    let x = Stacked-pop ps p t s in
    let y = open_slot p.depth p.slot ps x.rest x.own x.means x.stacked in
    record { rest = y.rest; stacked = y.stacked; parts = x.whole ∙ y.parts }

-- what is written and what the stack holds make up the whole
pub record Walked (ns : List Node) (ps : List PendingSlot) (out whole : List ℕ) : Type 0 where
  pub rest : List ℕ
  pub stacked : Stacked (Means ns) ps rest
  pub parts : whole ≡ out ++ rest

program : PendingSlot
program = record { depth = 0; slot = Some (record { 0 = 0 }) }

first_is : (ns : List Node) (p : Node) → slice_get ns 0 ≡ Some p → (get_or ns 0 empty_program ≡ p) × (nat_lt 0 (length ns) ≡ true)
first_is [] p e = absurd (let k = e in cc)
first_is (n ∷ ns) p e = let q : n ≡ p = cc in (q, lt-ltb 0 (suc (length ns)) (omega arith))

pub Walked-start : (ns : List Node) (t : Tree) → IsTree ns t → Walked ns (pending 1 (length ns) (node_at ns (record { 0 = 0 })).children) (line_at ns (record { depth = 0; slot = Some (record { 0 = 0 }) })) (tree_text t)
Walked-start ns t h =
    let f = first_is ns h.program h.first in
    let s = pending_stacked 1 [] [] (h.children).stands (bottom refl) in
    rw (f.0, f.1, h.label) record {
      rest = slots_text 1 t.slots ++ [];
      stacked = s;
      parts = sym (append_assoc (label_text (label h.program)) (10 ∷ []) (slots_text 1 t.slots ++ []));
    }

pub Walked-step : {ns : List Node} (ps : List PendingSlot) (p : PendingSlot) (out whole : List ℕ) → Walked ns (ps ++ p ∷ []) out whole → Walked ns (ps ++ within ns p) (out ++ line_at ns p) whole
Walked-step {ns} ps p out whole w =
    let y = entered ps p w.rest w.stacked in
    record { rest = y.rest; stacked = y.stacked; parts = w.parts ∙ ap (λ (x : List ℕ). out ++ x) y.parts ∙ sym (append_assoc out (line_at ns p) y.rest) }

pub Walked-end : {ns : List Node} (out whole : List ℕ) → Walked ns [] out whole → out ≡ whole
Walked-end out whole w = sym (append-nil out) ∙ ap (λ (x : List ℕ). out ++ x) (sym (Stacked-none w.stacked)) ∙ sym w.parts

-- the same, counted
pub record Counted (ns : List Node) (ps : List PendingSlot) (total : ℕ) (whole : List ℕ) : Type 0 where
  pub out : List ℕ
  pub walked : Walked ns ps out whole
  pub len : total ≡ length out

pub Counted-start : (ns : List Node) (t : Tree) (total : ℕ) → IsTree ns t → total ≡ length (line_at ns (record { depth = 0; slot = Some (record { 0 = 0 }) })) → Counted ns (pending 1 (length ns) (node_at ns (record { 0 = 0 })).children) total (tree_text t)
Counted-start ns t total h e = record { out = line_at ns (record { depth = 0; slot = Some (record { 0 = 0 }) }); walked = Walked-start ns t h; len = e }

pub Counted-step : {ns : List Node} (ps : List PendingSlot) (p : PendingSlot) (total more : ℕ) (whole : List ℕ) → more ≡ length (line_at ns p) → Counted ns (ps ++ p ∷ []) total whole → Counted ns (ps ++ within ns p) (total + more) whole
Counted-step {ns} ps p total more whole e c = record { out = c.out ++ line_at ns p; walked = Walked-step ps p c.out whole c.walked; len = let l = length-append c.out (line_at ns p) in let m = c.len in omega arith }

pub Counted-end : {ns : List Node} (total : ℕ) (whole : List ℕ) → Counted ns [] total whole → total ≡ length whole
Counted-end total whole c = c.len ∙ ap length (Walked-end c.out whole c.walked)

-- ---- flags

pub flags_step : (out start : List ℕ) (i bits rest : ℕ) (w : List ℕ) → i < 14 → w ≡ get_or flag_words i [] → out ++ words_of (drop i flag_words) rest ≡ start ++ words_of flag_words bits → (out ++ cond (nat_eq (rest % 2) 1) (32 ∷ w) []) ++ words_of (drop (i + 1) flag_words) (rest / 2) ≡ start ++ words_of flag_words bits
flags_step out start i bits rest w h e q =
    append_assoc out (cond (nat_eq (rest % 2) 1) (32 ∷ w) []) (words_of (drop (i + 1) flag_words) (rest / 2))
    ∙ ap (λ (x : List ℕ). out ++ (cond (nat_eq (rest % 2) 1) (32 ∷ x) [] ++ words_of (drop (i + 1) flag_words) (rest / 2))) e
    ∙ ap (λ (ws : List (List ℕ)). out ++ words_of ws rest) (sym (drop_more flag_words i [] h))
    ∙ q
