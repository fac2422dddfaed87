-- The walk that finds the shorthands with an initialiser.
use Rattle.std.proofs.Common.{◌≡◌, ℕ, ◌<◌, Bool, true, false, cond, ◌&&◌, List, [], ◌∷◌, ◌++◌, length, map, Option, get_or, nat_lt, refl, ap, sym, ◌∙◌, subst, arith, lt-ltb, append_assoc, append-nil}
use Rattle.js_base.specs.declared.span.Span.{Span}
use Rattle.js_grammar.specs.Trees.{Label, Slots, Tree, Span as TreeSpan}
use Rattle.js_grammar.specs.CoverInitialisers.{is_shorthand, has_third, is_initialised, initialised_in}
use Rattle.js_tree.specs.declared.id.NodeId.{NodeId}
use Rattle.js_tree.specs.Nodes.{Node, label, node_at, empty_program}
use Rattle.js_tree.specs.Covering.{is_covering, placed}
use Rattle.js_tree.specs.Holding.{Stands, stands, StandsAll, no_slots, next_child, next_hole, IsTree}
use Rattle.js_tree.specs.Parts.{below_all}
use Rattle.js_tree.proofs.StackLemmas.{Stacked, bottom, Stacked-push, Stacked-pop, Stacked-none}
use Rattle.js_tree.proofs.CountLemmas.{first_is}
use Rattle.js_tree.proofs.HoldingLemmas.{Stands-below}

-- the spans in a node and its slots
abbrev pub spans_of : Label → Slots → List TreeSpan
spans_of l cs = cond (is_initialised l cs) (l.span ∷ []) [] ++ initialised_in cs

-- a number on the stack: the spans in what it stands for
pub record Means (ns : List Node) (id : NodeId) (v : List TreeSpan) : Type 0 where
  pub label : Label
  pub slots : Slots
  pub numbers : List ℕ
  pub stands : Stands ns id.0 label slots numbers
  pub is : v ≡ spans_of label slots

-- as many slots as children
pub third_is : {ns : List Node} {b : ℕ} {ids : List (Option NodeId)} {cs : Slots} {rs : List ℕ} → StandsAll ns b ids cs rs → has_third cs ≡ nat_lt 2 (length ids)
third_is no_slots = refl
third_is (next_child b h no_slots) = refl
third_is (next_hole no_slots) = refl
third_is (next_child b h (next_child c i no_slots)) = refl
third_is (next_child b h (next_hole no_slots)) = refl
third_is (next_hole (next_child c i no_slots)) = refl
third_is (next_hole (next_hole no_slots)) = refl
third_is (next_child b h (next_child c i (next_child d j a))) = sym (lt-ltb 2 _ (omega arith))
third_is (next_child b h (next_child c i (next_hole a))) = sym (lt-ltb 2 _ (omega arith))
third_is (next_child b h (next_hole (next_child d j a))) = sym (lt-ltb 2 _ (omega arith))
third_is (next_child b h (next_hole (next_hole a))) = sym (lt-ltb 2 _ (omega arith))
third_is (next_hole (next_child c i (next_child d j a))) = sym (lt-ltb 2 _ (omega arith))
third_is (next_hole (next_child c i (next_hole a))) = sym (lt-ltb 2 _ (omega arith))
third_is (next_hole (next_hole (next_child d j a))) = sym (lt-ltb 2 _ (omega arith))
third_is (next_hole (next_hole (next_hole a))) = sym (lt-ltb 2 _ (omega arith))

before_rest : (a b u : List TreeSpan) (c : List TreeSpan) → (a ++ b) ++ (c ++ u) ≡ (a ++ (b ++ c)) ++ u
before_rest a b u c = simp append_assoc

stacked_all : {ns : List Node} {below : ℕ} {ids : List (Option NodeId)} {cs : Slots} {rs : List ℕ} (ps : List NodeId) (u : List TreeSpan) → StandsAll ns below ids cs rs → Stacked (Means ns) ps u → Stacked (Means ns) (ps ++ below_all below ids) (initialised_in cs ++ u)
stacked_all ps u no_slots r = rw append-nil r
stacked_all {ns} {below} ps u (next_child {id = id} {ids = ids} {l = l} {cs = cs} {us = us} {rs = rs} {ss = ss} b h a) r =
    let s = Stacked-push (ps ++ below_all below ids) id (initialised_in us ++ u) (spans_of l cs) (stacked_all ps u a r) (record { label = l; slots = cs; numbers = rs; stands = h; is = refl }) in
    rw (lt-ltb id.0 below b, ← append_assoc ps (below_all below ids) (id ∷ [])) (subst (λ (t : List TreeSpan). Stacked (Means ns) (ps ++ below_all below ids ++ id ∷ []) t) (before_rest (cond (is_initialised l cs) (l.span ∷ []) []) (initialised_in cs) u (initialised_in us)) s)
stacked_all ps u (next_hole a) r = stacked_all ps u a r

-- these were noted, and the stack has the others
pub record Found (ns : List Node) (ids : List NodeId) (found : List Span) (whole : List TreeSpan) : Type 0 where
  pub done : List TreeSpan
  pub is : found ≡ map placed done
  pub rest : List TreeSpan
  pub stacked : Stacked (Means ns) ids rest
  pub parts : whole ≡ done ++ rest

pub Found-start : (ns : List Node) (t : Tree) → IsTree ns t → Found ns (below_all (length ns) (node_at ns (record { 0 = 0 })).children) [] (initialised_in t.slots)
Found-start ns t h =
    rw (first_is ns h.program h.first) record { done = []; is = refl; rest = initialised_in t.slots ++ []; stacked = stacked_all [] [] (h.children).stands (bottom refl); parts = sym (append-nil (initialised_in t.slots)) }

map_append : (a b : List TreeSpan) → map placed (a ++ b) ≡ map placed a ++ map placed b
map_append [] b = refl
map_append (x ∷ a) b = ap (λ (v : List Span). placed x ∷ v) (map_append a b)

own_span : (b : Bool) (s : TreeSpan) → map placed (cond b (s ∷ []) []) ≡ cond b (placed s ∷ []) []
own_span true s = refl
own_span false s = refl

opened : {ns : List Node} {l : Label} {cs : Slots} {rs : List ℕ} (id : NodeId) (n : ℕ) (ps : List NodeId) (u : List TreeSpan) (done whole : List TreeSpan) → id.0 ≡ n → Stands ns n l cs rs → Stacked (Means ns) ps u → whole ≡ done ++ (spans_of l cs ++ u) → Found ns (ps ++ below_all id.0 (node_at ns id).children) (map placed done ++ cond (is_covering (node_at ns id)) ((node_at ns id).span ∷ []) []) whole
opened {ns} id n ps u done whole e (stands {cs} {rs} m h a) r q =
    let k : is_covering (get_or ns m empty_program) ≡ is_initialised (label (get_or ns m empty_program)) cs = ap (λ (v : Bool). is_shorthand (label (get_or ns m empty_program)) && v) (sym (third_is a)) in
    let own = cond (is_initialised (label (get_or ns m empty_program)) cs) ((label (get_or ns m empty_program)).span ∷ []) [] in
    rw (e, k) record {
      done = done ++ own;
      is = ap (λ (v : List Span). map placed done ++ v) (sym (own_span (is_initialised (label (get_or ns m empty_program)) cs) (label (get_or ns m empty_program)).span)) ∙ sym (map_append done own);
      rest = initialised_in cs ++ u;
      stacked = stacked_all ps u a r;
      parts = q ∙ regrouped done own (initialised_in cs) u;
    }
  where
    regrouped : (a b c d : List TreeSpan) → a ++ ((b ++ c) ++ d) ≡ (a ++ b) ++ (c ++ d)
    regrouped a b c d = simp append_assoc

pub Found-step : {ns : List Node} (ps : List NodeId) (id : NodeId) (found : List Span) (whole : List TreeSpan) → Found ns (ps ++ id ∷ []) found whole → Found ns (ps ++ below_all id.0 (node_at ns id).children) (found ++ cond (is_covering (node_at ns id)) ((node_at ns id).span ∷ []) []) whole
Found-step {ns} ps id found whole w =
    let x = Stacked-pop ps id w.rest w.stacked in
    subst (λ (v : List Span). Found ns (ps ++ below_all id.0 (node_at ns id).children) (v ++ cond (is_covering (node_at ns id)) ((node_at ns id).span ∷ []) []) whole) (sym w.is)
    (opened id id.0 ps x.rest w.done whole refl (x.means).stands x.stacked (w.parts ∙ ap (λ (v : List TreeSpan). w.done ++ v) (x.whole ∙ ap (λ (v : List TreeSpan). v ++ x.rest) (x.means).is)))

pub Found-below : {ns : List Node} (ps : List NodeId) (id : NodeId) (found : List Span) (whole : List TreeSpan) → Found ns (ps ++ id ∷ []) found whole → id.0 < length ns
Found-below ps id found whole w = let x = Stacked-pop ps id w.rest w.stacked in Stands-below (x.means).stands

pub Found-end : {ns : List Node} (found : List Span) (whole : List TreeSpan) → Found ns [] found whole → found ≡ map placed whole
Found-end found whole w = w.is ∙ ap (map placed) (sym (append-nil w.done) ∙ ap (λ (v : List TreeSpan). w.done ++ v) (sym (Stacked-none w.stacked)) ∙ sym w.parts)
