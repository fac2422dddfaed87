-- The parts of a node's value.
use Rattle.std.proofs.Common.{◌≡◌, ℕ, suc, ◌+◌, ◌<◌, ◌≤◌, ◌/◌, ◌%◌, Bool, true, false, cond, codes, List, [], ◌∷◌, ◌++◌, length, map, Option, Some, None, drop, get_or, nat_eq, refl, ap, sym, ◌∙◌, subst, arith, rules, append_assoc, append-nil}
use Rattle.std.proofs.lemmas.Bool.{or_parts}
use Rattle.std.proofs.lemmas.List.{drop_more, drop_all}
use Rattle.serde_json.specs.Data.{Data, null, string, no_members, member, put, items_depth, depth}
use Rattle.serde_json.specs.Written.{has_float, items_have_float}
use Rattle.serde_json.specs.View.{view, items_view, items_of}
use Rattle.serde_json.specs.declared.value.Value.{Value, Null, the_lemmas}
use Rattle.serde_json.proofs.OnLiterals.{serde_json_on_literals}
use Rattle.js_grammar.specs.Trees.{Label, Slots}
use Rattle.js_grammar.specs.Lines.{flag_words}
use Rattle.js_tree.specs.declared.id.NodeId.{NodeId}
use Rattle.js_tree.specs.Nodes.{Node, label, node_at, empty_program}
use Rattle.js_tree.specs.Holding.{Stands, stands, StandsAll, no_slots, next_child, next_hole}
use Rattle.js_json.specs.Json.{string_or_null, word_of, raw_of, words_set, slots_json, object_of, node_json, list}
use Rattle.js_json.specs.Names.{AreNamed}

-- one flag more has been looked at
pub words_step : (out whole : List Data) (i rest : ℕ) (w : List ℕ) → i < 14 → w ≡ get_or flag_words i [] → out ++ words_set (drop i flag_words) rest ≡ whole → (out ++ cond (nat_eq (rest % 2) 1) (string w ∷ []) []) ++ words_set (drop (i + 1) flag_words) (rest / 2) ≡ whole
words_step out whole i rest w h e q =
    append_assoc out (cond (nat_eq (rest % 2) 1) (string w ∷ []) []) (words_set (drop (i + 1) flag_words) (rest / 2))
    ∙ ap (λ (x : List ℕ). out ++ (cond (nat_eq (rest % 2) 1) (string x ∷ []) [] ++ words_set (drop (i + 1) flag_words) (rest / 2))) e
    ∙ ap (λ (ws : List (List ℕ)). out ++ words_set ws rest) (sym (drop_more flag_words i [] h))
    ∙ q

-- the members, in the order of their keys
pub in_order : (children to flags name op raw from kind : Data) → put (codes "type") kind (put (codes "raw") raw (put (codes "op") op (put (codes "name") name (put (codes "start") from (put (codes "end") to (put (codes "flags") flags (put (codes "children") children no_members))))))) ≡ member (codes "children") children (member (codes "end") to (member (codes "flags") flags (member (codes "name") name (member (codes "op") op (member (codes "raw") raw (member (codes "start") from (member (codes "type") kind no_members)))))))
unfolding serde_json_on_literals
in_order children to flags name op raw from kind = refl

-- ---- slots

-- the values of slots up to some of them, which are still due
pub record Done (text : List ℕ) (ns : List Node) (below : ℕ) (ids : List (Option NodeId)) (out whole : List Data) : Type 0 where
  pub slots : Slots
  pub numbers : List ℕ
  pub stands : StandsAll ns below ids slots numbers
  pub named : AreNamed text ns numbers
  pub parts : out ++ slots_json text slots ≡ whole

-- the value of a slot
abbrev pub SlotIs : List ℕ → List Node → Option NodeId → Data → Type 0
SlotIs text ns None d = d ≡ null
SlotIs text ns (Some id) d = (below : ℕ) (cs : Slots) (rs : List ℕ) → id.0 < length ns → StandsAll ns below (node_at ns id).children cs rs → AreNamed text ns (id.0 ∷ rs) → d ≡ node_json text (label (node_at ns id)) (list (slots_json text cs))

named_parts : (text : List ℕ) (ns : List Node) (rs ss : List ℕ) → AreNamed text ns (rs ++ ss) → AreNamed text ns rs × AreNamed text ns ss
named_parts text ns [] ss h = (tt, h)
named_parts text ns (r ∷ rs) ss h = let q = named_parts text ns rs ss h.1 in ((h.0, q.0), q.1)

node_is : (text : List ℕ) {ns : List Node} {n : ℕ} {l : Label} {cs : Slots} {rs : List ℕ} (id : NodeId) (d : Data) → id.0 ≡ n → SlotIs text ns (Some id) d → Stands ns n l cs rs → AreNamed text ns rs → d ≡ node_json text l (list (slots_json text cs))
node_is text {ns} id d e s (stands {cs} {rs} m h a) k =
    subst (λ (k : ℕ). d ≡ node_json text (label (get_or ns k empty_program)) (list (slots_json text cs))) e
    (s m cs rs (omega (arith, e)) (subst (λ (k : ℕ). StandsAll ns m (get_or ns k empty_program).children cs rs) (sym e) a) (subst (λ (r : ℕ). AreNamed text ns (r ∷ rs)) (sym e) k))

done_more : {text : List ℕ} {ns : List Node} {below : ℕ} {ids : List (Option NodeId)} {us : Slots} {rs : List ℕ} (s : Option NodeId) (out whole : List Data) (d : Data) → SlotIs text ns s d → StandsAll ns below (s ∷ ids) us rs → AreNamed text ns rs → out ++ slots_json text us ≡ whole → Done text ns below ids (out ++ d ∷ []) whole
done_more {text} None out whole d h (next_hole {us = us} {rs = rs} a) k p = record { slots = us; numbers = rs; stands = a; named = k; parts = append_assoc out (d ∷ []) (slots_json text us) ∙ ap (λ (x : Data). out ++ x ∷ slots_json text us) h ∙ p }
done_more {text} {ns} (Some id) out whole d h (next_child {us = us} {rs = rs} {ss = ss} w n a) k p =
    let q = named_parts text ns rs ss k in
    record { slots = us; numbers = ss; stands = a; named = q.1; parts = append_assoc out (d ∷ []) (slots_json text us) ∙ ap (λ (x : Data). out ++ x ∷ slots_json text us) (node_is text id d refl h n q.0) ∙ p }

pub Done-start : (text : List ℕ) (ns : List Node) (below : ℕ) (ids : List (Option NodeId)) (cs : Slots) (rs : List ℕ) → StandsAll ns below ids cs rs → AreNamed text ns rs → Done text ns below ids [] (slots_json text cs)
Done-start text ns below ids cs rs h k = record { slots = cs; numbers = rs; stands = h; named = k; parts = refl }

pub Done-step : {text : List ℕ} {ns : List Node} {below : ℕ} (s : Option NodeId) (ids : List (Option NodeId)) (out whole : List Data) (d : Data) → SlotIs text ns s d → Done text ns below (s ∷ ids) out whole → Done text ns below ids (out ++ d ∷ []) whole
Done-step s ids out whole d h w = done_more s out whole d h w.stands w.named w.parts

none_left : {ns : List Node} {below : ℕ} {cs : Slots} {rs : List ℕ} (text : List ℕ) → StandsAll ns below [] cs rs → slots_json text cs ≡ []
none_left text no_slots = refl

pub Done-end : {text : List ℕ} {ns : List Node} {below : ℕ} (out whole : List Data) → Done text ns below [] out whole → out ≡ whole
Done-end {text} out whole w = sym (append-nil out) ∙ ap (λ (x : List Data). out ++ x) (sym (none_left text w.stands)) ∙ w.parts

-- ---- depths

flat : (o : Option (List ℕ)) → depth (string_or_null o) ≡ 0
flat None = refl
flat (Some s) = refl

flat_words : (ws : List (List ℕ)) (n : ℕ) → items_depth (items_of (words_set ws n)) ≡ 0
flat_words [] n = refl
flat_words (w ∷ ws) n = by (nat_eq (n % 2) 1) (flat_words ws (n / 2))
  where
    by : (b : Bool) → items_depth (items_of (words_set ws (n / 2))) ≡ 0 → items_depth (items_of (cond b (string w ∷ []) [] ++ words_set ws (n / 2))) ≡ 0
    by true e = omega arith
    by false e = e

-- a node is one deeper than the list of its slots
pub node_depth : (text : List ℕ) (l : Label) (name : Option (List ℕ)) (c : Data) (m : ℕ) → 1 ≤ m → depth c ≤ m → depth (object_of text l name c) ≤ suc m
node_depth text l name c m o h = rw (flat name, flat (word_of l.op), flat (raw_of text l), flat_words flag_words l.flags) (omega arith)

pub items_depth-push : (ds : List Data) (d : Data) (m : ℕ) → items_depth (items_of ds) ≤ m → depth d ≤ m → items_depth (items_of (ds ++ d ∷ [])) ≤ m
items_depth-push [] d m h k = omega arith
items_depth-push (e ∷ ds) d m h k = let i = items_depth-push ds d m (omega arith) k in omega arith

-- ---- floats

no_float : (o : Option (List ℕ)) → has_float (string_or_null o) ≡ false
no_float None = refl
no_float (Some s) = refl

no_float_words : (ws : List (List ℕ)) (n : ℕ) → items_have_float (items_of (words_set ws n)) ≡ false
no_float_words [] n = refl
no_float_words (w ∷ ws) n = by (nat_eq (n % 2) 1) (no_float_words ws (n / 2))
  where
    by : (b : Bool) → items_have_float (items_of (words_set ws (n / 2))) ≡ false → items_have_float (items_of (cond b (string w ∷ []) [] ++ words_set ws (n / 2))) ≡ false
    by true e = e
    by false e = e

pub no_float_node : (text : List ℕ) (l : Label) (name : Option (List ℕ)) (c : Data) → has_float c ≡ false → has_float (object_of text l name c) ≡ false
no_float_node text l name c h = rw (h, no_float_words flag_words l.flags, no_float name, no_float (word_of l.op), no_float (raw_of text l)) refl

no_float-push : (ds : List Data) (d : Data) → items_have_float (items_of ds) ≡ false → has_float d ≡ false → items_have_float (items_of (ds ++ d ∷ [])) ≡ false
no_float-push [] d h k = rw k refl
no_float-push (e ∷ ds) d h k = let p = or_parts (has_float e) _ h in rw (p.0, no_float-push ds d p.1 k) refl

-- ---- the loop over slots

pub view-Null : view Null ≡ null
view-Null = search (rules, the_lemmas)

-- the values of the slots before i have been made
abbrev pub Made : List ℕ → List Node → List (Option NodeId) → ℕ → List Value → ℕ → Type 0
Made text ns ids i vs m = ((below : ℕ) (cs : Slots) (rs : List ℕ) → StandsAll ns below ids cs rs → AreNamed text ns rs → Done text ns below (drop i ids) (map view vs) (slots_json text cs)) × (items_depth (items_view vs) ≤ m) × (items_have_float (items_view vs) ≡ false)

map-push : (vs : List Value) (v : Value) → map view (vs ++ v ∷ []) ≡ map view vs ++ view v ∷ []
map-push [] v = refl
map-push (w ∷ vs) v = ap (λ (ds : List Data). view w ∷ ds) (map-push vs v)

pub Made-start : (text : List ℕ) (ns : List Node) (ids : List (Option NodeId)) (vs : List Value) (m : ℕ) → vs ≡ [] → Made text ns ids 0 vs m
Made-start text ns ids vs m e = rw e ((λ below cs rs h k. Done-start text ns below ids cs rs h k), omega arith, refl)

pub Made-step : {text : List ℕ} {ns : List Node} (ids : List (Option NodeId)) (i : ℕ) (s : Option NodeId) (vs new : List Value) (v : Value) (m : ℕ) → i < length ids → get_or ids i None ≡ s → SlotIs text ns s (view v) → depth (view v) ≤ m → has_float (view v) ≡ false → new ≡ vs ++ v ∷ [] → Made text ns ids i vs m → Made text ns ids (i + 1) new m
Made-step {text} {ns} ids i s vs new v m h e k d f n made = rw (n, map-push vs v) (
  (λ below cs rs a q. Done-step s (drop (i + 1) ids) (map view vs) (slots_json text cs) (view v) k (subst (λ (xs : List (Option NodeId)). Done text ns below xs (map view vs) (slots_json text cs)) (drop_more ids i None h ∙ ap (λ (x : Option NodeId). x ∷ drop (i + 1) ids) e) (made.0 below cs rs a q))),
  items_depth-push (map view vs) (view v) m made.1 d,
  no_float-push (map view vs) (view v) made.2 f,
)

pub Made-end : {text : List ℕ} {ns : List Node} (ids : List (Option NodeId)) (i : ℕ) (vs : List Value) (m below : ℕ) (cs : Slots) (rs : List ℕ) → length ids ≤ i → Made text ns ids i vs m → StandsAll ns below ids cs rs → AreNamed text ns rs → list (map view vs) ≡ list (slots_json text cs)
Made-end {text} {ns} ids i vs m below cs rs h made a q = ap list (Done-end (map view vs) (slots_json text cs) (subst (λ (xs : List (Option NodeId)). Done text ns below xs (map view vs) (slots_json text cs)) (drop_all i ids h) (made.0 below cs rs a q)))
