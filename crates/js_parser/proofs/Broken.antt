-- The walk that finds the nodes that break an early rule.
use Rattle.std.proofs.Common.{◌≡◌, ℕ, ◌+◌, ◌<◌, ◌≤◌, Bool, true, false, ◌&&◌, ◌||◌, cond, List, [], ◌∷◌, ◌++◌, length, map, take, drop, Option, Some, None, get_or, nat_lt, refl, ap, sym, ◌∙◌, subst, arith, lt-ltb, ltb-true, ltb-false, append_assoc, append-nil}
use Rattle.std.specs.Prelude.{is_some}
use Rattle.std.proofs.lemmas.List.{map-append}
use Rattle.std.proofs.lemmas.Bool.{false≢true, or_parts}
use Rattle.js_base.specs.declared.diagnostic.Diagnostic.{Diagnostic}
use Rattle.js_grammar.specs.NodeNames.{characters_at}
use Rattle.js_grammar.specs.Trees.{NodeKind, program, reg_exp_literal, template_element, Label, Slots, Tree}
use Rattle.js_tree.specs.declared.id.NodeId.{NodeId}
use Rattle.js_tree.specs.Labels.{kind_of}
use Rattle.js_tree.specs.Nodes.{Node, label, node_at, empty_program}
use Rattle.js_tree.specs.Covering.{placed}
use Rattle.js_tree.specs.Holding.{Stands, stands, StandsAll, no_slots, next_child, next_hole, IsTree}
use Rattle.js_tree.specs.Parts.{below_all}
use Rattle.js_tree.proofs.CountLemmas.{children_lighter}
use Rattle.js_tree.proofs.StackLemmas.{Stacked, bottom, Stacked-push, Stacked-pop, Stacked-none}
use Rattle.js_tree.proofs.WeightLemmas.{stack_weight}
use Rattle.js_parser.specs.AttributeKeys.{told_of_keys, keys_in, keys_at, told_keys_at, is_clause, has_keys}
use Rattle.js_parser.specs.Broken.{past, within, broken_rule, told_rule, told_here, told_in, rule_at, told_of, name_fault, told_fault, child_labels, name_fault_at, breaks, pending, pending_within, pending_alike, first_end}
use Rattle.js_grammar.specs.EarlyRules.{is_member}
use Rattle.js_parser.proofs.ClauseKeys.{keys_kept, few_keys}
use Rattle.js_parser.proofs.MemberNames.{fault_kept, no_member, past_all}
use Rattle.js_parser.specs.declared.early.Pending.{Pending}
use Rattle.js_parser.specs.declared.early.Position.{Position}
use Rattle.js_parser.specs.declared.early.Position.TheVariants.{Anywhere, Tag, Tagged, InTemplate}
use Rattle.js_tree.proofs.CountLemmas.{first_is}

-- ---- the stack

past_past : (p : Position) → past (past p) ≡ past p
past_past Anywhere = refl
past_past Tag = refl
past_past Tagged = refl
past_past InTemplate = refl

pending_behind : (p : Position) (b : ℕ) (ids : List (Option NodeId)) → past p ≡ p → pending p b ids ≡ pending_alike p b ids
pending_behind p b [] e = refl
pending_behind p b (None ∷ ids) e = pending_behind p b ids e
pending_behind p b (Some id ∷ ids) e = ap (λ (v : List Pending). v ++ cond (nat_lt id.0 b) (record { id = id; position = p } ∷ []) []) (ap (λ (q : Position). pending q b ids) e ∙ pending_behind p b ids e)

-- the first child at its position, the others past it
pending_parts : (p : Position) (b : ℕ) (ids : List (Option NodeId)) → pending_alike (past p) b (drop (first_end ids) ids) ++ pending_alike p b (take (first_end ids) ids) ≡ pending p b ids
pending_parts p b [] = refl
pending_parts p b (None ∷ ids) = pending_parts p b ids
pending_parts p b (Some id ∷ ids) = ap (λ (v : List Pending). v ++ cond (nat_lt id.0 b) (record { id = id; position = p } ∷ []) []) (sym (pending_behind (past p) b ids (past_past p)))

-- those are pushed first
pub pushed : (p : Position) (b n : ℕ) (ids : List (Option NodeId)) (old behind : List Pending) → n ≡ first_end ids → behind ≡ old ++ pending_alike (past p) b (drop n ids) → behind ++ pending_alike p b (take n ids) ≡ old ++ pending p b ids
pushed p b n ids old behind e q = rw (q, e, append_assoc) (ap (λ (v : List Pending). old ++ v) (pending_parts p b ids))

abbrev id_of : Pending → NodeId
id_of n = n.id

-- what is still to be looked at weighs what its numbers do
abbrev pub pending_weight : List Node → List Pending → ℕ
pending_weight ns ps = stack_weight ns (map (λ n. n.id) ps)

own_id : (t : Bool) (id : NodeId) (p : Position) → map id_of (cond t (record { id = id; position = p } ∷ []) []) ≡ cond t (id ∷ []) []
own_id true id p = refl
own_id false id p = refl

ids_of : (p : Position) (b : ℕ) (ids : List (Option NodeId)) → map id_of (pending p b ids) ≡ below_all b ids
ids_of p b [] = refl
ids_of p b (None ∷ ids) = ids_of p b ids
ids_of p b (Some id ∷ ids) = map-append id_of (pending (past p) b ids) (cond (nat_lt id.0 b) (record { id = id; position = p } ∷ []) []) ∙ (λ i. ids_of (past p) b ids i ++ own_id (nat_lt id.0 b) id p i)

pub within_lighter : (ns : List Node) (ps : List Pending) (n : Pending) → pending_weight ns (ps ++ pending_within ns n) < pending_weight ns (ps ++ n ∷ [])
within_lighter ns ps n =
    let p = within n.position (kind_of (node_at ns n.id).kind) in
    rw (map-append id_of ps (pending_within ns n), map-append id_of ps (n ∷ []), ids_of p n.id.0 (node_at ns n.id).children) (children_lighter ns (map id_of ps) n.id)

-- ---- what is told

-- of a node and its slots
abbrev pub told_from : List ℕ → Position → Label → Slots → List Diagnostic
told_from text p l cs = told_here text p l cs ++ told_in text (within p l.kind) cs

-- an item of the stack: what is told of what it stands for
pub record Means (text : List ℕ) (ns : List Node) (n : Pending) (v : List Diagnostic) : Type 0 where
  pub label : Label
  pub slots : Slots
  pub numbers : List ℕ
  pub stands : Stands ns n.id.0 label slots numbers
  pub is : v ≡ told_from text n.position label slots

before_rest : (a b u c : List Diagnostic) → (a ++ b) ++ (c ++ u) ≡ (a ++ (b ++ c)) ++ u
before_rest a b u c = simp append_assoc

stacked_all : {text : List ℕ} {ns : List Node} {below : ℕ} {ids : List (Option NodeId)} {cs : Slots} {rs : List ℕ} (p : Position) (ps : List Pending) (u : List Diagnostic) → StandsAll ns below ids cs rs → Stacked (Means text ns) ps u → Stacked (Means text ns) (ps ++ pending p below ids) (told_in text p cs ++ u)
stacked_all p ps u no_slots r = rw append-nil r
stacked_all {text} {ns} {below} p ps u (next_child {id = id} {ids = ids} {l = l} {cs = cs} {us = us} {rs = rs} {ss = ss} b h a) r =
    let n : Pending = record { id = id; position = p } in
    let s = Stacked-push (ps ++ pending (past p) below ids) n (told_in text (past p) us ++ u) (told_from text p l cs) (stacked_all (past p) ps u a r) (record { label = l; slots = cs; numbers = rs; stands = h; is = refl }) in
    rw (lt-ltb id.0 below b, ← append_assoc ps (pending (past p) below ids) (n ∷ [])) (subst (λ (t : List Diagnostic). Stacked (Means text ns) (ps ++ pending (past p) below ids ++ n ∷ []) t) (before_rest (told_here text p l cs) (told_in text (within p l.kind) cs) u (told_in text (past p) us)) s)
stacked_all p ps u (next_hole a) r = stacked_all p ps u a r

-- these were told, and the stack has the others
pub record Telling (text : List ℕ) (ns : List Node) (ps : List Pending) (told whole : List Diagnostic) : Type 0 where
  pub rest : List Diagnostic
  pub stacked : Stacked (Means text ns) ps rest
  pub parts : whole ≡ told ++ rest

pub telling_start : (text : List ℕ) (ns : List Node) (t : Tree) → IsTree ns t → Telling text ns (pending Anywhere (length ns) (node_at ns (record { 0 = 0 })).children) [] (told_in text Anywhere t.slots)
telling_start text ns t h =
    rw (first_is ns h.program h.first) record { rest = told_in text Anywhere t.slots ++ []; stacked = stacked_all Anywhere [] [] (h.children).stands (bottom refl); parts = sym (append-nil (told_in text Anywhere t.slots)) }

opened : {text : List ℕ} {ns : List Node} {l : Label} {cs : Slots} {rs : List ℕ} (n : Pending) (m : ℕ) (ps : List Pending) (u told whole : List Diagnostic) → n.id.0 ≡ m → Stands ns m l cs rs → Stacked (Means text ns) ps u → whole ≡ told ++ (told_from text n.position l cs ++ u) → Telling text ns (ps ++ pending_within ns n) (told ++ told_of text ns n) whole
opened {text} {ns} n m ps u told whole e (stands {cs} {rs} k h a) r q =
    let one = label (get_or ns k empty_program) in
    let inner = told_in text (within n.position one.kind) cs in
    let rule = told_rule (broken_rule n.position one.kind (characters_at text one)) (placed one.span) in
    rw e record {
      rest = inner ++ u;
      stacked = stacked_all (within n.position one.kind) ps u a r;
      parts = q ∙ ((λ i. told ++ (((rule ++ (told_fault (fault_kept text one a i) ++ keys_kept text one.kind a (omega arith) i)) ++ inner) ++ u)) ∙ regrouped told (rule ++ (told_fault (name_fault text one (child_labels ns (get_or ns k empty_program).children)) ++ told_of_keys text one.kind (keys_at ns (get_or ns k empty_program).children))) inner u);
    }
  where
    regrouped : (a b c d : List Diagnostic) → a ++ ((b ++ c) ++ d) ≡ (a ++ b) ++ (c ++ d)
    regrouped a b c d = simp append_assoc

pub telling_step : {text : List ℕ} {ns : List Node} (ps : List Pending) (n : Pending) (told whole : List Diagnostic) → Telling text ns (ps ++ n ∷ []) told whole → Telling text ns (ps ++ pending_within ns n) (told ++ told_of text ns n) whole
telling_step {text} {ns} ps n told whole w =
    let x = Stacked-pop ps n w.rest w.stacked in
    opened n n.id.0 ps x.rest told whole refl (x.means).stands x.stacked (w.parts ∙ ap (λ (v : List Diagnostic). told ++ v) (x.whole ∙ ap (λ (v : List Diagnostic). v ++ x.rest) (x.means).is))

pub telling_end : {text : List ℕ} {ns : List Node} (told whole : List Diagnostic) → Telling text ns [] told whole → told ≡ whole
telling_end told whole w = sym (append-nil told) ∙ (ap (λ (v : List Diagnostic). told ++ v) (sym (Stacked-none w.stacked)) ∙ sym w.parts)

-- ---- where no node breaks a rule

-- elsewhere no more is asked of a node
most_asked : (p : Position) (k : NodeKind) (w : List ℕ) → broken_rule InTemplate k w ≡ None → broken_rule p k w ≡ None
most_asked p reg_exp_literal w e = e
most_asked Anywhere template_element w e = refl
most_asked Tag template_element w e = refl
most_asked Tagged template_element w e = refl
most_asked InTemplate template_element w e = e
most_asked p k w e = refl

-- neither by its text nor by its name
is_none : {X : Type 0} (o : Option X) → is_some o ≡ false → o ≡ None
is_none None e = refl
is_none (Some x) e = absurd (false≢true (sym e))

neither_broken : (text : List ℕ) (ns : List Node) (id : NodeId) → breaks text ns id ≡ false → (rule_at text ns id InTemplate ≡ None) × (name_fault_at text ns id ≡ None) × (told_keys_at text ns id ≡ [])
neither_broken text ns id e =
    let p = or_parts (is_some (rule_at text ns id InTemplate)) (is_some (name_fault_at text ns id) || has_keys ns id) e in
    let q = or_parts (is_some (name_fault_at text ns id)) (has_keys ns id) p.1 in
    (is_none (rule_at text ns id InTemplate) p.0, is_none (name_fault_at text ns id) q.0, few_keys text ns (kind_of (node_at ns id).kind) (node_at ns id).children q.1)

module _ (text : List ℕ) {ns : List Node} (n : (id : NodeId) → id.0 < length ns → breaks text ns id ≡ false) where
  mutual
    none_from : {id : ℕ} {l : Label} {cs : Slots} {rs : List ℕ} (p : Position) → Stands ns id l cs rs → told_from text p l cs ≡ []
    none_from p (stands {cs} {rs} id h a) =
        let one = label (get_or ns id empty_program) in
        let f = neither_broken text ns (record { 0 = id }) (n (record { 0 = id }) h) in
        let none : broken_rule p one.kind (characters_at text one) ≡ None = most_asked p one.kind (characters_at text one) f.0 in
        let unnamed : name_fault text one cs ≡ None = fault_kept text one a ∙ f.1 in
        let keys : told_of_keys text one.kind (keys_in cs) ≡ [] = keys_kept text one.kind a (omega arith) ∙ f.2 in
        let inner = none_all (within p one.kind) a in
        λ i. (told_rule (none i) (placed one.span) ++ (told_fault (unnamed i) ++ keys i)) ++ inner i

    none_all : {b : ℕ} {ids : List (Option NodeId)} {cs : Slots} {rs : List ℕ} (p : Position) → StandsAll ns b ids cs rs → told_in text p cs ≡ []
    none_all p no_slots = refl
    none_all p (next_child {l = l} {cs = cs} {us = us} b h a) = sym (append_assoc (told_here text p l cs) (told_in text (within p l.kind) cs) (told_in text (past p) us)) ∙ (ap (λ (v : List Diagnostic). v ++ told_in text (past p) us) (none_from p h) ∙ none_all (past p) a)
    none_all p (next_hole a) = none_all p a

  pub none_told : (t : Tree) → IsTree ns t → told_in text Anywhere t.slots ≡ []
  none_told t h = none_all Anywhere (h.children).stands

-- up to a number none breaks a rule, and that one doesn't
pub one_more : (text : List ℕ) (ns : List Node) (i : ℕ) → ((id : NodeId) → id.0 < i → breaks text ns id ≡ false) → breaks text ns (record { 0 = i }) ≡ false → (id : NodeId) → id.0 < i + 1 → breaks text ns id ≡ false
one_more text ns i n e id h = go (nat_lt id.0 i) refl
  where
    go : (b : Bool) → nat_lt id.0 i ≡ b → breaks text ns id ≡ false
    go true q = n id (ltb-true id.0 i q)
    go false q = let w = ltb-false id.0 i q in let z : id.0 ≡ i = omega arith in subst (λ (m : ℕ). breaks text ns (record { 0 = m }) ≡ false) (sym z) e

-- what a kind alone tells
pub by_kind_none : (text : List ℕ) (ns : List Node) (id : NodeId) → ((p : Position) (w : List ℕ) → broken_rule p (kind_of (node_at ns id).kind) w ≡ None) → is_member (kind_of (node_at ns id).kind) ≡ false → is_clause (kind_of (node_at ns id).kind) ≡ false → breaks text ns id ≡ false
by_kind_none text ns id r m k = λ i. is_some (r InTemplate (characters_at text (label (node_at ns id))) i) || (is_some (no_member text (label (node_at ns id)) (child_labels ns (node_at ns id).children) m i) || (k i && nat_lt 1 (length (node_at ns id).children)))

-- as soon as the first is one, or by the second
pub first_broken : (a b : Bool) → a ≡ true → (a || b) ≡ true
first_broken true b e = refl
first_broken false b e = absurd (false≢true e)

-- of a number without a node nothing is told
pub none_there : (text : List ℕ) (ns : List Node) (n : Pending) → length ns ≤ n.id.0 → told_of text ns n ≡ []
none_there text ns n h = ap (λ (m : Node). told_rule (broken_rule n.position (kind_of m.kind) (characters_at text (label m))) m.span ++ (told_fault (name_fault text (label m) (child_labels ns m.children)) ++ told_of_keys text (kind_of m.kind) (keys_at ns m.children))) (past_all ns n.id.0 h) ∙ none_of n.position
  where
    none_of : (p : Position) → told_rule (broken_rule p program (characters_at text (label empty_program))) (empty_program.span) ++ [] ≡ []
    none_of Anywhere = refl
    none_of Tag = refl
    none_of Tagged = refl
    none_of InTemplate = refl
