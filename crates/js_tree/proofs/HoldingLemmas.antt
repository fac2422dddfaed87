-- How trees that numbers stand for are put together and kept.
use Rattle.std.proofs.Common.{◌≡◌, ℕ, zero, suc, ◌-◌, ◌<◌, ◌≤◌, List, [], ◌∷◌, ◌++◌, length, get_or, set, Option, Some, None, refl, ap, sym, ◌∙◌, subst, arith, length-append, length-set, append-nil, append_assoc, get_or-set_same, get_or-set_other}
use Rattle.std.proofs.lemmas.List.{get_or_append_left, get_or_push, length_push, set-append_right}
use Rattle.js_base.specs.declared.span.Span.{Span}
use Rattle.js_grammar.specs.Trees.{Label, Slots, end, hole, tree, append}
use Rattle.js_tree.specs.declared.flags.NodeFlags.{NodeFlags}
use Rattle.js_tree.specs.declared.id.NodeId.{NodeId}
use Rattle.js_tree.specs.Labels.{number_of}
use Rattle.js_tree.specs.Nodes.{Node, label, node_at, empty_program, program_node, with_flags, flags_set}
use Rattle.js_tree.specs.Holding.{Stands, stands, StandsAll, no_slots, next_child, next_hole, Lacks, AreApart, AreDistinct, AreWithin, Holds, HoldsAll, Keeps, Made, IsTree, with_program, program_tree}

-- ---- lists of numbers

pub AreWithin-append : (lo hi : ℕ) (rs ss : List ℕ) → AreWithin lo hi rs → AreWithin lo hi ss → AreWithin lo hi (rs ++ ss)
AreWithin-append lo hi [] ss h k = k
AreWithin-append lo hi (r ∷ rs) ss h k = (h.0, h.1, AreWithin-append lo hi rs ss h.2 k)

pub AreWithin-wider : (lo hi low high : ℕ) (rs : List ℕ) → low ≤ lo → hi ≤ high → AreWithin lo hi rs → AreWithin low high rs
AreWithin-wider lo hi low high [] p q h = tt
AreWithin-wider lo hi low high (r ∷ rs) p q h = (let a = h.0 in omega arith, let a = h.1 in omega arith, AreWithin-wider lo hi low high rs p q h.2)

pub AreWithin-left : (lo hi : ℕ) (rs ss : List ℕ) → AreWithin lo hi (rs ++ ss) → AreWithin lo hi rs
AreWithin-left lo hi [] ss h = tt
AreWithin-left lo hi (r ∷ rs) ss h = (h.0, h.1, AreWithin-left lo hi rs ss h.2)

pub AreWithin-right : (lo hi : ℕ) (rs ss : List ℕ) → AreWithin lo hi (rs ++ ss) → AreWithin lo hi ss
AreWithin-right lo hi [] ss h = h
AreWithin-right lo hi (r ∷ rs) ss h = AreWithin-right lo hi rs ss h.2

Lacks-append : (rs ss : List ℕ) (x : ℕ) → Lacks rs x → Lacks ss x → Lacks (rs ++ ss) x
Lacks-append [] ss x h k = k
Lacks-append (r ∷ rs) ss x h k = (h.0, Lacks-append rs ss x h.1 k)

Lacks-below : (rs : List ℕ) (lo hi x : ℕ) → AreWithin lo hi rs → hi ≤ x → Lacks rs x
Lacks-below [] lo hi x h w = tt
Lacks-below (r ∷ rs) lo hi x h w = (λ e. let a = h.1 in absurd (omega arith), Lacks-below rs lo hi x h.2 w)

Lacks-above : (rs : List ℕ) (lo hi x : ℕ) → AreWithin lo hi rs → x < lo → Lacks rs x
Lacks-above [] lo hi x h w = tt
Lacks-above (r ∷ rs) lo hi x h w = (λ e. let a = h.0 in absurd (omega arith), Lacks-above rs lo hi x h.2 w)

pub AreDistinct-append : (rs ss : List ℕ) → AreDistinct rs → AreDistinct ss → AreApart rs ss → AreDistinct (rs ++ ss)
AreDistinct-append [] ss h k a = k
AreDistinct-append (r ∷ rs) ss h k a = (Lacks-append rs ss r h.0 a.0, AreDistinct-append rs ss h.1 k a.1)

-- numbers of two ranges, one behind the other
pub AreApart-before : (lo mid hi : ℕ) (rs ss : List ℕ) → AreWithin lo mid rs → AreWithin mid hi ss → AreApart rs ss
AreApart-before lo mid hi [] ss h k = tt
AreApart-before lo mid hi (r ∷ rs) ss h k = (Lacks-above ss mid hi r k h.1, AreApart-before lo mid hi rs ss h.2 k)

pub AreApart-behind : (lo mid hi : ℕ) (rs ss : List ℕ) → AreWithin mid hi rs → AreWithin lo mid ss → AreApart rs ss
AreApart-behind lo mid hi [] ss h k = tt
AreApart-behind lo mid hi (r ∷ rs) ss h k = (Lacks-below ss lo mid r k h.0, AreApart-behind lo mid hi rs ss h.2 k)

-- ---- stores that agree on the numbers that are reached

abbrev pub AgreeOn : List Node → List Node → List ℕ → Type 0
AgreeOn ns ms [] = Unit {0}
AgreeOn ns ms (r ∷ rs) = (get_or ms r empty_program ≡ get_or ns r empty_program) × AgreeOn ns ms rs

AgreeOn-left : (ns ms : List Node) (rs ss : List ℕ) → AgreeOn ns ms (rs ++ ss) → AgreeOn ns ms rs
AgreeOn-left ns ms [] ss g = tt
AgreeOn-left ns ms (r ∷ rs) ss g = (g.0, AgreeOn-left ns ms rs ss g.1)

AgreeOn-right : (ns ms : List Node) (rs ss : List ℕ) → AgreeOn ns ms (rs ++ ss) → AgreeOn ns ms ss
AgreeOn-right ns ms [] ss g = g
AgreeOn-right ns ms (r ∷ rs) ss g = AgreeOn-right ns ms rs ss g.1

mutual
  pub Stands-agree : {ns ms : List Node} {id : ℕ} {l : Label} {cs : Slots} {rs : List ℕ} → length ns ≤ length ms → AgreeOn ns ms rs → Stands ns id l cs rs → Stands ms id l cs rs
  Stands-agree {ns} {ms} w g (stands {cs} {rs} id h a) = subst (λ (n : Node). Stands ms id (label n) cs (id ∷ rs)) g.0 (stands id (omega arith) (subst (λ (n : Node). StandsAll ms id n.children cs rs) (sym g.0) (StandsAll-agree w g.1 a)))

  pub StandsAll-agree : {ns ms : List Node} {below : ℕ} {ids : List (Option NodeId)} {cs : Slots} {rs : List ℕ} → length ns ≤ length ms → AgreeOn ns ms rs → StandsAll ns below ids cs rs → StandsAll ms below ids cs rs
  StandsAll-agree w g no_slots = no_slots
  StandsAll-agree {ns} {ms} w g (next_child {rs = rs} {ss = ss} b h a) = next_child b (Stands-agree w (AgreeOn-left ns ms rs ss g) h) (StandsAll-agree w (AgreeOn-right ns ms rs ss g) a)
  StandsAll-agree w g (next_hole a) = next_hole (StandsAll-agree w g a)

-- a greater bound on the children's numbers
pub StandsAll-wider : {ns : List Node} {below above : ℕ} {ids : List (Option NodeId)} {cs : Slots} {rs : List ℕ} → below ≤ above → StandsAll ns below ids cs rs → StandsAll ns above ids cs rs
StandsAll-wider w no_slots = no_slots
StandsAll-wider w (next_child b h a) = next_child (omega arith) h (StandsAll-wider w a)
StandsAll-wider w (next_hole a) = next_hole (StandsAll-wider w a)

mutual
  -- what a number reaches lies at or below it
  pub Stands-within : {ns : List Node} {id : ℕ} {l : Label} {cs : Slots} {rs : List ℕ} → Stands ns id l cs rs → AreWithin 0 (suc id) rs
  Stands-within (stands {cs} {rs} id h a) = (omega arith, omega arith, AreWithin-wider 0 id 0 (suc id) rs (omega arith) (omega arith) (StandsAll-within a))

  pub StandsAll-within : {ns : List Node} {below : ℕ} {ids : List (Option NodeId)} {cs : Slots} {rs : List ℕ} → StandsAll ns below ids cs rs → AreWithin 0 below rs
  StandsAll-within no_slots = tt
  StandsAll-within {below = below} (next_child {id = id} {rs = rs} {ss = ss} b h a) = AreWithin-append 0 below rs ss (AreWithin-wider 0 (suc id.0) 0 below rs (omega arith) (omega arith) (Stands-within h)) (StandsAll-within a)
  StandsAll-within (next_hole a) = StandsAll-within a

pub Stands-below : {ns : List Node} {id : ℕ} {l : Label} {cs : Slots} {rs : List ℕ} → Stands ns id l cs rs → id < length ns
Stands-below (stands id h a) = h

-- ---- keeping

pub Keeps-refl : (ns : List Node) → Keeps ns ns
Keeps-refl ns = record { more = []; whole = sym (append-nil ns) }

pub Keeps-trans : {ns ms os : List Node} → Keeps ns ms → Keeps ms os → Keeps ns os
Keeps-trans {ns} h k = record { more = h.more ++ k.more; whole = k.whole ∙ ap (λ (xs : List Node). xs ++ k.more) h.whole ∙ append_assoc ns h.more k.more }

pub Keeps-made : {n : Node} {ns ms : List Node} {id : NodeId} → Made n ns ms id → Keeps ns ms
Keeps-made {n} m = record { more = n ∷ []; whole = m.nodes }

pub Keeps-longer : {ns ms : List Node} → Keeps ns ms → length ns ≤ length ms
Keeps-longer {ns} k = let e = ap length k.whole in let l = length-append ns k.more in omega arith

pub agree_kept : (ns more : List Node) (hi : ℕ) (rs : List ℕ) → AreWithin 0 hi rs → hi ≤ length ns → AgreeOn ns (ns ++ more) rs
agree_kept ns more hi [] h w = tt
agree_kept ns more hi (r ∷ rs) h w = (get_or_append_left ns more empty_program r (let a = h.1 in omega arith), agree_kept ns more hi rs h.2 w)

pub Stands-kept : {ns ms : List Node} {id : ℕ} {l : Label} {cs : Slots} {rs : List ℕ} → Keeps ns ms → Stands ns id l cs rs → Stands ms id l cs rs
Stands-kept {ns} {ms} {id} {l} {cs} {rs} k h = let b = Stands-below h in subst (λ (xs : List Node). Stands xs id l cs rs) (sym k.whole) (Stands-agree (let e = length-append ns k.more in omega arith) (agree_kept ns k.more (suc id) rs (Stands-within h) (omega arith)) h)

pub Holds-kept : {ns ms : List Node} {lo hi id : ℕ} {l : Label} {cs : Slots} → Keeps ns ms → Holds ns lo hi id l cs → Holds ms lo hi id l cs
Holds-kept k h = record { numbers = h.numbers; stands = Stands-kept k h.stands; within = h.within; distinct = h.distinct }

pub StandsAll-kept : {ns ms : List Node} {ids : List (Option NodeId)} {cs : Slots} {rs : List ℕ} → Keeps ns ms → StandsAll ns (length ns) ids cs rs → StandsAll ms (length ms) ids cs rs
StandsAll-kept {ns} {ms} {ids} {cs} {rs} k h = let w = Keeps-longer k in StandsAll-wider w (subst (λ (xs : List Node). StandsAll xs (length ns) ids cs rs) (sym k.whole) (StandsAll-agree (let e = length-append ns k.more in omega arith) (agree_kept ns k.more (length ns) rs (StandsAll-within h) (omega arith)) h))

pub HoldsAll-kept : {ns ms : List Node} {lo hi : ℕ} {ids : List (Option NodeId)} {cs : Slots} → Keeps ns ms → HoldsAll ns lo hi ids cs → HoldsAll ms lo hi ids cs
HoldsAll-kept k h = record { order = h.order; numbers = h.numbers; stands = StandsAll-kept k h.stands; within = h.within; distinct = h.distinct }

-- ---- ranges

pub Holds-wider : {ns : List Node} {lo hi id : ℕ} {l : Label} {cs : Slots} (low high : ℕ) → low ≤ lo → hi ≤ high → Holds ns lo hi id l cs → Holds ns low high id l cs
Holds-wider {lo = lo} {hi = hi} low high p q h = record { numbers = h.numbers; stands = h.stands; within = AreWithin-wider lo hi low high h.numbers p q h.within; distinct = h.distinct }

pub HoldsAll-wider : {ns : List Node} {lo hi : ℕ} {ids : List (Option NodeId)} {cs : Slots} (low high : ℕ) → low ≤ lo → hi ≤ high → HoldsAll ns lo hi ids cs → HoldsAll ns low high ids cs
HoldsAll-wider {lo = lo} {hi = hi} low high p q h = record { order = (let o = h.order in omega arith); numbers = h.numbers; stands = h.stands; within = AreWithin-wider lo hi low high h.numbers p q h.within; distinct = h.distinct }

-- the number itself lies in the range
stands_first : {ns : List Node} {lo hi id : ℕ} {l : Label} {cs : Slots} {rs : List ℕ} → Stands ns id l cs rs → AreWithin lo hi rs → (lo ≤ id) × (id < hi)
stands_first (stands id h a) w = (w.0, w.1)

pub Holds-range : {ns : List Node} {lo hi id : ℕ} {l : Label} {cs : Slots} → Holds ns lo hi id l cs → (lo ≤ id) × (id < hi)
Holds-range h = stands_first h.stands h.within

pub Holds-below : {ns : List Node} {lo hi id : ℕ} {l : Label} {cs : Slots} → Holds ns lo hi id l cs → id < length ns
Holds-below h = Stands-below h.stands

-- ---- lists of slots

pub HoldsAll-none : (ns : List Node) (lo hi : ℕ) → lo ≤ hi → HoldsAll ns lo hi [] end
HoldsAll-none ns lo hi w = record { order = w; numbers = []; stands = no_slots; within = tt; distinct = tt }

pub HoldsAll-one : {ns : List Node} {lo hi : ℕ} (id : NodeId) {l : Label} {cs : Slots} → Holds ns lo hi id.0 l cs → HoldsAll ns lo hi (Some id ∷ []) (tree l cs end)
HoldsAll-one {ns} {lo} {hi} id {l} {cs} h = let r = Holds-range h in record {
  order = omega arith;
  numbers = h.numbers ++ [];
  stands = next_child (Holds-below h) h.stands no_slots;
  within = AreWithin-append lo hi h.numbers [] h.within tt;
  distinct = subst AreDistinct (sym (append-nil h.numbers)) h.distinct;
}

pub HoldsAll-one_hole : (ns : List Node) (lo hi : ℕ) → lo ≤ hi → HoldsAll ns lo hi (None ∷ []) (hole end)
HoldsAll-one_hole ns lo hi w = record { order = w; numbers = []; stands = next_hole no_slots; within = tt; distinct = tt }

pub StandsAll-append : {ns : List Node} {below : ℕ} {ids js : List (Option NodeId)} {us vs : Slots} {rs ss : List ℕ} → StandsAll ns below ids us rs → StandsAll ns below js vs ss → StandsAll ns below (ids ++ js) (append us vs) (rs ++ ss)
StandsAll-append no_slots k = k
StandsAll-append {ns} {below} {js = js} {vs = vs} {ss = ss} (next_child {id = id} {ids = ids} {l = l} {cs = cs} {us = us} {rs = ps} {ss = qs} b h a) k = subst (λ (xs : List ℕ). StandsAll ns below (Some id ∷ (ids ++ js)) (tree l cs (append us vs)) xs) (sym (append_assoc ps qs ss)) (next_child b h (StandsAll-append a k))
StandsAll-append (next_hole a) k = next_hole (StandsAll-append a k)

-- The rule to join two lists of slots: no number is reached by both.
pub HoldsAll-join : {ns : List Node} {lo hi : ℕ} {ids js : List (Option NodeId)} {us vs : Slots} → (a : HoldsAll ns lo hi ids us) → (b : HoldsAll ns lo hi js vs) → AreApart a.numbers b.numbers → HoldsAll ns lo hi (ids ++ js) (append us vs)
HoldsAll-join {lo = lo} {hi = hi} a b p = record { order = a.order; numbers = a.numbers ++ b.numbers; stands = StandsAll-append a.stands b.stands; within = AreWithin-append lo hi a.numbers b.numbers a.within b.within; distinct = AreDistinct-append a.numbers b.numbers a.distinct b.distinct p }

-- The second list was made after the first.
pub HoldsAll-append : {ns : List Node} {lo mid hi : ℕ} {ids js : List (Option NodeId)} {us vs : Slots} → HoldsAll ns lo mid ids us → HoldsAll ns mid hi js vs → HoldsAll ns lo hi (ids ++ js) (append us vs)
unfolding HoldsAll-wider
HoldsAll-append {lo = lo} {mid = mid} {hi = hi} a b = let p = a.order in let q = b.order in HoldsAll-join (HoldsAll-wider lo hi (omega arith) q a) (HoldsAll-wider lo hi p (omega arith) b) (AreApart-before lo mid hi a.numbers b.numbers a.within b.within)

-- The first list was made after the second.
pub HoldsAll-append_late : {ns : List Node} {lo mid hi : ℕ} {ids js : List (Option NodeId)} {us vs : Slots} → HoldsAll ns mid hi ids us → HoldsAll ns lo mid js vs → HoldsAll ns lo hi (ids ++ js) (append us vs)
unfolding HoldsAll-wider
HoldsAll-append_late {lo = lo} {mid = mid} {hi = hi} a b = let p = a.order in let q = b.order in HoldsAll-join (HoldsAll-wider lo hi q (omega arith) a) (HoldsAll-wider lo hi (omega arith) p b) (AreApart-behind lo mid hi a.numbers b.numbers a.within b.within)

-- one child more, made since
pub HoldsAll-next : {ns ms : List Node} {lo : ℕ} {ids : List (Option NodeId)} {us : Slots} (id : NodeId) {l : Label} {cs : Slots} → Keeps ns ms → HoldsAll ns lo (length ns) ids us → Holds ms (length ns) (length ms) id.0 l cs → HoldsAll ms lo (length ms) (ids ++ Some id ∷ []) (append us (tree l cs end))
HoldsAll-next id k a h = HoldsAll-append (HoldsAll-kept k a) (HoldsAll-one id h)

-- one empty slot more
pub HoldsAll-hole : {ns : List Node} {lo hi : ℕ} {ids : List (Option NodeId)} {us : Slots} → HoldsAll ns lo hi ids us → HoldsAll ns lo hi (ids ++ None ∷ []) (append us (hole end))
HoldsAll-hole {ns} {lo} {hi} a = HoldsAll-append a (HoldsAll-one_hole ns hi hi (omega arith))

-- two children, the second made since
pub HoldsAll-two : {ns ms : List Node} {lo : ℕ} (a b : NodeId) {l m : Label} {cs ds : Slots} → Keeps ns ms → Holds ns lo (length ns) a.0 l cs → Holds ms (length ns) (length ms) b.0 m ds → HoldsAll ms lo (length ms) (Some a ∷ Some b ∷ []) (tree l cs (tree m ds end))
HoldsAll-two a b k h g = HoldsAll-next b k (HoldsAll-one a h) g

-- ---- new nodes

-- a node made of slots that were held stands for the tree of these
pub Made-holds : {n : Node} {ns ms : List Node} {id : NodeId} {lo : ℕ} {cs : Slots} → Made n ns ms id → HoldsAll ns lo (length ns) n.children cs → Holds ms lo (length ms) id.0 (label n) cs
Made-holds {n} {ns} {ms} {id} {lo} {cs} m h =
    let k = length_push ns n in
    let e = ap length m.nodes in
    let o = h.order in
    let i = m.number in
    let at : get_or ms id.0 empty_program ≡ n = ap (λ (xs : List Node). get_or xs id.0 empty_program) m.nodes ∙ get_or_push ns n empty_program id.0 (sym i) in
    let all : StandsAll ms (length ns) n.children cs h.numbers = subst (λ (xs : List Node). StandsAll xs (length ns) n.children cs h.numbers) (sym m.nodes) (StandsAll-agree (omega arith) (agree_kept ns (n ∷ []) (length ns) h.numbers (StandsAll-within h.stands) (omega arith)) h.stands) in
    record {
      numbers = id.0 ∷ h.numbers;
      stands = subst (λ (x : Node). Stands ms id.0 (label x) cs (id.0 ∷ h.numbers)) at (stands id.0 (omega arith) (subst (λ (x : Node). StandsAll ms id.0 x.children cs h.numbers) (sym at) (StandsAll-wider (omega arith) all)));
      within = (omega arith, omega arith, AreWithin-wider lo (length ns) lo (length ms) h.numbers (omega arith) (omega arith) h.within);
      distinct = (Lacks-below h.numbers lo (length ns) id.0 h.within (omega arith), h.distinct);
    }

-- ---- other flags

-- a label with these flags
abbrev pub flagged : NodeFlags → Label → Label
flagged f l = record l { flags = number_of f }

agree_flags : (ns : List Node) (id : NodeId) (f : NodeFlags) (rs : List ℕ) → Lacks rs id.0 → AgreeOn ns (flags_set ns id f) rs
agree_flags ns id f [] h = tt
agree_flags ns id f (r ∷ rs) h = (get_or-set_other ns id.0 r (with_flags f (node_at ns id)) empty_program h.0, agree_flags ns id f rs h.1)

-- what doesn't reach the node stays
pub Holds-flags_apart : {ns : List Node} {lo hi id : ℕ} {l : Label} {cs : Slots} (at : NodeId) (f : NodeFlags) → (h : Holds ns lo hi id l cs) → Lacks h.numbers at.0 → Holds (flags_set ns at f) lo hi id l cs
Holds-flags_apart {ns} at f h w = record { numbers = h.numbers; stands = Stands-agree (let e = length-set ns at.0 (with_flags f (node_at ns at)) in omega arith) (agree_flags ns at f h.numbers w) h.stands; within = h.within; distinct = h.distinct }

stands_flagged : {ns : List Node} {id : ℕ} {l : Label} {cs : Slots} {rs : List ℕ} (at : NodeId) (f : NodeFlags) → at.0 ≡ id → Stands ns id l cs rs → Stands (flags_set ns at f) id (flagged f l) cs rs
stands_flagged {ns} at f e (stands {cs} {rs} id h a) =
    let n = get_or ns id empty_program in
    let ms = flags_set ns at f in
    let here : get_or ms id empty_program ≡ with_flags f (node_at ns at) = ap (λ (k : ℕ). get_or (set ns k (with_flags f (node_at ns at))) id empty_program) e ∙ get_or-set_same ns id (with_flags f (node_at ns at)) empty_program h in
    let same : get_or ms id empty_program ≡ with_flags f n = here ∙ ap (λ (k : ℕ). with_flags f (get_or ns k empty_program)) e in
    let all : StandsAll ms id n.children cs rs = StandsAll-agree (let q = length-set ns at.0 (with_flags f (node_at ns at)) in omega arith) (agree_flags ns at f rs (Lacks-below rs 0 id at.0 (StandsAll-within a) (omega arith))) a in
    subst (λ (x : Node). Stands ms id (label x) cs (id ∷ rs)) same (stands id (let q = length-set ns at.0 (with_flags f (node_at ns at)) in omega arith) (subst (λ (x : Node). StandsAll ms id x.children cs rs) (sym same) all))

-- the node itself has these flags now
pub Holds-flagged : {ns : List Node} {lo hi : ℕ} {l : Label} {cs : Slots} (at : NodeId) (f : NodeFlags) → Holds ns lo hi at.0 l cs → Holds (flags_set ns at f) lo hi at.0 (flagged f l) cs
Holds-flagged at f h = record { numbers = h.numbers; stands = stands_flagged at f refl h.stands; within = h.within; distinct = h.distinct }

-- nodes from before stay where a later one gets flags
pub Keeps-flags : {ns ms : List Node} (at : NodeId) (f : NodeFlags) → Keeps ns ms → length ns ≤ at.0 → Keeps ns (flags_set ms at f)
Keeps-flags {ns} {ms} at f k w = let n = with_flags f (node_at ms at) in record { more = set k.more (at.0 - length ns) n; whole = ap (λ (xs : List Node). set xs at.0 n) k.whole ∙ set-append_right ns k.more (length ns) at.0 n refl w }

-- ---- the whole program

-- the other nodes stay
pub behind_program : (p : Node) (ns : List Node) (i : ℕ) → 1 ≤ i → get_or (with_program p ns) i empty_program ≡ get_or ns i empty_program
behind_program p ns zero w = absurd (omega arith)
behind_program p [] (suc i) w = refl
behind_program p (n ∷ ns) (suc i) w = refl

agree_program : (p : Node) (ns : List Node) (hi : ℕ) (rs : List ℕ) → AreWithin 1 hi rs → AgreeOn ns (with_program p ns) rs
agree_program p ns hi [] h = tt
agree_program p ns hi (r ∷ rs) h = (behind_program p ns r h.0, agree_program p ns hi rs h.2)

pub length-with_program : (p : Node) (ns : List Node) → 1 ≤ length ns → length (with_program p ns) ≡ length ns
length-with_program p [] w = absurd (omega arith)
length-with_program p (n ∷ ns) w = refl

-- what its children hold is the tree of the program
pub IsTree-finished : (s : Span) (ids : List (Option NodeId)) (ns : List Node) (cs : Slots) → HoldsAll ns 1 (length ns) ids cs → IsTree (with_program (program_node s ids) ns) (program_tree s cs)
IsTree-finished s ids ns cs h =
    let p = program_node s ids in
    let l = length-with_program p ns h.order in
    record {
      program = p;
      first = refl;
      label = refl;
      children = subst (λ (k : ℕ). HoldsAll (with_program p ns) 1 k ids cs) (sym l) (record {
        order = h.order;
        numbers = h.numbers;
        stands = subst (λ (k : ℕ). StandsAll (with_program p ns) k ids cs h.numbers) (sym l) (StandsAll-agree (omega arith) (agree_program p ns (length ns) h.numbers h.within) h.stands);
        within = h.within;
        distinct = h.distinct;
      });
    }
