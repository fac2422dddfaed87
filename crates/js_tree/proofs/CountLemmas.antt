-- The counts of the nodes that are reached from each number.
use Rattle.std.proofs.Common.{◌≡◌, ℕ, zero, suc, ◌+◌, ◌<◌, ◌≤◌, Bool, true, false, cond, List, [], ◌∷◌, ◌++◌, length, take, drop, set, Option, Some, None, nat_lt, get_or, slice_get, refl, ap, sym, ◌∙◌, arith, inl, inr, lt-ltb, le-ltb, ltb-true, add-one, length-append, length-set, take-append-drop}
use Rattle.std.proofs.lemmas.Bool.{cases_lt}
use Rattle.std.proofs.lemmas.List.{get_or-take, get_or_append_left, get_or_push, length-take, length_push}
use Rattle.js_base.specs.declared.span.Span.{Span}
use Rattle.js_grammar.specs.Trees.{Label, Slots}
use Rattle.js_grammar.specs.BoundNames.{every}
use Rattle.js_tree.specs.declared.flags.NodeFlags.{NodeFlags}
use Rattle.js_tree.specs.declared.id.NodeId.{NodeId}
use Rattle.js_tree.specs.Nodes.{Node, node_at, empty_program, program_node, with_flags, flags_set}
use Rattle.js_tree.specs.Holding.{Stands, stands, StandsAll, no_slots, next_child, next_hole, AreWithin, with_program}
use Rattle.js_tree.specs.Counting.{nodes_in, counted, AreCounts, IsCount}
use Rattle.js_tree.specs.Parts.{below_all}
use Rattle.js_tree.proofs.HoldingLemmas.{AreWithin-left, AreWithin-right, behind_program, length-with_program}
use Rattle.js_tree.proofs.WeightLemmas.{stack_weight, stack_weight-append, part_below_lighter}

-- ---- counts of more nodes

counted_one : (b : Bool) (x y : ℕ) → (b ≡ true → x ≡ y) → cond b x 0 ≡ cond b y 0
counted_one true x y h = h refl
counted_one false x y h = refl

-- more counts behind the others
counted_longer : (counts more : List ℕ) (below : ℕ) (ids : List (Option NodeId)) → below ≤ length counts → counted (counts ++ more) below ids ≡ counted counts below ids
counted_longer counts more below [] w = refl
counted_longer counts more below (None ∷ ids) w = counted_longer counts more below ids w
counted_longer counts more below (Some id ∷ ids) w =
    let one = counted_one (nat_lt id.0 below) (get_or (counts ++ more) id.0 0) (get_or counts id.0 0) (λ t. let b = ltb-true id.0 below t in get_or_append_left counts more 0 id.0 (omega arith)) in
    let others = counted_longer counts more below ids w in
    λ j. one j + others j

-- of one slot
pub counted_none : (counts : List ℕ) (below : ℕ) (slot : Option NodeId) → ((id : NodeId) → slot ≡ Some id → ⊥) → counted counts below (slot ∷ []) ≡ 0
counted_none counts below None n = refl
counted_none counts below (Some id) n = absurd (n id refl)

pub counted_some : (counts : List ℕ) (below : ℕ) (slot : Option NodeId) (id : NodeId) → slot ≡ Some id → id.0 < below → counted counts below (slot ∷ []) ≡ get_or counts id.0 0
counted_some counts below slot id e b = rw (e, lt-ltb id.0 below b) (omega arith)

pub counted_beyond : (counts : List ℕ) (below : ℕ) (slot : Option NodeId) (id : NodeId) → slot ≡ Some id → below ≤ id.0 → counted counts below (slot ∷ []) ≡ 0
counted_beyond counts below slot id e b = rw (e, le-ltb id.0 below b) refl

one_more : (counts : List ℕ) (below : ℕ) (ids : List (Option NodeId)) (i : ℕ) (d : Option NodeId) → i < length ids → counted counts below (take (suc i) ids) ≡ counted counts below (take i ids) + counted counts below (get_or ids i d ∷ [])
one_more counts below [] i d w = absurd (omega arith)
one_more counts below (None ∷ ids) zero d w = refl
one_more counts below (Some id ∷ ids) zero d w = omega arith
one_more counts below (None ∷ ids) (suc i) d w = one_more counts below ids i d (omega arith)
one_more counts below (Some id ∷ ids) (suc i) d w = let h = one_more counts below ids i d (omega arith) in omega arith

-- so far as children were looked at
pub counted_next : (counts : List ℕ) (below : ℕ) (ids : List (Option NodeId)) (i : ℕ) (d : Option NodeId) → i < length ids → counted counts below (take (i + 1) ids) ≡ counted counts below (take i ids) + counted counts below (get_or ids i d ∷ [])
counted_next counts below ids i d w = rw add-one (one_more counts below ids i d w)

pub AreCounts-new : AreCounts (empty_program ∷ []) (1 ∷ [])
AreCounts-new = record { some = omega arith; one_each = refl; each = first }
  where
    first : (i : ℕ) → i < 1 → get_or (1 ∷ []) i 0 ≡ suc (counted (1 ∷ []) i (get_or (empty_program ∷ []) i empty_program).children)
    first zero w = refl
    first (suc i) w = absurd (omega arith)

-- one node more, and its count
pub AreCounts-appended : (ns : List Node) (n : Node) (counts : List ℕ) → AreCounts ns counts → AreCounts (ns ++ n ∷ []) (counts ++ suc (counted counts (length counts) n.children) ∷ [])
AreCounts-appended ns n counts h =
    let count = suc (counted counts (length counts) n.children) in
    let e = h.one_each in
    let l = length_push ns n in
    let m = length_push counts count in
    let before : (i : ℕ) → i < length ns → get_or (counts ++ count ∷ []) i 0 ≡ suc (counted (counts ++ count ∷ []) i (get_or (ns ++ n ∷ []) i empty_program).children) =
    (λ i w. get_or_append_left counts (count ∷ []) 0 i (omega arith) ∙ h.each i w
    ∙ ap suc (sym (counted_longer counts (count ∷ []) i (get_or ns i empty_program).children (omega arith)))
    ∙ ap (λ (x : Node). suc (counted (counts ++ count ∷ []) i x.children)) (sym (get_or_append_left ns (n ∷ []) empty_program i w))) in
    let last : (i : ℕ) → i ≡ length ns → get_or (counts ++ count ∷ []) i 0 ≡ suc (counted (counts ++ count ∷ []) i (get_or (ns ++ n ∷ []) i empty_program).children) =
    (λ i w. get_or_push counts count 0 i (e ∙ sym w)
    ∙ ap (λ (k : ℕ). suc (counted counts k n.children)) (e ∙ sym w)
    ∙ ap suc (sym (counted_longer counts (count ∷ []) i n.children (omega arith)))
    ∙ ap (λ (x : Node). suc (counted (counts ++ count ∷ []) i x.children)) (sym (get_or_push ns n empty_program i (sym w)))) in
    let some = h.some in
    record { some = omega arith; one_each = omega arith; each = λ i w. elim (cases_lt i (length ns)) [ inl b ↦ before i b | inr b ↦ last i (omega arith) ] }

-- the first nodes
pub AreCounts-truncated : (ns : List Node) (counts : List ℕ) (n : ℕ) → 0 < n → AreCounts ns counts → AreCounts (take n ns) (take n counts)
AreCounts-truncated ns counts n p h =
    let l = length-take n ns in
    let m = length-take n counts in
    let e = h.one_each in
    let some = h.some in
    record {
      some = omega arith;
      one_each = omega arith;
      each = λ i w.
          get_or-take n counts i 0 (omega arith) ∙ h.each i (omega arith)
          ∙ ap (λ (v : List ℕ). suc (counted v i (get_or ns i empty_program).children)) (sym (take-append-drop n counts))
          ∙ ap suc (counted_longer (take n counts) (drop n counts) i (get_or ns i empty_program).children (omega arith))
          ∙ ap (λ (x : Node). suc (counted (take n counts) i x.children)) (sym (get_or-take n ns i empty_program (omega arith)));
    }

flags_children : (f : NodeFlags) (ns : List Node) (k i : ℕ) → (get_or (set ns k (with_flags f (get_or ns k empty_program))) i empty_program).children ≡ (get_or ns i empty_program).children
flags_children f [] k i = refl
flags_children f (n ∷ ns) zero zero = refl
flags_children f (n ∷ ns) zero (suc i) = refl
flags_children f (n ∷ ns) (suc k) zero = refl
flags_children f (n ∷ ns) (suc k) (suc i) = flags_children f ns k i

-- flags aren't counted
pub AreCounts-flags : (ns : List Node) (counts : List ℕ) (id : NodeId) (f : NodeFlags) → AreCounts ns counts → AreCounts (flags_set ns id f) counts
AreCounts-flags ns counts id f h =
    let l = length-set ns id.0 (with_flags f (node_at ns id)) in
    let e = h.one_each in
    let some = h.some in
    record { some = omega arith; one_each = omega arith; each = λ i w. h.each i (omega arith) ∙ ap (λ (ids : List (Option NodeId)). suc (counted counts i ids)) (sym (flags_children f ns id.0 i)) }

-- ---- the count of a tree

mutual
  stands_count : {ns : List Node} {id : ℕ} {l : Label} {cs : Slots} {rs : List ℕ} → Stands ns id l cs rs → length rs ≡ suc (nodes_in cs)
  stands_count (stands id h a) = ap suc (all_count a)

  all_count : {ns : List Node} {below : ℕ} {ids : List (Option NodeId)} {cs : Slots} {rs : List ℕ} → StandsAll ns below ids cs rs → length rs ≡ nodes_in cs
  all_count no_slots = refl
  all_count (next_child {rs = rs} {ss = ss} b h a) = let e = stands_count h in let f = all_count a in let g = length-append rs ss in omega arith
  all_count (next_hole a) = all_count a

pub first_is : (ns : List Node) (p : Node) → slice_get ns 0 ≡ Some p → get_or ns 0 empty_program ≡ p
first_is [] p e = absurd (let k = e in cc)
first_is (n ∷ ns) p e = let q : n ≡ p = cc in q

-- in the store ms the numbers from lo on have the children that were counted
abbrev AreCounted : List Node → List ℕ → ℕ → Type 0
AreCounted ms counts lo = (i : ℕ) → lo ≤ i → i < length ms → get_or counts i 0 ≡ suc (counted counts i (get_or ms i empty_program).children)

mutual
  number_counted : (counts : List ℕ) (lo hi : ℕ) {ms : List Node} {id : ℕ} {l : Label} {cs : Slots} {rs : List ℕ} → AreCounted ms counts lo → AreWithin lo hi rs → Stands ms id l cs rs → get_or counts id 0 ≡ length rs
  number_counted counts lo hi c w (stands id h a) = c id w.0 h ∙ ap suc (children_counted counts lo hi c w.2 a)

  children_counted : (counts : List ℕ) (lo hi : ℕ) {ms : List Node} {below : ℕ} {ids : List (Option NodeId)} {cs : Slots} {rs : List ℕ} → AreCounted ms counts lo → AreWithin lo hi rs → StandsAll ms below ids cs rs → counted counts below ids ≡ length rs
  children_counted counts lo hi c w no_slots = refl
  children_counted counts lo hi {below = below} c w (next_child {id = id} {rs = rs} {ss = ss} b h a) =
      let one = number_counted counts lo hi c (AreWithin-left lo hi rs ss w) h in
      let others = children_counted counts lo hi c (AreWithin-right lo hi rs ss w) a in
      let l = length-append rs ss in
      rw (lt-ltb id.0 below b) (omega arith)
  children_counted counts lo hi c w (next_hole a) = children_counted counts lo hi c w a

-- the count of Program, whose children are these now
pub IsCount-finished : (s : Span) (ids : List (Option NodeId)) (ns : List Node) (counts : List ℕ) → AreCounts ns counts → IsCount (with_program (program_node s ids) ns) (suc (counted counts (length counts) ids))
IsCount-finished s ids ns counts h t g =
    let p = program_node s ids in
    let l = length-with_program p ns h.some in
    let e = h.one_each in
    let q : p ≡ g.program = sym (first_is (with_program p ns) p refl) ∙ first_is (with_program p ns) g.program g.first in
    let a = (g.children).stands in
    let c : AreCounted (with_program p ns) counts 1 = (λ i w b. h.each i (omega arith) ∙ ap (λ (n : Node). suc (counted counts i n.children)) (sym (behind_program p ns i w))) in
    let whole = children_counted counts 1 (length (with_program p ns)) c (g.children).within a in
    let nodes = all_count a in
    let k : length counts ≡ length (with_program p ns) = omega arith in
    ap suc ((λ j. counted counts (k j) (q j).children) ∙ whole ∙ nodes)

pub children_lighter : (ns : List Node) (ps : List NodeId) (id : NodeId) → stack_weight ns (ps ++ below_all id.0 (node_at ns id).children) < stack_weight ns (ps ++ id ∷ [])
children_lighter ns ps id = let a = stack_weight-append ns ps (below_all id.0 (node_at ns id).children) in let b = stack_weight-append ns ps (id ∷ []) in let h = part_below_lighter ns every id.0 in omega arith
