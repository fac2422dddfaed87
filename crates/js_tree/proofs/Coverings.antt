-- Whether a shorthand with an initialiser may be reached from each number (CoverInitializedName, ECMA-262, 13.2.5).
use Rattle.std.proofs.Common.{◌≡◌, ℕ, zero, suc, ◌+◌, ◌<◌, ◌≤◌, Bool, true, false, cond, ◌&&◌, ◌||◌, List, [], ◌∷◌, ◌++◌, length, take, drop, set, Option, Some, None, nat_lt, get_or, refl, ap, sym, ◌∙◌, arith, inl, inr, lt-ltb, le-ltb, ltb-true, add-one, length-set, take-append-drop}
use Rattle.std.proofs.lemmas.Bool.{cases_lt, or_parts}
use Rattle.std.proofs.lemmas.List.{get_or-take, get_or_append_left, get_or_push, length-take, length_push}
use Rattle.std.proofs.Math.Bool.{or-false, or_assoc}
use Rattle.js_base.specs.declared.span.Span.{Span}
use Rattle.js_grammar.specs.Trees.{Label, Slots}
use Rattle.js_grammar.specs.CoverInitialisers.{initialised_in, has_third, is_initialised, is_property}
use Rattle.js_tree.specs.declared.flags.NodeFlags.{NodeFlags}
use Rattle.js_tree.specs.declared.id.NodeId.{NodeId}
use Rattle.js_tree.specs.Nodes.{Node, label, node_at, empty_program, program_node, with_flags, flags_set}
use Rattle.js_tree.specs.Holding.{Stands, stands, StandsAll, no_slots, next_child, next_hole, AreWithin, with_program}
use Rattle.js_tree.specs.Covering.{AreCovers, HasNone, covered_in, may_cover}
use Rattle.js_tree.proofs.CountLemmas.{first_is}
use Rattle.js_tree.proofs.CoverLemmas.{third_is}
use Rattle.js_tree.proofs.HoldingLemmas.{AreWithin-left, AreWithin-right, behind_program, length-with_program}

-- ---- more nodes

known_one : (b x y : Bool) → (b ≡ true → x ≡ y) → (b && x) ≡ (b && y)
known_one true x y h = h refl
known_one false x y h = refl

-- behind the others
known_longer : (covers more : List Bool) (below : ℕ) (ids : List (Option NodeId)) → below ≤ length covers → covered_in (covers ++ more) below ids ≡ covered_in covers below ids
known_longer covers more below [] w = refl
known_longer covers more below (None ∷ ids) w = known_longer covers more below ids w
known_longer covers more below (Some id ∷ ids) w =
    let one = known_one (nat_lt id.0 below) (get_or (covers ++ more) id.0 false) (get_or covers id.0 false) (λ t. let b = ltb-true id.0 below t in get_or_append_left covers more false id.0 (omega arith)) in
    let others = known_longer covers more below ids w in
    λ j. one j || others j

-- of one slot
pub none_known : (covers : List Bool) (below : ℕ) (slot : Option NodeId) → ((id : NodeId) → slot ≡ Some id → ⊥) → covered_in covers below (slot ∷ []) ≡ false
none_known covers below None n = refl
none_known covers below (Some id) n = absurd (n id refl)

pub child_known : (covers : List Bool) (below : ℕ) (slot : Option NodeId) (id : NodeId) → slot ≡ Some id → id.0 < below → covered_in covers below (slot ∷ []) ≡ get_or covers id.0 false
child_known covers below slot id e b = rw (e, lt-ltb id.0 below b) (or-false (get_or covers id.0 false))

pub beyond_known : (covers : List Bool) (below : ℕ) (slot : Option NodeId) (id : NodeId) → slot ≡ Some id → below ≤ id.0 → covered_in covers below (slot ∷ []) ≡ false
beyond_known covers below slot id e b = rw (e, le-ltb id.0 below b) refl

one_more : (covers : List Bool) (below : ℕ) (ids : List (Option NodeId)) (i : ℕ) (d : Option NodeId) → i < length ids → covered_in covers below (take (suc i) ids) ≡ (covered_in covers below (take i ids) || covered_in covers below (get_or ids i d ∷ []))
one_more covers below [] i d w = absurd (omega arith)
one_more covers below (None ∷ ids) zero d w = refl
one_more covers below (Some id ∷ ids) zero d w = refl
one_more covers below (None ∷ ids) (suc i) d w = one_more covers below ids i d (omega arith)
one_more covers below (Some id ∷ ids) (suc i) d w = ap (λ (b : Bool). (nat_lt id.0 below && get_or covers id.0 false) || b) (one_more covers below ids i d (omega arith)) ∙ sym (or_assoc (nat_lt id.0 below && get_or covers id.0 false) (covered_in covers below (take i ids)) (covered_in covers below (get_or ids i d ∷ [])))

-- so far as children were looked at
pub known_next : (itself : Bool) (covers : List Bool) (below : ℕ) (ids : List (Option NodeId)) (i : ℕ) (d : Option NodeId) → i < length ids → (itself || covered_in covers below (take (i + 1) ids)) ≡ ((itself || covered_in covers below (take i ids)) || covered_in covers below (get_or ids i d ∷ []))
known_next itself covers below ids i d w = rw add-one (ap (λ (b : Bool). itself || b) (one_more covers below ids i d w) ∙ sym (or_assoc itself (covered_in covers below (take i ids)) (covered_in covers below (get_or ids i d ∷ []))))

pub AreCovers-new : AreCovers (empty_program ∷ []) (false ∷ [])
AreCovers-new = record { one_each = refl; each = first }
  where
    first : (i : ℕ) → i < 1 → get_or (false ∷ []) i false ≡ (may_cover (get_or (empty_program ∷ []) i empty_program) || covered_in (false ∷ []) i (get_or (empty_program ∷ []) i empty_program).children)
    first zero w = refl
    first (suc i) w = absurd (omega arith)

-- one node more, and what is known of it
pub AreCovers-appended : (ns : List Node) (n : Node) (covers : List Bool) → AreCovers ns covers → AreCovers (ns ++ n ∷ []) (covers ++ (may_cover n || covered_in covers (length covers) n.children) ∷ [])
AreCovers-appended ns n covers h =
    let known = may_cover n || covered_in covers (length covers) n.children in
    let e = h.one_each in
    let l = length_push ns n in
    let m = length_push covers known in
    let told : ℕ → Node → Bool = (λ i x. may_cover x || covered_in (covers ++ known ∷ []) i x.children) in
    let before : (i : ℕ) → i < length ns → get_or (covers ++ known ∷ []) i false ≡ told i (get_or (ns ++ n ∷ []) i empty_program) =
    (λ i w. get_or_append_left covers (known ∷ []) false i (omega arith) ∙ h.each i w
    ∙ ap (λ (b : Bool). may_cover (get_or ns i empty_program) || b) (sym (known_longer covers (known ∷ []) i (get_or ns i empty_program).children (omega arith)))
    ∙ ap (told i) (sym (get_or_append_left ns (n ∷ []) empty_program i w))) in
    let last : (i : ℕ) → i ≡ length ns → get_or (covers ++ known ∷ []) i false ≡ told i (get_or (ns ++ n ∷ []) i empty_program) =
    (λ i w. get_or_push covers known false i (e ∙ sym w)
    ∙ ap (λ (k : ℕ). may_cover n || covered_in covers k n.children) (e ∙ sym w)
    ∙ ap (λ (b : Bool). may_cover n || b) (sym (known_longer covers (known ∷ []) i n.children (omega arith)))
    ∙ ap (told i) (sym (get_or_push ns n empty_program i (sym w)))) in
    record { one_each = omega arith; each = λ i w. elim (cases_lt i (length ns)) [ inl b ↦ before i b | inr b ↦ last i (omega arith) ] }

-- the first nodes
pub AreCovers-truncated : (ns : List Node) (covers : List Bool) (n : ℕ) → AreCovers ns covers → AreCovers (take n ns) (take n covers)
AreCovers-truncated ns covers n h =
    let l = length-take n ns in
    let m = length-take n covers in
    let e = h.one_each in
    let told : ℕ → Node → Bool = (λ i x. may_cover x || covered_in (take n covers) i x.children) in
    record {
      one_each = omega arith;
      each = λ i w.
          get_or-take n covers i false (omega arith) ∙ h.each i (omega arith)
          ∙ ap (λ (v : List Bool). may_cover (get_or ns i empty_program) || covered_in v i (get_or ns i empty_program).children) (sym (take-append-drop n covers))
          ∙ ap (λ (b : Bool). may_cover (get_or ns i empty_program) || b) (known_longer (take n covers) (drop n covers) i (get_or ns i empty_program).children (omega arith))
          ∙ ap (told i) (sym (get_or-take n ns i empty_program (omega arith)));
    }

flags_same : (covers : List Bool) (j : ℕ) (f : NodeFlags) (ns : List Node) (k i : ℕ) → (may_cover (get_or (set ns k (with_flags f (get_or ns k empty_program))) i empty_program) || covered_in covers j (get_or (set ns k (with_flags f (get_or ns k empty_program))) i empty_program).children) ≡ (may_cover (get_or ns i empty_program) || covered_in covers j (get_or ns i empty_program).children)
flags_same covers j f [] k i = refl
flags_same covers j f (n ∷ ns) zero zero = refl
flags_same covers j f (n ∷ ns) zero (suc i) = refl
flags_same covers j f (n ∷ ns) (suc k) zero = refl
flags_same covers j f (n ∷ ns) (suc k) (suc i) = flags_same covers j f ns k i

-- flags don't matter
pub AreCovers-flags : (ns : List Node) (covers : List Bool) (id : NodeId) (f : NodeFlags) → AreCovers ns covers → AreCovers (flags_set ns id f) covers
AreCovers-flags ns covers id f h =
    let l = length-set ns id.0 (with_flags f (node_at ns id)) in
    let e = h.one_each in
    record { one_each = omega arith; each = λ i w. h.each i (omega arith) ∙ sym (flags_same covers i f ns id.0 i) }

-- ---- a tree without one

abbrev AreKnown : List Node → List Bool → ℕ → Type 0
AreKnown ms covers lo = (i : ℕ) → lo ≤ i → i < length ms → get_or covers i false ≡ (may_cover (get_or ms i empty_program) || covered_in covers i (get_or ms i empty_program).children)

third_of : (a c : Bool) (b d : Bool) → (a && c) ≡ false → d ≡ c → ((a && b) && d) ≡ false
third_of true c true d h e = e ∙ h
third_of true c false d h e = refl
third_of false c b d h e = refl

mutual
  none_from : (covers : List Bool) (lo hi : ℕ) {ms : List Node} {id : ℕ} {l : Label} {cs : Slots} {rs : List ℕ} → AreKnown ms covers lo → AreWithin lo hi rs → Stands ms id l cs rs → get_or covers id false ≡ false → (is_initialised l cs ≡ false) × (initialised_in cs ≡ [])
  none_from covers lo hi {ms} k w (stands {cs} id h a) e =
      let n = get_or ms id empty_program in
      let z = or_parts (may_cover n) (covered_in covers id n.children) (sym (k id w.0 h) ∙ e) in
      (third_of (is_property (label n).kind) (nat_lt 2 (length n.children)) _ (has_third cs) z.0 (third_is a), none_below covers lo hi k w.2 a z.1)

  none_below : (covers : List Bool) (lo hi : ℕ) {ms : List Node} {below : ℕ} {ids : List (Option NodeId)} {cs : Slots} {rs : List ℕ} → AreKnown ms covers lo → AreWithin lo hi rs → StandsAll ms below ids cs rs → covered_in covers below ids ≡ false → initialised_in cs ≡ []
  none_below covers lo hi k w no_slots e = refl
  none_below covers lo hi {below = below} k w (next_child {id = id} {ids = ids} {l = l} {cs = cs} {us = us} {rs = rs} {ss = ss} b h a) e =
      let z = or_parts (nat_lt id.0 below && get_or covers id.0 false) (covered_in covers below ids) e in
      let one = none_from covers lo hi k (AreWithin-left lo hi rs ss w) h (sym (ap (λ (t : Bool). t && get_or covers id.0 false) (lt-ltb id.0 below b)) ∙ z.0) in
      let others = none_below covers lo hi k (AreWithin-right lo hi rs ss w) a z.1 in
      λ j. cond (one.0 j) (l.span ∷ []) [] ++ (one.1 j ++ others j)
  none_below covers lo hi k w (next_hole a) e = none_below covers lo hi k w a e

-- the tree of Program, whose children are these now
pub HasNone-finished : (s : Span) (ids : List (Option NodeId)) (ns : List Node) (covers : List Bool) → 0 < length ns → AreCovers ns covers → (false || covered_in covers (length covers) ids) ≡ false → HasNone (with_program (program_node s ids) ns)
HasNone-finished s ids ns covers some h f t g =
    let p = program_node s ids in
    let l = length-with_program p ns some in
    let e = h.one_each in
    let q : p ≡ g.program = sym (first_is (with_program p ns) p refl) ∙ first_is (with_program p ns) g.program g.first in
    let k : length covers ≡ length (with_program p ns) = omega arith in
    let c : AreKnown (with_program p ns) covers 1 = (λ i w b. h.each i (omega arith) ∙ ap (λ (n : Node). may_cover n || covered_in covers i n.children) (sym (behind_program p ns i w))) in
    none_below covers 1 (length (with_program p ns)) c (g.children).within (g.children).stands ((λ j. covered_in covers (sym k j) (sym q j).children) ∙ f)
