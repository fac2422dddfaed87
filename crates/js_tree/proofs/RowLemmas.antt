-- What a change of columns is as a change of the list of nodes.
use Rattle.std.proofs.Common.{◌≡◌, ℕ, zero, suc, ◌+◌, ◌<◌, ◌≤◌, List, [], ◌∷◌, ◌++◌, map, length, get_or, take, drop, set, Option, Some, None, refl, ap, sym, ◌∙◌, subst, arith, add-one, inl, inr, length-set, length-drop, get_or-set_same, get_or-set_other, length-append, take-append-drop, eq-eqb}
use Rattle.std.proofs.lemmas.List.{get_or_append_left, get_or_push, get_or_past, get_or-take, length-take-le, length_push, take-append-le, drop-append-le, drop_at, take_all, take_more, map_push, get_or_read}
use Rattle.std.proofs.lemmas.Bool.{cases_lt, cases_order, ne_eqb}
use Rattle.std.specs.Ordering.{nat_cmp}
use Rattle.std.specs.BTreeMap.{BTreeMap, get}
use Rattle.js_base.specs.declared.span.Span.{Span}
use Rattle.js_tree.specs.declared.columns.Entry.{Entry}
use Rattle.js_tree.specs.declared.flags.NodeFlags.{NodeFlags}
use Rattle.js_tree.specs.declared.id.NodeId.{NodeId}
use Rattle.js_tree.specs.declared.kind.NodeKind.{NodeKind}
use Rattle.js_tree.specs.declared.kind.NodeKind.TheVariants as node
use Rattle.js_tree.specs.declared.op.Op.{Op}
use Rattle.js_tree.specs.declared.op.Op.TheVariants as op
use Rattle.js_tree.specs.Bits.{flags_of}
use Rattle.js_tree.specs.Nodes.{Node, new_node, node_at, empty_program, program_node, with_flags, flags_set}
use Rattle.js_tree.specs.Holding.{with_program}
use Rattle.js_tree.specs.Names.{kept_name}
use Rattle.js_tree.specs.Rows.{Entries, entry_of, no_entry, slots_of, slots_end, slots_before, table, row, rows, AreEntries}
use Rattle.js_tree.proofs.TableLemmas.{length-table, get-table, take-table, table-more, table-same, table-set, set-first}

pub length-rows : (c : Entries) → length (rows c) ≡ length c.kinds
unfolding rows
length-rows c = length-table (row c) (length c.kinds)

pub get-rows : (c : Entries) (i : ℕ) (d : Node) → i < length c.kinds → get_or (rows c) i d ≡ row c i
unfolding rows
get-rows c i d h = get-table (row c) (length c.kinds) i d h

-- one more entry in each column
pub record Appended (c d : Entries) (k : NodeKind) (s : Span) (o : Op) (f : NodeFlags) (name : Option (List ℕ)) (ids : List (Option NodeId)) : Type 0 where
  pub bits : ℕ
  pub kinds : d.kinds ≡ c.kinds ++ k ∷ []
  pub entries : d.entries ≡ c.entries ++ entry_of s (length c.slots) (length ids) bits o ∷ []
  pub slots : d.slots ≡ c.slots ++ ids
  pub bits_are : flags_of bits ≡ f
  pub names : (i : ℕ) → (i ≡ length c.kinds → ⊥) → d.names i ≡ c.names i
  pub name_is : d.names (length c.kinds) ≡ name

-- a range of slots isn't moved by slots behind
pub range_kept : {A : Type 0} (xs ys : List A) (s n : ℕ) → s + n ≤ length xs → take n (drop s (xs ++ ys)) ≡ take n (drop s xs)
range_kept xs ys s n h = rw (drop-append-le s xs ys (omega arith)) (take-append-le n (drop s xs) ys (let e = length-drop s xs in omega arith))

range_last : {A : Type 0} (xs ys : List A) → take (length ys) (drop (length xs) (xs ++ ys)) ≡ ys
range_last xs ys = rw (drop_at xs ys (length xs) refl) (take_all (length ys) ys (omega arith))

row_kept : (c d : Entries) {k : NodeKind} {s : Span} {o : Op} {f : NodeFlags} {name : Option (List ℕ)} {ids : List (Option NodeId)} → AreEntries c → Appended c d k s o f name ids → (i : ℕ) → i < length c.kinds → row d i ≡ row c i
row_kept c d {k} {s} {o} {f} {name} {ids} h a i b =
    let kind : get_or d.kinds i node.Program ≡ get_or c.kinds i node.Program = rw a.kinds (get_or_append_left c.kinds (k ∷ []) node.Program i b) in
    let entry : get_or d.entries i no_entry ≡ get_or c.entries i no_entry = rw a.entries (get_or_append_left c.entries (entry_of s (length c.slots) (length ids) a.bits o ∷ []) no_entry i (let e = h.entries in omega arith)) in
    let children : slots_of (get_or d.entries i no_entry) d.slots ≡ slots_of (get_or c.entries i no_entry) c.slots = rw (entry, a.slots) (range_kept c.slots ids _ _ (h.ranges i)) in
    let kept = a.names i (omega arith) in
    λ j. record { kind = kind j; op = (entry j).op; flags = flags_of (entry j).flags; span = (entry j).span; name = kept j; children = children j }

row_last : (c d : Entries) {k : NodeKind} {s : Span} {o : Op} {f : NodeFlags} {name : Option (List ℕ)} {ids : List (Option NodeId)} → AreEntries c → Appended c d k s o f name ids → row d (length c.kinds) ≡ new_node k s o f name ids
row_last c d {k} {s} {o} {f} {name} {ids} h a =
    let n : ℕ = length c.kinds in
    let kind : get_or d.kinds n node.Program ≡ k = rw a.kinds (get_or_push c.kinds k node.Program n refl) in
    let entry : get_or d.entries n no_entry ≡ entry_of s (length c.slots) (length ids) a.bits o = rw a.entries (get_or_push c.entries _ no_entry n h.entries) in
    let bits : flags_of (get_or d.entries n no_entry).flags ≡ f = rw entry a.bits_are in
    let children : slots_of (get_or d.entries n no_entry) d.slots ≡ ids = rw (entry, a.slots) (range_last c.slots ids) in
    λ j. record { kind = kind j; op = (entry j).op; flags = bits j; span = (entry j).span; name = a.name_is j; children = children j }

pub rows-appended : (c d : Entries) {k : NodeKind} {s : Span} {o : Op} {f : NodeFlags} {name : Option (List ℕ)} {ids : List (Option NodeId)} → AreEntries c → Appended c d k s o f name ids → rows d ≡ rows c ++ new_node k s o f name ids ∷ []
unfolding rows
rows-appended c d {k} h a = let e : length d.kinds ≡ suc (length c.kinds) = (let l = length_push c.kinds k in rw a.kinds (omega arith)) in rw e (table-more (row c) (row d) (length c.kinds) _ (row_kept c d h a) (row_last c d h a))

appended_range : (c d : Entries) {k : NodeKind} {s : Span} {o : Op} {f : NodeFlags} {name : Option (List ℕ)} {ids : List (Option NodeId)} → AreEntries c → Appended c d k s o f name ids → (i : ℕ) → (get_or d.entries i no_entry).start + (get_or d.entries i no_entry).count ≤ length d.slots
appended_range c d {s = s} {o = o} {ids = ids} h a i =
    let l = length-append c.slots ids in
    let q = h.ranges i in
    let last : Entry = entry_of s (length c.slots) (length ids) a.bits o in
    rw (a.entries, a.slots)
    (elim (cases_order i (length c.kinds)) [
      | inl e ↦ let x : get_or (c.entries ++ last ∷ []) i no_entry ≡ last = get_or_push c.entries last no_entry i (h.entries ∙ sym e) in rw x (omega arith)
      | inr (inl b) ↦ let x : get_or (c.entries ++ last ∷ []) i no_entry ≡ get_or c.entries i no_entry = get_or_append_left c.entries (last ∷ []) no_entry i (let e = h.entries in omega arith) in rw x (omega arith)
      | inr (inr b) ↦ let u = length_push c.entries last in let m = h.entries in let x : get_or (c.entries ++ last ∷ []) i no_entry ≡ no_entry = get_or_past (c.entries ++ last ∷ []) i no_entry (omega arith) in rw x (omega arith)
    ])

appended_order : (c d : Entries) {k : NodeKind} {s : Span} {o : Op} {f : NodeFlags} {name : Option (List ℕ)} {ids : List (Option NodeId)} → AreEntries c → Appended c d k s o f name ids → (i j : ℕ) → 0 < i → i < j → j < length d.kinds → slots_end (get_or d.entries i no_entry) ≤ (get_or d.entries j no_entry).start
appended_order c d {k} {s} {o} {ids = ids} h a i j p b w =
    let last : Entry = entry_of s (length c.slots) (length ids) a.bits o in
    let n : length d.kinds ≡ suc (length c.kinds) = (let l = length_push c.kinds k in rw a.kinds (omega arith)) in
    let e = h.entries in
    let x : get_or (c.entries ++ last ∷ []) i no_entry ≡ get_or c.entries i no_entry = get_or_append_left c.entries (last ∷ []) no_entry i (omega arith) in
    rw (a.entries, x)
    (elim (cases_order j (length c.kinds)) [
      | inl q ↦ let y : get_or (c.entries ++ last ∷ []) j no_entry ≡ last = get_or_push c.entries last no_entry j (e ∙ sym q) in rw y (h.ranges i)
      | inr (inl q) ↦ let y : get_or (c.entries ++ last ∷ []) j no_entry ≡ get_or c.entries j no_entry = get_or_append_left c.entries (last ∷ []) no_entry j (omega arith) in rw y (h.ordered i j p b q)
      | inr (inr q) ↦ absurd (omega arith)
    ])

pub AreEntries-appended : (c d : Entries) {k : NodeKind} {s : Span} {o : Op} {f : NodeFlags} {name : Option (List ℕ)} {ids : List (Option NodeId)} → AreEntries c → Appended c d k s o f name ids → AreEntries d
AreEntries-appended c d {k} {s} {o} {f} {name} {ids} h a =
    let n : length d.kinds ≡ suc (length c.kinds) = (let l = length_push c.kinds k in rw a.kinds (omega arith)) in
    record {
      some = omega arith;
      entries = (let l = length_push c.entries (entry_of s (length c.slots) (length ids) a.bits o) in let e = h.entries in rw (n, a.entries) (omega arith));
      ranges = appended_range c d h a;
      ordered = appended_order c d h a;
      names = λ i b. a.names i (omega arith) ∙ h.names i (omega arith);
    }

-- Program's entries alone
pub rows-new : (d : Entries) → d.kinds ≡ node.Program ∷ [] → d.entries ≡ no_entry ∷ [] → d.slots ≡ [] → d.names 0 ≡ None → rows d ≡ empty_program ∷ []
unfolding rows flags_of
rows-new d a b h n =
    let r : row d 0 ≡ empty_program = λ j. record { kind = get_or (a j) 0 node.Program; op = (get_or (b j) 0 no_entry).op; flags = flags_of (get_or (b j) 0 no_entry).flags; span = (get_or (b j) 0 no_entry).span; name = n j; children = slots_of (get_or (b j) 0 no_entry) (h j) } in
    ap (λ (ks : List NodeKind). table (row d) (length ks)) a ∙ ap (λ (n : Node). n ∷ []) r

-- other flags of a node
pub rows-flags : (c d : Entries) (i bits : ℕ) (f : NodeFlags) (old : Entry) → AreEntries c → i < length c.kinds → old ≡ get_or c.entries i no_entry → d.kinds ≡ c.kinds → d.entries ≡ set c.entries i (record old { flags = bits }) → d.slots ≡ c.slots → ((k : ℕ) → d.names k ≡ c.names k) → flags_of bits ≡ f → (id : NodeId) → id.0 ≡ i → rows d ≡ flags_set (rows c) id f
unfolding rows
rows-flags c d i bits f old h b was kinds entries slots names is id e =
    let now : Entry = record old { flags = bits } in
    let other : (k : ℕ) → k < length c.kinds → (k ≡ i → ⊥) → row d k ≡ row c k = (λ k w ne. let x : get_or d.entries k no_entry ≡ get_or c.entries k no_entry = rw entries (get_or-set_other c.entries i k now no_entry ne) in λ j. record { kind = get_or (kinds j) k node.Program; op = (x j).op; flags = flags_of (x j).flags; span = (x j).span; name = names k j; children = slots_of (x j) (slots j) }) in
    let same : row d i ≡ with_flags f (row c i) = (let w : get_or d.entries i no_entry ≡ now = rw entries (get_or-set_same c.entries i now no_entry (let l = h.entries in omega arith)) in let x : get_or d.entries i no_entry ≡ record (get_or c.entries i no_entry) { flags = bits } = w ∙ ap (λ (e : Entry). record e { flags = bits }) was in let y : flags_of (get_or d.entries i no_entry).flags ≡ f = rw x is in λ j. record { kind = get_or (kinds j) i node.Program; op = (x j).op; flags = y j; span = (x j).span; name = names i j; children = slots_of (x j) (slots j) }) in
    ap (λ (ks : List NodeKind). table (row d) (length ks)) kinds ∙ table-set (row c) (row d) (length c.kinds) i (with_flags f (row c i)) b other same
    ∙ sym (ap (λ (m : Node). set (table (row c) (length c.kinds)) i (with_flags f m)) (get-table (row c) (length c.kinds) i empty_program b)) ∙ ap (λ (m : ℕ). set (table (row c) (length c.kinds)) m (with_flags f (get_or (table (row c) (length c.kinds)) m empty_program))) (sym e)

-- a name that was kept
pub kept-other : (names : BTreeMap ℕ (List ℕ)) (number : ℕ) (name : Option (List ℕ)) (i : ℕ) → (i ≡ number → ⊥) → kept_name names number name i ≡ get nat_cmp names i
kept-other names number None i ne = refl
kept-other names number (Some name) i ne = rw (ne_eqb i number ne) refl

pub kept-same : (names : BTreeMap ℕ (List ℕ)) (number : ℕ) (name : Option (List ℕ)) → get nat_cmp names number ≡ None → kept_name names number name number ≡ name
kept-same names number None e = e
kept-same names number (Some name) e = rw (eq-eqb number number refl) refl

-- a number of the list is one of the columns
pub number_below : (c : Entries) (ns : List Node) (i : ℕ) → rows c ≡ ns → i < length ns → i < length c.kinds
number_below c ns i e h = let l = length-rows c in let m = ap length e in omega arith

pub length_same : (c : Entries) (ns : List Node) → rows c ≡ ns → length ns ≡ length c.kinds
length_same c ns e = let l = length-rows c in let m = ap length e in omega arith

pub node_is : (c : Entries) (ns : List Node) (id : NodeId) → rows c ≡ ns → id.0 < length ns → node_at ns id ≡ row c id.0
node_is c ns id e h = subst (λ (m : List Node). node_at m id ≡ row c id.0) e (get-rows c id.0 empty_program (number_below c ns id.0 e h))

kinds-table : (c : Entries) (n : ℕ) → n ≤ length c.kinds → map (λ (m : Node). m.kind) (table (row c) n) ≡ take n c.kinds
kinds-table c zero h = refl
kinds-table c (suc n) h = let e = kinds-table c n (omega arith) in rw (map_push (λ (m : Node). m.kind) (table (row c) n) (row c n), e) (sym (ap (λ (k : ℕ). take k c.kinds) (sym (add-one n)) ∙ take_more c.kinds n node.Program (omega arith)))

pub kinds-rows : (c : Entries) → map (λ (m : Node). m.kind) (rows c) ≡ c.kinds
unfolding rows
kinds-rows c = kinds-table c (length c.kinds) (omega arith) ∙ take_all (length c.kinds) c.kinds (omega arith)

-- Program's entries written, its children behind the others
pub record Finished (c d : Entries) (s : Span) (ids : List (Option NodeId)) : Type 0 where
  pub kinds : d.kinds ≡ set c.kinds 0 node.Program
  pub entries : d.entries ≡ set c.entries 0 (entry_of s (length c.slots) (length ids) 0 op.None)
  pub slots : d.slots ≡ c.slots ++ ids
  pub names : (i : ℕ) → (i ≡ 0 → ⊥) → d.names i ≡ c.names i
  pub name_is : d.names 0 ≡ None

row_unfinished : (c d : Entries) (s : Span) (ids : List (Option NodeId)) → AreEntries c → Finished c d s ids → (k : ℕ) → k < length c.kinds → (k ≡ 0 → ⊥) → row d k ≡ row c k
row_unfinished c d s ids h a k w ne =
    let kind : get_or d.kinds k node.Program ≡ get_or c.kinds k node.Program = rw a.kinds (get_or-set_other c.kinds 0 k node.Program node.Program ne) in
    let entry : get_or d.entries k no_entry ≡ get_or c.entries k no_entry = rw a.entries (get_or-set_other c.entries 0 k (entry_of s (length c.slots) (length ids) 0 op.None) no_entry ne) in
    let children : slots_of (get_or d.entries k no_entry) d.slots ≡ slots_of (get_or c.entries k no_entry) c.slots = rw (entry, a.slots) (range_kept c.slots ids _ _ (h.ranges k)) in
    let kept = a.names k ne in
    λ j. record { kind = kind j; op = (entry j).op; flags = flags_of (entry j).flags; span = (entry j).span; name = kept j; children = children j }

row_finished : (c d : Entries) (s : Span) (ids : List (Option NodeId)) → AreEntries c → Finished c d s ids → row d 0 ≡ program_node s ids
unfolding flags_of
row_finished c d s ids h a =
    let b = h.some in
    let kind : get_or d.kinds 0 node.Program ≡ node.Program = rw a.kinds (get_or-set_same c.kinds 0 node.Program node.Program b) in
    let entry : get_or d.entries 0 no_entry ≡ entry_of s (length c.slots) (length ids) 0 op.None = rw a.entries (get_or-set_same c.entries 0 _ no_entry (let e = h.entries in omega arith)) in
    let children : slots_of (get_or d.entries 0 no_entry) d.slots ≡ ids = rw (entry, a.slots) (range_last c.slots ids) in
    λ j. record { kind = kind j; op = (entry j).op; flags = flags_of (entry j).flags; span = (entry j).span; name = a.name_is j; children = children j }

pub rows-finished : (c d : Entries) (s : Span) (ids : List (Option NodeId)) → AreEntries c → Finished c d s ids → rows d ≡ with_program (program_node s ids) (rows c)
unfolding rows
rows-finished c d s ids h a =
    let n : length d.kinds ≡ length c.kinds = rw a.kinds (length-set c.kinds 0 node.Program) in
    let some : 0 < length (table (row c) (length c.kinds)) = (let l = length-table (row c) (length c.kinds) in let b = h.some in omega arith) in
    ap (λ (m : ℕ). table (row d) m) n ∙ table-set (row c) (row d) (length c.kinds) 0 (program_node s ids) h.some (row_unfinished c d s ids h a) (row_finished c d s ids h a) ∙ set-first (table (row c) (length c.kinds)) (program_node s ids) some

-- what is read at a number
pub read : {A B : Type 0} (c : Entries) (ns : List Node) (id : NodeId) (f : Node → B) (xs : List A) (x d : A) (g : A → B) → rows c ≡ ns → id.0 < length ns → length xs ≡ length c.kinds → g (get_or xs id.0 d) ≡ f (row c id.0) → x ≡ get_or xs id.0 x → g x ≡ f (node_at ns id)
read c ns id f xs x d g e h l q r = ap g (get_or_read xs id.0 x (let b = number_below c ns id.0 e h in omega arith) r d) ∙ q ∙ sym (ap f (node_is c ns id e h))

-- ---- fewer nodes

-- the first entries of each column, so many, and their slots
pub record Truncated (c d : Entries) (n : ℕ) : Type 0 where
  pub some : 0 < n
  pub below : n < length c.kinds
  pub kinds : d.kinds ≡ take n c.kinds
  pub entries : d.entries ≡ take n c.entries
  pub slots : d.slots ≡ take (slots_before c.entries n) c.slots
  pub kept : (i : ℕ) → i < n → d.names i ≡ c.names i
  pub dropped : (i : ℕ) → n ≤ i → d.names i ≡ None

module _ (c d : Entries) (n : ℕ) (h : AreEntries c) (t : Truncated c d n) where
  cut_within : slots_before c.entries n ≤ length c.slots
  cut_within = let a = h.ranges n in let b = h.ranges 0 in omega arith

  -- the slots of the nodes that are kept
  kept_below : (i : ℕ) → i < n → slots_end (get_or c.entries i no_entry) ≤ slots_before c.entries n
  kept_below zero w = omega arith
  kept_below (suc i) w = let a = h.ordered (suc i) n (omega arith) w t.below in omega arith

  entry_kept : (i : ℕ) → i < n → get_or d.entries i no_entry ≡ get_or c.entries i no_entry
  entry_kept i w = rw t.entries (get_or-take n c.entries i no_entry w)

  slots_kept : (e : Entry) → slots_end e ≤ slots_before c.entries n → slots_of e d.slots ≡ slots_of e c.slots
  slots_kept e w =
      let m : ℕ = slots_before c.entries n in
      let l : length (take m c.slots) ≡ m = length-take-le m c.slots cut_within in
      let x : take e.count (drop e.start (take m c.slots ++ drop m c.slots)) ≡ take e.count (drop e.start (take m c.slots)) = range_kept (take m c.slots) (drop m c.slots) e.start e.count (omega arith) in
      ap (λ (v : List (Option NodeId)). slots_of e v) t.slots ∙ sym x ∙ ap (λ (v : List (Option NodeId)). slots_of e v) (take-append-drop m c.slots)

  row_left : (i : ℕ) → i < n → row d i ≡ row c i
  row_left i w =
      let kind : get_or d.kinds i node.Program ≡ get_or c.kinds i node.Program = rw t.kinds (get_or-take n c.kinds i node.Program w) in
      let entry = entry_kept i w in
      let children : slots_of (get_or d.entries i no_entry) d.slots ≡ slots_of (get_or c.entries i no_entry) c.slots = ap (λ (e : Entry). slots_of e d.slots) entry ∙ slots_kept (get_or c.entries i no_entry) (kept_below i w) in
      λ j. record { kind = kind j; op = (entry j).op; flags = flags_of (entry j).flags; span = (entry j).span; name = t.kept i w j; children = children j }

  length_left : length d.kinds ≡ n
  length_left = rw t.kinds (length-take-le n c.kinds (let b = t.below in omega arith))

  pub rows-truncated : rows d ≡ take n (rows c)
  unfolding rows
  rows-truncated = ap (table (row d)) length_left ∙ table-same (row c) (row d) n row_left ∙ sym (take-table (row c) (length c.kinds) n (let b = t.below in omega arith))

  pub AreEntries-truncated : AreEntries d
  AreEntries-truncated =
      let l = length_left in
      let e : length d.entries ≡ n = rw t.entries (length-take-le n c.entries (let a = h.entries in let b = t.below in omega arith)) in
      let m : length d.slots ≡ slots_before c.entries n = rw t.slots (length-take-le (slots_before c.entries n) c.slots cut_within) in
      record {
        some = let s = t.some in omega arith;
        entries = e ∙ sym l;
        ranges = λ i. elim (cases_lt i n) [
          | inl w ↦ let k = kept_below i w in rw (entry_kept i w) (omega arith)
          | inr w ↦ let x : get_or d.entries i no_entry ≡ no_entry = get_or_past d.entries i no_entry (omega arith) in rw x (omega arith)
        ];
        ordered = λ i j p b w. let q : j < n = omega arith in let r : i < n = omega arith in rw (entry_kept i r, entry_kept j q) (h.ordered i j p b (let k = t.below in omega arith));
        names = λ i w. t.dropped i (omega arith);
      }
