-- Nodes that were found, in the order of their ends, and what they add together.
use Rattle.std.proofs.Common.{◌≡◌, ℕ, zero, suc, ◌+◌, ◌<◌, ◌≤◌, Bool, true, false, cond, List, [], ◌∷◌, ◌++◌, Option, length, get_or, map, take, drop, nat_le, refl, ap, sym, ◌∙◌, subst, arith, append_assoc, append-nil, inl, inr}
use Rattle.std.specs.Prelude.{All}
use Rattle.std.specs.List.{insert}
use Rattle.std.proofs.lemmas.Bool.{cases_lt, le-leb, lt-leb}
use Rattle.std.proofs.lemmas.List.{map-append, take-append-drop, take_all, take_more}
use Rattle.std.proofs.lemmas.List.Elements.{All-from_recursion}
use Rattle.js_base.specs.declared.span.Span.{Span}
use Rattle.js_grammar.specs.ModuleRecords.{Part}
use Rattle.js_grammar.specs.Modules.{adds, itself, found_in, by_end, in_order_of_ends, part_by, part_of, visits}
use Rattle.js_grammar.specs.NodeNames.{span_of, AreReadFrom}
use Rattle.js_grammar.specs.Trees.{NodeKind as SeenKind, Label, Slots, end, hole, tree, Tree}
use Rattle.js_tree.specs.declared.id.NodeId.{NodeId}
use Rattle.js_tree.specs.declared.kind.NodeKind.{NodeKind}
use Rattle.js_tree.specs.Labels.{kind_of}
use Rattle.js_tree.specs.Holding.{Stands, stands, StandsAll, no_slots, next_child, next_hole, program_tree}
use Rattle.js_tree.specs.Nodes.{Node, label, node_at, empty_program}
use Rattle.js_tree.proofs.HoldingLemmas.{Stands-below}
use Rattle.js_record.specs.Shown.{IsRead}
use Rattle.js_record.specs.Walked.{adds_at, end_at, IsOne, AreFound, none_found, one_found, kept_before, none, IsPlace}
use Rattle.js_record.proofs.TreeLemmas.{Each}

-- ---- parts of what was found

record Split (ns : List Node) (ps qs : List NodeId) (ts : List Tree) : Type 0 where
  high : List Tree
  low : List Tree
  first : AreFound ns qs high
  second : AreFound ns ps low
  whole : ts ≡ high ++ low

split : {ns : List Node} (ps qs : List NodeId) (ts : List Tree) → AreFound ns (ps ++ qs) ts → Split ns ps qs ts
split [] qs ts a = record { high = ts; low = []; first = a; second = none_found refl; whole = sym (append-nil ts) }
split (p ∷ ps) qs ts (one_found us t o a e) =
    let x = split ps qs us a in
    record { high = x.high; low = x.low ++ t ∷ []; first = x.first; second = one_found x.low t o x.second refl; whole = e ∙ ap (λ (v : List Tree). v ++ t ∷ []) x.whole ∙ append_assoc x.high x.low (t ∷ []) }

join : {ns : List Node} (ps qs : List NodeId) (low high : List Tree) → AreFound ns ps low → AreFound ns qs high → AreFound ns (ps ++ qs) (high ++ low)
join {ns} [] qs low high (none_found e) b = subst (AreFound ns qs) (sym (ap (λ (v : List Tree). high ++ v) e ∙ append-nil high)) b
join (p ∷ ps) qs low high (one_found us t o a e) b = one_found (high ++ us) t o (join ps qs us high a b) (ap (λ (v : List Tree). high ++ v) e ∙ sym (append_assoc high us (t ∷ [])))

-- one number stands for one tree
record One (ns : List Node) (id : NodeId) (ts : List Tree) : Type 0 where
  this : Tree
  one : IsOne ns id this
  is : ts ≡ this ∷ []

alone : {ns : List Node} {id : NodeId} (ts : List Tree) → AreFound ns (id ∷ []) ts → One ns id ts
alone ts (one_found us t o (none_found z) e) = record { this = t; one = o; is = e ∙ ap (λ (v : List Tree). v ++ t ∷ []) z }

end_is : {ns : List Node} {i : ℕ} {l : Label} {cs : Slots} {rs : List ℕ} → Stands ns i l cs rs → l.span.to ≡ (get_or ns i empty_program).span.end
end_is (stands i w all) = refl

below_each : {ns : List Node} (ids : List NodeId) (ts : List Tree) → AreFound ns ids ts → Each (λ id. id.0 < length ns) ids
below_each [] ts a = tt
below_each (id ∷ ids) ts (one_found us t o a e) = (Stands-below o.stands, below_each ids us a)

pub found_below : {ns : List Node} (ids : List NodeId) (ts : List Tree) → AreFound ns ids ts → All (λ id. id.0 < length ns) ids
found_below {ns} ids ts a = All-from_recursion (λ id. id.0 < length ns) ids (below_each ids ts a)

-- ---- one more, where it stands by its end

each_behind : (P : NodeId → Type 0) (xs : List NodeId) (at : ℕ) → ((i : ℕ) → at ≤ i → i < length xs → P (get_or xs i none)) → Each P (drop at xs)
each_behind P [] zero h = tt
each_behind P [] (suc at) h = tt
each_behind P (x ∷ xs) zero h = (h 0 (omega arith) (omega arith), each_behind P xs zero (λ i a b. h (suc i) (omega arith) (omega arith)))
each_behind P (x ∷ xs) (suc at) h = each_behind P xs at (λ i a b. h (suc i) (omega arith) (omega arith))

-- behind those that end before it
behind_all : {ns : List Node} (t : Tree) (ids : List NodeId) (high low : List Tree) → AreFound ns ids high → Each (λ id. end_at ns id < t.label.span.to) ids → by_end t (high ++ low) ≡ high ++ by_end t low
behind_all t [] high low (none_found e) h = ap (λ (v : List Tree). by_end t (v ++ low)) e ∙ sym (ap (λ (v : List Tree). v ++ by_end t low) e)
behind_all {ns} t (id ∷ ids) high low (one_found us u o a e) h =
    let z : u.label.span.to ≡ end_at ns id = end_is o.stands in
    let w = h.0 in
    let f : nat_le t.label.span.to u.label.span.to ≡ false = lt-leb t.label.span.to u.label.span.to (omega arith) in
    ap (λ (v : List Tree). by_end t (v ++ low)) e
    ∙ ap (by_end t) (append_assoc us (u ∷ []) low)
    ∙ behind_all t ids us (u ∷ low) a h.1
    ∙ ap (λ (b : Bool). us ++ cond b (t ∷ u ∷ low) (u ∷ by_end t low)) f
    ∙ sym (append_assoc us (u ∷ []) (by_end t low))
    ∙ ap (λ (v : List Tree). v ++ by_end t low) (sym e)

-- before those that end there or later
before_all : {ns : List Node} (t : Tree) (found : List NodeId) (at : ℕ) (low : List Tree) → at ≤ length found → ((i : ℕ) → i + 1 ≡ at → t.label.span.to ≤ end_at ns (get_or found i none)) → AreFound ns (take at found) low → by_end t low ≡ t ∷ low
before_all t found zero low w h (none_found e) = ap (by_end t) e ∙ sym (ap (λ (v : List Tree). t ∷ v) e)
before_all {ns} t found (suc k) low w h a =
    let m : take (suc k) found ≡ take k found ++ get_or found k none ∷ [] = (let e : suc k ≡ k + 1 = omega arith in ap (λ (n : ℕ). take n found) e) ∙ take_more found k none (omega arith) in
    let x = split (take k found) (get_or found k none ∷ []) low (subst (λ (v : List NodeId). AreFound ns v low) m a) in
    let y = alone x.high x.first in
    let z : y.this.label.span.to ≡ end_at ns (get_or found k none) = end_is y.one.stands in
    let b = h k (omega arith) in
    let f : nat_le t.label.span.to y.this.label.span.to ≡ true = le-leb t.label.span.to y.this.label.span.to (omega arith) in
    let q : low ≡ y.this ∷ x.low = x.whole ∙ ap (λ (v : List Tree). v ++ x.low) y.is in
    ap (by_end t) q ∙ ap (λ (b : Bool). cond b (t ∷ y.this ∷ x.low) (y.this ∷ by_end t x.low)) f ∙ sym (ap (λ (v : List Tree). t ∷ v) q)

-- a number that is inserted there
pub inserted : {ns : List Node} {l : Label} {cs : Slots} {rs : List ℕ} (id : NodeId) (found : List NodeId) (e at : ℕ) (ts : List Tree)
    → e ≡ end_at ns id → IsPlace ns found e at → adds l.kind ≡ true → Stands ns id.0 l cs rs → AreFound ns found ts → AreFound ns (insert found at id) (kept_before l cs ts)
inserted {ns} {l} {cs} {rs} id found e at ts q p k s a =
    let t : Tree = record { label = l; slots = cs } in
    let z : l.span.to ≡ end_at ns id = end_is s in
    let x = split (take at found) (drop at found) ts (subst (λ (v : List NodeId). AreFound ns v ts) (sym (take-append-drop at found)) a) in
    let high = behind_all t (drop at found) x.high x.low x.first (each_behind (λ i. end_at ns i < l.span.to) found at (λ i v w. let b = p.behind i v w in omega arith)) in
    let low = before_all t found at x.low p.within (λ i v. let b = p.before i v in omega arith) x.second in
    let one : IsOne ns id t = record { numbers = rs; stands = s; adds = k } in
    let both = join (take at found) (id ∷ drop at found) x.low (x.high ++ t ∷ []) x.second (one_found x.high t one x.first refl) in
    subst (AreFound ns (insert found at id))
    (append_assoc x.high (t ∷ []) x.low ∙ sym (ap (λ (v : List Tree). x.high ++ v) low) ∙ sym high ∙ ap (by_end t) (sym x.whole) ∙ sym (ap (λ (b : Bool). cond b (by_end t ts) ts) k))
    both

-- a node that adds nothing
pub not_kept : {ns : List Node} (l : Label) (cs : Slots) (found : List NodeId) (ts : List Tree) → adds l.kind ≡ false → AreFound ns found ts → AreFound ns found (kept_before l cs ts)
not_kept {ns} l cs found ts k a = subst (AreFound ns found) (sym (ap (λ (b : Bool). cond b (by_end (record { label = l; slots = cs }) ts) ts) k)) a

pub adds_there : {ns : List Node} {id : NodeId} {l : Label} {cs : Slots} {rs : List ℕ} → Stands ns id.0 l cs rs → adds l.kind ≡ adds_at ns id
adds_there {ns} {id} s = go s
  where
    go : {i : ℕ} {l : Label} {cs : Slots} {rs : List ℕ} → Stands ns i l cs rs → adds l.kind ≡ adds (label (get_or ns i empty_program)).kind
    go (stands i w all) = refl

-- what a node adds, by its kind
pub part_there : {ns : List Node} {id : NodeId} {l : Label} {cs : Slots} {rs : List ℕ} (text : List ℕ) (k : NodeKind) → k ≡ (node_at ns id).kind → Stands ns id.0 l cs rs → part_by text (kind_of k) l cs ≡ part_of text (record { label = l; slots = cs })
part_there {ns} {id} {l} {cs} text k e s = ap (λ (j : SeenKind). part_by text j l cs) (ap kind_of e ∙ sym (go s))
  where
    go : {i : ℕ} {l : Label} {cs : Slots} {rs : List ℕ} → Stands ns i l cs rs → l.kind ≡ kind_of (get_or ns i empty_program).kind
    go (stands i w all) = refl

pub span_there : {ns : List Node} {id : NodeId} {l : Label} {cs : Slots} {rs : List ℕ} → Stands ns id.0 l cs rs → span_of l ≡ (node_at ns id).span
span_there {ns} {id} s = go s
  where
    go : {i : ℕ} {l : Label} {cs : Slots} {rs : List ℕ} → Stands ns i l cs rs → span_of l ≡ (get_or ns i empty_program).span
    go (stands i w all) = refl

pub start_there : {ns : List Node} {id : NodeId} {l : Label} {cs : Slots} {rs : List ℕ} → Stands ns id.0 l cs rs → l.span.from ≡ (node_at ns id).span.start
start_there s = ap (λ (v : Span). v.start) (span_there s)

-- of the nodes so far none adds anything, and neither does the next
pub none_more : (ns : List Node) (i : ℕ) → ((id : NodeId) → id.0 < i → adds_at ns id ≡ false) → adds_at ns (record { 0 = i }) ≡ false → (id : NodeId) → id.0 < i + 1 → adds_at ns id ≡ false
none_more ns i h e id w = elim (cases_lt id.0 i) [ inl b ↦ h id b | inr b ↦ (let q : id.0 ≡ i = omega arith in ap (λ (n : ℕ). adds (label (get_or ns n empty_program)).kind) q ∙ e) ]

-- ---- each is read from the text

each_append : {A : Type 0} (P : A → Type 0) (xs ys : List A) → Each P xs → Each P ys → Each P (xs ++ ys)
each_append P [] ys h k = k
each_append P (x ∷ xs) ys h k = (h.0, each_append P xs ys h.1 k)

each_left : {A : Type 0} (P : A → Type 0) (xs ys : List A) → Each P (xs ++ ys) → Each P xs
each_left P [] ys h = tt
each_left P (x ∷ xs) ys h = (h.0, each_left P xs ys h.1)

each_right : {A : Type 0} (P : A → Type 0) (xs ys : List A) → Each P (xs ++ ys) → Each P ys
each_right P [] ys h = h
each_right P (x ∷ xs) ys h = each_right P xs ys h.1

module _ (text : List ℕ) where
  abbrev IsRightly : Tree → Type 0
  IsRightly t = AreReadFrom text t.slots

  itself_rightly : (l : Label) (cs : Slots) → AreReadFrom text cs → Each IsRightly (itself l cs)
  itself_rightly l cs r = go (adds l.kind)
    where
      go : (b : Bool) → Each IsRightly (cond b (record { label = l; slots = cs } ∷ []) [])
      go true = (r, tt)
      go false = tt

  found_rightly : (us : Slots) → AreReadFrom text us → Each IsRightly (found_in us)
  found_rightly end r = tt
  found_rightly (hole us) r = found_rightly us r
  found_rightly (tree l cs us) r = each_append IsRightly (found_in cs) _ (found_rightly cs r.1) (each_append IsRightly (itself l cs) (found_in us) (itself_rightly l cs r.1) (found_rightly us r.2))

  by_end_rightly : (t : Tree) (us : List Tree) → IsRightly t → Each IsRightly us → Each IsRightly (by_end t us)
  by_end_rightly t [] r h = (r, tt)
  by_end_rightly t (u ∷ us) r h = go (by_end_rightly t us r h.1) (nat_le t.label.span.to u.label.span.to)
    where
      go : Each IsRightly (by_end t us) → (b : Bool) → Each IsRightly (cond b (t ∷ u ∷ us) (u ∷ by_end t us))
      go m true = (r, h)
      go m false = (h.0, m)

  in_order_rightly : (ts : List Tree) → Each IsRightly ts → Each IsRightly (in_order_of_ends ts)
  in_order_rightly [] h = tt
  in_order_rightly (t ∷ ts) h = by_end_rightly t (in_order_of_ends ts) h.0 (in_order_rightly ts h.1)

  each_read : {ns : List Node} (ids : List NodeId) (ts : List Tree) → AreFound ns ids ts → Each IsRightly ts → Each (IsRead ns text) ids
  each_read [] ts a h = tt
  each_read (id ∷ ids) ts (one_found us t o a e) h =
      let k = subst (Each IsRightly) e h in
      (record { label = t.label; slots = t.slots; numbers = o.numbers; stands = o.stands; read = (each_right IsRightly us (t ∷ []) k).0 }, each_read ids us a (each_left IsRightly us (t ∷ []) k))

  -- all that were found in slots that are read from the text
  pub found_read : {ns : List Node} (ids : List NodeId) (cs : Slots) → AreFound ns ids (in_order_of_ends (found_in cs)) → AreReadFrom text cs → All (IsRead ns text) ids
  found_read {ns} ids cs a r = All-from_recursion (IsRead ns text) ids (each_read ids (in_order_of_ends (found_in cs)) a (in_order_rightly (found_in cs) (found_rightly cs r)))

-- ---- visits of what was found

-- the numbers so far are still to be visited, and the visits of the others were added
pub record Visited (ns : List Node) (text : List ℕ) (ids : List NodeId) (old now : List Part) (ts : List Tree) : Type 0 where
  pub rest : List Tree
  pub done : List Tree
  pub left : AreFound ns ids rest
  pub parts : ts ≡ done ++ rest
  pub added : now ≡ old ++ map (part_of text) done

pub visited_start : {ns : List Node} (text : List ℕ) (ids : List NodeId) (i : ℕ) (old now : List Part) (ts : List Tree) → i ≡ length ids → now ≡ old → AreFound ns ids ts → Visited ns text (take i ids) old now ts
visited_start {ns} text ids i old now ts e n a = record { rest = ts; done = []; left = subst (λ (v : List NodeId). AreFound ns v ts) (sym (take_all i ids (omega (arith, e)))) a; parts = refl; added = n ∙ sym (append-nil old) }

pub visited_step : {ns : List Node} (text : List ℕ) (ids : List NodeId) (i k : ℕ) (old now new : List Part) (ts : List Tree) → k + 1 ≡ i → i ≤ length ids
    → (adds_at ns (get_or ids k none) ≡ true → (l : Label) (cs : Slots) (rs : List ℕ) → Stands ns (get_or ids k none).0 l cs rs → new ≡ now ++ part_of text (record { label = l; slots = cs }) ∷ [])
    → Visited ns text (take i ids) old now ts → Visited ns text (take k ids) old new ts
visited_step {ns} text ids i k old now new ts e w h v =
    let m : take i ids ≡ take k ids ++ get_or ids k none ∷ [] = ap (λ (n : ℕ). take n ids) (sym e) ∙ take_more ids k none (omega arith) in
    let x = split (take k ids) (get_or ids k none ∷ []) v.rest (subst (λ (u : List NodeId). AreFound ns u v.rest) m v.left) in
    let y = alone x.high x.first in
    record {
      rest = x.low;
      done = v.done ++ y.this ∷ [];
      left = x.second;
      parts = v.parts ∙ ap (λ (u : List Tree). v.done ++ u) (x.whole ∙ ap (λ (u : List Tree). u ++ x.low) y.is) ∙ sym (append_assoc v.done (y.this ∷ []) x.low);
      added = h (sym (adds_there y.one.stands) ∙ y.one.adds) y.this.label y.this.slots y.one.numbers y.one.stands
          ∙ ap (λ (u : List Part). u ++ part_of text y.this ∷ []) v.added
          ∙ append_assoc old (map (part_of text) v.done) (part_of text y.this ∷ [])
          ∙ ap (λ (u : List Part). old ++ u) (sym (map-append (part_of text) v.done (y.this ∷ [])));
    }

pub visited_end : {ns : List Node} (text : List ℕ) (ids : List NodeId) (i : ℕ) (old now : List Part) (ts : List Tree) → i ≡ 0 → Visited ns text (take i ids) old now ts → now ≡ old ++ map (part_of text) ts
visited_end {ns} text ids i old now ts e v =
    let n : v.rest ≡ [] = nothing v.rest (subst (λ (n : ℕ). AreFound ns (take n ids) v.rest) e v.left) in
    v.added ∙ ap (λ (u : List Tree). old ++ map (part_of text) u) (sym (v.parts ∙ ap (λ (u : List Tree). v.done ++ u) n ∙ append-nil v.done))
  where
    nothing : (us : List Tree) → AreFound ns [] us → us ≡ []
    nothing us (none_found e) = e

-- ---- the visits of a program

pub visits_of : (s : Span) (cs : Slots) → visits (program_tree s cs) ≡ in_order_of_ends (found_in cs)
visits_of s cs = ap in_order_of_ends (append-nil (found_in cs))

none_itself : {ns : List Node} {i : ℕ} {l : Label} {cs : Slots} {rs : List ℕ} → ((id : NodeId) → id.0 < length ns → adds_at ns id ≡ false) → Stands ns i l cs rs → itself l cs ≡ []
none_itself {ns} {cs = cs} h (stands i w all) = ap (λ (b : Bool). cond b (record { label = label (get_or ns i empty_program); slots = cs } ∷ []) []) (h (record { 0 = i }) w)

-- where no node adds anything
pub none_in : {ns : List Node} {b : ℕ} {ids : List (Option NodeId)} {cs : Slots} {rs : List ℕ} → ((id : NodeId) → id.0 < length ns → adds_at ns id ≡ false) → StandsAll ns b ids cs rs → found_in cs ≡ []
none_in h no_slots = refl
none_in h (next_child w (stands i v all) more) =
    let one = none_itself h (stands i v all) in
    let inner = none_in h all in
    let others = none_in h more in
    λ j. inner j ++ (one j ++ others j)
none_in h (next_hole more) = none_in h more
