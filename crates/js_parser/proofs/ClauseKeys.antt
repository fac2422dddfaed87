-- The keys of a WithClause as nodes by number, and the walk over them (ECMA-262, 16.2.2.1).
use Rattle.std.proofs.Common.{ℕ, zero, suc, ◌≡◌, ◌<◌, ◌≤◌, ◌+◌, Bool, true, false, ◌&&◌, cond, List, [], ◌∷◌, ◌++◌, length, drop, take, slice_get, nat_lt, Option, Some, None, refl, sym, ap, ◌∙◌, arith, append_assoc, append-nil, lt-ltb}
use Rattle.std.specs.Prelude.{bytes_eq, option_map}
use Rattle.std.specs.List.{find}
use Rattle.std.specs.Map.{lookup}
use Rattle.std.proofs.lemmas.Bool.{false≢true}
use Rattle.js_base.specs.declared.diagnostic.Diagnostic.{Diagnostic}
use Rattle.js_base.specs.declared.diagnostic.DiagnosticKind.TheVariants.{Redeclaration}
use Rattle.js_base.specs.declared.span.Span.{Span}
use Rattle.js_grammar.specs.EarlyRules.{same_value}
use Rattle.js_grammar.specs.Trees.{NodeKind, with_clause, Label, Slots}
use Rattle.js_tree.specs.declared.id.NodeId.{NodeId}
use Rattle.js_tree.specs.Covering.{placed}
use Rattle.js_tree.specs.Holding.{Stands, stands, StandsAll, no_slots, next_child, next_hole}
use Rattle.js_tree.specs.Nodes.{Node, label, node_at}
use Rattle.js_core.proofs.parse_targets.CoveredNodes.{label_at}
use Rattle.js_parser.specs.AttributeKeys.{value_of, same_before, told_again, told_keys, told_of_keys, key_in, keys_in, key_at, key_label, keys_at, is_clause, AreLast}
use Rattle.js_parser.specs.MemberNodes.{with_node}
use Rattle.js_parser.proofs.AttributeKeys.{same_none}

-- ---- the keys of a tree are those of its nodes

first_key : {ns : List Node} {b : ℕ} {ids : List (Option NodeId)} {cs : Slots} {rs : List ℕ} → StandsAll ns b ids cs rs → b ≤ length ns → key_in cs ≡ key_label ns (with_node ns (slice_get ids 0))
first_key no_slots w = refl
first_key {ns} (next_child {id = id} b h a) w = (λ i. label_at h i ∷ []) ∙ ap (λ (t : Bool). key_label ns (cond t (Some id) None)) (sym (lt-ltb id.0 (length ns) (omega arith)))
first_key (next_hole a) w = refl

own_key : {ns : List Node} {n : ℕ} {l : Label} {cs : Slots} {rs : List ℕ} (id : NodeId) → id.0 ≡ n → Stands ns n l cs rs → key_in cs ≡ key_label ns (key_at ns (Some id))
own_key {ns} id e (stands n h a) = first_key a (omega arith) ∙ ap (λ (m : ℕ). key_label ns (key_at ns (Some (record { 0 = m })))) (sym e)

keys_stand : {ns : List Node} {b : ℕ} {ids : List (Option NodeId)} {cs : Slots} {rs : List ℕ} → StandsAll ns b ids cs rs → b ≤ length ns → keys_in cs ≡ keys_at ns ids
keys_stand no_slots w = refl
keys_stand {ns} (next_child {id = id} {ids = ids} b h a) w =
    let here = own_key id refl h ∙ ap (λ (t : Bool). key_label ns (key_at ns (cond t (Some id) None))) (sym (lt-ltb id.0 (length ns) (omega arith))) in
    λ i. here i ++ keys_stand a w i
keys_stand (next_hole a) w = keys_stand a w

-- so the same is told of them
pub keys_kept : {ns : List Node} {b : ℕ} {ids : List (Option NodeId)} {cs : Slots} {rs : List ℕ} (text : List ℕ) (k : NodeKind) → StandsAll ns b ids cs rs → b ≤ length ns → told_of_keys text k (keys_in cs) ≡ told_of_keys text k (keys_at ns ids)
keys_kept text k a w = ap (told_of_keys text k) (keys_stand a w)

-- ---- code units, one after another

next_slot : (i : ℕ) → suc i ≡ i + 1
next_slot i = omega arith

pub unit_more : (xs : List ℕ) (i x : ℕ) → Some x ≡ slice_get xs i → take i xs ++ x ∷ [] ≡ take (i + 1) xs
unit_more xs i x e = go xs i e ∙ ap (λ (n : ℕ). take n xs) (next_slot i)
  where
    go : (ys : List ℕ) (n : ℕ) → Some x ≡ slice_get ys n → take n ys ++ x ∷ [] ≡ take (suc n) ys
    go [] n f = absurd (let z = f in cc)
    go (y ∷ ys) zero f = let z : x ≡ y = cc in ap (λ (v : ℕ). v ∷ []) z
    go (y ∷ ys) (suc n) f = ap (λ (v : List ℕ). y ∷ v) (go ys n f)

pub unit_there : (xs : List ℕ) (i : ℕ) → i < length xs → None ≡ slice_get xs i → ⊥
unit_there [] i h e = omega arith
unit_there (x ∷ xs) zero h e = let z = e in cc
unit_there (x ∷ xs) (suc i) h e = unit_there xs i (omega arith) e

-- ---- where nothing can be told

pub few_keys : (text : List ℕ) (ns : List Node) (k : NodeKind) (ids : List (Option NodeId)) → (is_clause k && nat_lt 1 (length ids)) ≡ false → told_of_keys text k (keys_at ns ids) ≡ []
few_keys text ns with_clause [] e = refl
few_keys text ns with_clause (x ∷ []) e = one (key_at ns (with_node ns (Some x)))
  where
    one : (o : Option NodeId) → told_keys text [] (key_label ns o ++ []) ≡ []
    one None = refl
    one (Some k) = refl
few_keys text ns with_clause (x ∷ (y ∷ ids)) e = absurd (false≢true (sym e ∙ lt-ltb 1 (suc (suc (length ids))) (omega arith)))
few_keys text ns k ids e = refl

pub of_clause : (text : List ℕ) (k : NodeKind) (b : Bool) (ks : List Label) → (is_clause k && b) ≡ true → told_of_keys text k ks ≡ told_keys text [] ks
of_clause text with_clause b ks e = refl
of_clause text k b ks e = absurd (false≢true e)

-- ---- one key more

-- a key is told with the nearest one before that has its value
abbrev pub told_with : Label → Option Span → List Diagnostic
told_with k None = []
told_with k (Some s) = record { kind = Redeclaration; span = placed k.span; first = Some s; second = None } ∷ []

again_with : (k : Label) (o : Option Label) → told_again k o ≡ told_with k (option_map (λ (b : Label). placed b.span) o)
again_with k None = refl
again_with k (Some b) = refl

none_found : (text : List ℕ) (before : List Label) → find (λ b. same_value (value_of text b.kind b) None) before ≡ None
none_found text [] = refl
none_found text (b ∷ before) = ap (λ (t : Bool). cond t (Some b) (find (λ c. same_value (value_of text c.kind c) None) before)) (same_none (value_of text b.kind b)) ∙ none_found text before

module _ (text : List ℕ) (entries : List (List ℕ × Span)) (before : List Label) (last : AreLast text entries before) (k : Label) where
  -- without a value
  module _ (none : value_of text k.kind k ≡ None) where
    pub valueless_told : told_again k (same_before text before k) ≡ []
    valueless_told = ap (told_again k) (ap (λ (v : Option (List ℕ)). find (λ b. same_value (value_of text b.kind b) v) before) none ∙ none_found text before)

    pub valueless_noted : AreLast text entries (k ∷ before)
    valueless_noted v = last v ∙ ap (λ (w : Option (List ℕ)). option_map (λ (b : Label). placed b.span) (cond (same_value w (Some v)) (Some k) (find (λ b. same_value (value_of text b.kind b) (Some v)) before))) (sym none)

  module _ (value : List ℕ) (some : value_of text k.kind k ≡ Some value) where
    pub told_by : (old : Option Span) → old ≡ lookup (bytes_eq value) entries → told_again k (same_before text before k) ≡ told_with k old
    told_by old e = again_with k (same_before text before k) ∙ ap (told_with k) (ap (λ (v : Option (List ℕ)). option_map (λ (b : Label). placed b.span) (find (λ b. same_value (value_of text b.kind b) v) before)) some ∙ sym (e ∙ last value))

    pub noted : (news : List (List ℕ × Span)) → ((v : List ℕ) → lookup (bytes_eq v) news ≡ cond (bytes_eq value v) (Some (placed k.span)) (lookup (bytes_eq v) entries)) → AreLast text news (k ∷ before)
    noted news put v =
        put v
        ∙ (go (bytes_eq value v)
        ∙ ap (λ (w : Option (List ℕ)). option_map (λ (b : Label). placed b.span) (cond (same_value w (Some v)) (Some k) found)) (sym some))
      where
        found : Option Label
        found = find (λ b. same_value (value_of text b.kind b) (Some v)) before

        go : (t : Bool) → cond t (Some (placed k.span)) (lookup (bytes_eq v) entries) ≡ option_map (λ (b : Label). placed b.span) (cond t (Some k) found)
        go true = refl
        go false = last v

-- ---- the walk

-- those up to a slot were told
pub record Telling (text : List ℕ) (ns : List Node) (ids : List (Option NodeId)) (i : ℕ) (entries : List (List ℕ × Span)) (told whole : List Diagnostic) : Type 0 where
  pub before : List Label
  pub last : AreLast text entries before
  pub parts : whole ≡ told ++ told_keys text before (keys_at ns (drop i ids))

pub telling_start : (text : List ℕ) (ns : List Node) (ids : List (Option NodeId)) (entries : List (List ℕ × Span)) (told : List Diagnostic) → entries ≡ [] → Telling text ns ids 0 entries told (told ++ told_keys text [] (keys_at ns ids))
telling_start text ns ids entries told e = record { before = []; last = λ v. ap (lookup (bytes_eq v)) e; parts = refl }

one_slot : (ns : List Node) (ids : List (Option NodeId)) (i : ℕ) → i < length ids → keys_at ns (drop i ids) ≡ key_label ns (key_at ns (with_node ns (slice_get ids i))) ++ keys_at ns (drop (suc i) ids)
one_slot ns [] i h = absurd (omega arith)
one_slot ns (x ∷ ids) zero h = refl
one_slot ns (x ∷ ids) (suc i) h = one_slot ns ids i (omega arith)

module _ {text : List ℕ} {ns : List Node} {ids : List (Option NodeId)} {entries : List (List ℕ × Span)} {told whole : List Diagnostic} (i : ℕ) (h : i < length ids) (w : Telling text ns ids i entries told whole) where
  pub telling_hole : None ≡ key_at ns (with_node ns (slice_get ids i)) → Telling text ns ids (i + 1) entries told whole
  telling_hole e = record {
    before = w.before;
    last = w.last;
    parts = w.parts ∙ ap (λ (ks : List Label). told ++ told_keys text w.before ks) (one_slot ns ids i h ∙ (λ j. key_label ns (sym e j) ++ keys_at ns (drop (suc i) ids)) ∙ ap (λ (n : ℕ). keys_at ns (drop n ids)) (next_slot i));
  }

  pub telling_key : (key : NodeId) (news : List (List ℕ × Span)) (more : List Diagnostic) → Some key ≡ key_at ns (with_node ns (slice_get ids i))
      → ((before : List Label) → AreLast text entries before → more ≡ told ++ told_again (label (node_at ns key)) (same_before text before (label (node_at ns key))))
      → ((before : List Label) → AreLast text entries before → AreLast text news (label (node_at ns key) ∷ before)) → Telling text ns ids (i + 1) news more whole
  telling_key key news more e f g =
      let k = label (node_at ns key) in
      record {
        before = k ∷ w.before;
        last = g w.before w.last;
        parts = w.parts
            ∙ (ap (λ (ks : List Label). told ++ told_keys text w.before ks) (one_slot ns ids i h ∙ (λ j. key_label ns (sym e j) ++ keys_at ns (drop (suc i) ids)) ∙ ap (λ (n : ℕ). k ∷ keys_at ns (drop n ids)) (next_slot i))
            ∙ (sym (append_assoc told (told_again k (same_before text w.before k)) (told_keys text (k ∷ w.before) (keys_at ns (drop (i + 1) ids)))) ∙ ap (λ (v : List Diagnostic). v ++ told_keys text (k ∷ w.before) (keys_at ns (drop (i + 1) ids))) (sym (f w.before w.last))));
      }

pub telling_end : {text : List ℕ} {ns : List Node} {ids : List (Option NodeId)} {entries : List (List ℕ × Span)} {told whole : List Diagnostic} (i : ℕ) → length ids ≤ i → Telling text ns ids i entries told whole → told ≡ whole
telling_end {text} {ns} {ids} {told = told} i h w = sym (w.parts ∙ ap (λ (v : List (Option NodeId)). told ++ told_keys text w.before (keys_at ns v)) (all_dropped ids i h) ∙ append-nil told)
  where
    all_dropped : (xs : List (Option NodeId)) (n : ℕ) → length xs ≤ n → drop n xs ≡ []
    all_dropped [] zero l = refl
    all_dropped [] (suc n) l = refl
    all_dropped (x ∷ xs) zero l = absurd (omega arith)
    all_dropped (x ∷ xs) (suc n) l = all_dropped xs n (omega arith)
