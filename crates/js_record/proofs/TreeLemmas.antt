-- What the slots of a tree add is what the numbers that stand for them show.
use Rattle.std.proofs.Common.{◌≡◌, ℕ, ◌<◌, List, [], ◌∷◌, ◌++◌, Option, Some, None, Bool, true, false, length, get_or, map, if◌then◌else◌, refl, sym, ap, ◌∙◌, subst, inl, inr, true≢false, is_some, unwrap_or}
use Rattle.std.specs.Prelude.{All}
use Rattle.std.specs.List.{flat_map}
use Rattle.std.proofs.lemmas.List.Elements.{All-from_recursion}
use Rattle.js_base.specs.declared.span.Span.{Span}
use Rattle.js_grammar.specs.BoundNames as bound
use Rattle.js_grammar.specs.ModuleRecords.{NameSpan}
use Rattle.js_grammar.specs.Modules.{named, first_name, second_name, specifier, import_entry, import_entries, own_entry, own_entries, from_entry, from_entries, exported_names, optional_name, of_import, of_export_named, of_export_from, of_export_all, of_export_default, of_export_declaration, import_part, export_named_part, export_from_part, export_all_by, export_all_part, export_default_part, export_declaration_part, syntax, import_call_part}
use Rattle.js_grammar.specs.NodeNames.{span_of, IsReadFrom, AreReadFrom}
use Rattle.js_grammar.specs.Trees.{Label, Slots, end, hole, tree, after_first}
use Rattle.js_tree.specs.declared.id.NodeId.{NodeId}
use Rattle.js_tree.specs.Nodes.{Node, label, node_at, empty_program}
use Rattle.js_tree.specs.Holding.{Stands, stands, StandsAll, no_slots, next_child, next_hole}
use Rattle.js_tree.specs.Binding.{Binds, IsIn, AreIn}
use Rattle.js_record.specs.Shown.{IsTree, IsRead, IsReadWhole, IsGood, OfTree, label_at, ids_of, rest_of, first_of, IsBelow, IsNear, IsDeep, first_shown, second_shown, optional_shown, import_shown, name_shown, own_shown, from_shown, import_part_shown, export_named_shown, export_from_shown, export_all_shown, export_default_shown, import_call_shown, export_all_by as shown_all}

abbrev pub Each : {A : Type 0} → (A → Type 0) → List A → Type 0
Each P [] = Unit {0}
Each P (x ∷ xs) = P x × Each P xs

module _ (ns : List Node) (text : List ℕ) where
  near_each : (b : ℕ) (ids : List (Option NodeId)) (us : Slots) (rs : List ℕ) → StandsAll ns b ids us rs → AreReadFrom text us → Each (IsNear ns text) ids
  near_each b _ _ _ no_slots r = tt
  near_each b _ _ _ (next_child lt (stands i w all) more) r = ((w, r.0), near_each b _ _ _ more r.2)
  near_each b _ _ _ (next_hole more) r = (tt, near_each b _ _ _ more r)

  near_all : (b : ℕ) (ids : List (Option NodeId)) (us : Slots) (rs : List ℕ) → StandsAll ns b ids us rs → AreReadFrom text us → All (IsNear ns text) ids
  near_all b ids us rs s r = All-from_recursion (IsNear ns text) ids (near_each b ids us rs s r)

  deep_each : (b : ℕ) (ids : List (Option NodeId)) (us : Slots) (rs : List ℕ) → StandsAll ns b ids us rs → AreReadFrom text us → Each (IsDeep ns text) ids
  deep_each b _ _ _ no_slots r = tt
  deep_each b _ _ _ (next_child lt (stands i w all) more) r = ((w, r.0, near_all _ _ _ _ all r.1), deep_each b _ _ _ more r.2)
  deep_each b _ _ _ (next_hole more) r = (tt, deep_each b _ _ _ more r)

  below_each : (b : ℕ) (ids : List (Option NodeId)) (us : Slots) (rs : List ℕ) → StandsAll ns b ids us rs → Each (IsBelow ns) ids
  below_each b _ _ _ no_slots = tt
  below_each b _ _ _ (next_child lt (stands i w all) more) = (w, below_each b _ _ _ more)
  below_each b _ _ _ (next_hole more) = (tt, below_each b _ _ _ more)

  first_tree : (b : ℕ) (ids : List (Option NodeId)) (us : Slots) (rs : List ℕ) → StandsAll ns b ids us rs → first_shown ns text ids ≡ first_name text us
  first_tree b _ _ _ no_slots = refl
  first_tree b _ _ _ (next_child lt (stands i w all) more) = refl
  first_tree b _ _ _ (next_hole more) = refl

  optional_tree : (b : ℕ) (ids : List (Option NodeId)) (us : Slots) (rs : List ℕ) → StandsAll ns b ids us rs → optional_shown ns text ids ≡ optional_name text us
  optional_tree b _ _ _ no_slots = refl
  optional_tree b _ _ _ (next_child lt (stands i w all) more) = refl
  optional_tree b _ _ _ (next_hole more) = refl

  behind_tree : (b : ℕ) (ids : List (Option NodeId)) (us : Slots) (rs : List ℕ) → StandsAll ns b ids us rs → (ss : List ℕ) × StandsAll ns b (rest_of ids) (after_first us) ss
  behind_tree b _ _ _ no_slots = ([], no_slots)
  behind_tree b _ _ _ (next_child lt s more) = (_, more)
  behind_tree b _ _ _ (next_hole more) = (_, more)

  second_tree : (b : ℕ) (ids : List (Option NodeId)) (us : Slots) (rs : List ℕ) → StandsAll ns b ids us rs → second_shown ns text ids ≡ second_name text us
  second_tree b ids us rs s = let m = behind_tree b ids us rs s in first_tree b (rest_of ids) (after_first us) m.0 m.1

  imports_tree : (st : Span) (q : NameSpan) (b : ℕ) (ids : List (Option NodeId)) (us : Slots) (rs : List ℕ) → StandsAll ns b ids us rs → flat_map (import_shown ns text st q) ids ≡ import_entries text st q us
  imports_tree st q b _ _ _ no_slots = refl
  imports_tree st q b _ _ _ (next_child {id = c} lt (stands i w all) more) =
      λ j. import_entry st q (label_at ns c) (first_tree _ _ _ _ all j) (second_tree _ _ _ _ all j) ∷ imports_tree st q b _ _ _ more j
  imports_tree st q b _ _ _ (next_hole more) = imports_tree st q b _ _ _ more

  names_tree : (b : ℕ) (ids : List (Option NodeId)) (us : Slots) (rs : List ℕ) → StandsAll ns b ids us rs → flat_map (name_shown ns text) ids ≡ exported_names text us
  names_tree b _ _ _ no_slots = refl
  names_tree b _ _ _ (next_child lt (stands i w all) more) = λ j. second_tree _ _ _ _ all j ∷ names_tree b _ _ _ more j
  names_tree b _ _ _ (next_hole more) = names_tree b _ _ _ more

  own_tree : (st : Span) (b : ℕ) (ids : List (Option NodeId)) (us : Slots) (rs : List ℕ) → StandsAll ns b ids us rs → flat_map (own_shown ns text st) ids ≡ own_entries text st us
  own_tree st b _ _ _ no_slots = refl
  own_tree st b _ _ _ (next_child {id = c} lt (stands i w all) more) = λ j. own_entry st (span_of (label_at ns c)) (second_tree _ _ _ _ all j) (first_tree _ _ _ _ all j) ∷ own_tree st b _ _ _ more j
  own_tree st b _ _ _ (next_hole more) = own_tree st b _ _ _ more

  from_tree : (st : Span) (q : NameSpan) (b : ℕ) (ids : List (Option NodeId)) (us : Slots) (rs : List ℕ) → StandsAll ns b ids us rs → flat_map (from_shown ns text st q) ids ≡ from_entries text st q us
  from_tree st q b _ _ _ no_slots = refl
  from_tree st q b _ _ _ (next_child {id = c} lt (stands i w all) more) = λ j. from_entry st (span_of (label_at ns c)) q (second_tree _ _ _ _ all j) (first_tree _ _ _ _ all j) ∷ from_tree st q b _ _ _ more j
  from_tree st q b _ _ _ (next_hole more) = from_tree st q b _ _ _ more

  -- ---- a node whose children are read

  contained : (i : ℕ) (l : Label) (cs : Slots) (rs : List ℕ) → Stands ns i l cs rs → i < length ns
  contained _ _ _ _ (stands i w all) = w

  deep_at : (i : ℕ) (l : Label) (cs : Slots) (rs : List ℕ) → Stands ns i l cs rs → AreReadFrom text cs → All (IsDeep ns text) (get_or ns i empty_program).children
  deep_at _ _ _ _ (stands i w all) r = All-from_recursion (IsDeep ns text) _ (deep_each _ _ _ _ all r)

  near_at : (i : ℕ) (l : Label) (cs : Slots) (rs : List ℕ) → Stands ns i l cs rs → AreReadFrom text cs → All (IsNear ns text) (get_or ns i empty_program).children
  near_at _ _ _ _ (stands i w all) r = near_all _ _ _ _ all r

  pub read_contained : (id : NodeId) → IsRead ns text id → id.0 < length ns
  read_contained id r = contained id.0 r.label r.slots r.numbers r.stands

  pub read_deep : (id : NodeId) → IsRead ns text id → All (IsDeep ns text) (ids_of ns id)
  read_deep id r = deep_at id.0 r.label r.slots r.numbers r.stands r.read

  pub read_near : (id : NodeId) → IsRead ns text id → All (IsNear ns text) (ids_of ns id)
  read_near id r = near_at id.0 r.label r.slots r.numbers r.stands r.read

  -- ---- the part of a node

  pub import_part_is : (i : ℕ) (l : Label) (cs : Slots) (rs : List ℕ) → Stands ns i l cs rs → import_part_shown ns text (get_or ns i empty_program).span (get_or ns i empty_program).children ≡ import_part text l cs
  import_part_is _ _ _ _ (stands i w all) = go (label (get_or ns i empty_program)) (get_or ns i empty_program).span _ _ _ _ refl all
    where
      go : (l : Label) (st : Span) (b : ℕ) (ids : List (Option NodeId)) (us : Slots) (rs : List ℕ) → st ≡ span_of l → StandsAll ns b ids us rs → import_part_shown ns text st ids ≡ import_part text l us
      go l st b _ _ _ e no_slots = refl
      go l st b _ _ _ e (next_child {id = c} {us = us} lt (stands i w all) more) =
          let m = behind_tree b _ _ _ more in
          λ j. of_import (e j) (specifier text (label_at ns c)) (λ r. (imports_tree st r b _ _ m.0 m.1 ∙ ap (λ s. import_entries text s r (after_first us)) e) j)
      go l st b _ _ _ e (next_hole more) = refl

  pub export_named_is : (i : ℕ) (l : Label) (cs : Slots) (rs : List ℕ) → Stands ns i l cs rs → export_named_shown ns text (get_or ns i empty_program).span (get_or ns i empty_program).children ≡ export_named_part text l cs
  export_named_is _ _ _ _ (stands i w all) = λ j. of_export_named (own_tree (get_or ns i empty_program).span _ _ _ _ all j) (names_tree _ _ _ _ all j)

  pub export_from_is : (i : ℕ) (l : Label) (cs : Slots) (rs : List ℕ) → Stands ns i l cs rs → export_from_shown ns text (get_or ns i empty_program).span (get_or ns i empty_program).children ≡ export_from_part text l cs
  export_from_is _ _ _ _ (stands i w all) = go (label (get_or ns i empty_program)) (get_or ns i empty_program).span _ _ _ _ refl all
    where
      go : (l : Label) (st : Span) (b : ℕ) (ids : List (Option NodeId)) (us : Slots) (rs : List ℕ) → st ≡ span_of l → StandsAll ns b ids us rs → export_from_shown ns text st ids ≡ export_from_part text l us
      go l st b _ _ _ e no_slots = refl
      go l st b _ _ _ e (next_child {id = c} {us = us} lt (stands i w all) more) =
          let m = behind_tree b _ _ _ more in
          λ j. of_export_from (e j) (specifier text (label_at ns c)) (λ r. (from_tree st r b _ _ m.0 m.1 ∙ ap (λ s. from_entries text s r (after_first us)) e) j) (names_tree b _ _ m.0 m.1 j)
      go l st b _ _ _ e (next_hole more) = refl

  pub export_all_is : (i : ℕ) (l : Label) (cs : Slots) (rs : List ℕ) → Stands ns i l cs rs → export_all_shown ns text (get_or ns i empty_program).span (get_or ns i empty_program).children ≡ export_all_part text l cs
  export_all_is _ _ _ _ (stands i w all) = let m = behind_tree _ _ _ _ all in go (label (get_or ns i empty_program)) _ _ _ _ _ m.0 (optional_tree _ _ _ _ all) m.1
    where
      go : (l : Label) (os names : List NameSpan) (b : ℕ) (ids : List (Option NodeId)) (us : Slots) (rs : List ℕ) → os ≡ names → StandsAll ns b ids us rs → shown_all ns text (span_of l) os (first_of ids) ≡ export_all_by text l names us
      go l os names b _ _ _ e no_slots = refl
      go l os names b _ _ _ e (next_child {id = c} lt (stands i w all) more) = λ j. of_export_all (span_of l) (specifier text (label_at ns c)) (e j)
      go l os names b _ _ _ e (next_hole more) = refl

  pub export_default_is : (word : Span) (i : ℕ) (l : Label) (cs : Slots) (rs : List ℕ) → Stands ns i l cs rs → export_default_shown ns text (get_or ns i empty_program).span word (get_or ns i empty_program).children ≡ export_default_part text word l cs
  export_default_is word _ _ _ _ (stands i w all) = go (label (get_or ns i empty_program)) _ _ _ _ all
    where
      go : (l : Label) (b : ℕ) (ids : List (Option NodeId)) (us : Slots) (rs : List ℕ) → StandsAll ns b ids us rs → export_default_shown ns text (span_of l) word ids ≡ export_default_part text word l us
      go l b _ _ _ no_slots = refl
      go l b _ _ _ (next_child {id = c} lt (stands i w all) more) = λ j. of_export_default (span_of l) word (label_at ns c) (named text (label_at ns c)) (optional_tree _ _ _ _ all j)
      go l b _ _ _ (next_hole more) = refl

  pub import_call_is : (i : ℕ) (l : Label) (cs : Slots) (rs : List ℕ) → Stands ns i l cs rs → import_call_shown ns (get_or ns i empty_program).span (get_or ns i empty_program).children ≡ import_call_part l cs
  import_call_is _ _ _ _ (stands i w all) = go (label (get_or ns i empty_program)) _ _ _ _ all
    where
      go : (l : Label) (b : ℕ) (ids : List (Option NodeId)) (us : Slots) (rs : List ℕ) → StandsAll ns b ids us rs → import_call_shown ns (span_of l) ids ≡ import_call_part l us
      go l b _ _ _ no_slots = refl
      go l b _ _ _ (next_child lt (stands i w all) more) = refl
      go l b _ _ _ (next_hole more) = refl

  pub below_at : (i : ℕ) (l : Label) (cs : Slots) (rs : List ℕ) → Stands ns i l cs rs → All (IsBelow ns) (get_or ns i empty_program).children
  below_at _ _ _ _ (stands i w all) = All-from_recursion (IsBelow ns) _ (below_each _ _ _ _ all)

-- ---- bound names

module _ (text : List ℕ) where
  each_append : {A : Type 0} (P : A → Type 0) (xs ys : List A) → Each P xs → Each P ys → Each P (xs ++ ys)
  each_append P [] ys h k = k
  each_append P (x ∷ xs) ys h k = (h.0, each_append P xs ys h.1 k)

  own_read : (p : bound.Part) (l : Label) (ls : List Label) → IsReadFrom text l → Each (IsReadFrom text) ls → Each (IsReadFrom text) (bound.own_or p l ls)
  own_read bound.itself l ls r h = (r, tt)
  own_read _ l ls r h = h

  if_read : (b : Bool) (ls : List Label) → Each (IsReadFrom text) ls → Each (IsReadFrom text) (if b then ls else [])
  if_read true ls h = h
  if_read false ls h = tt

  bound_read : (p : bound.Part) (us : Slots) → AreReadFrom text us → Each (IsReadFrom text) (bound.bound_in p us)
  bound_read p end r = tt
  bound_read p (hole us) r = bound_read (bound.behind p) us r
  bound_read p (tree l cs us) r =
      each_append (IsReadFrom text) _ _
      (if_read (bound.takes p) _ (own_read (bound.part_of l.kind) l _ r.0 (bound_read (bound.part_of l.kind) cs r.1)))
      (bound_read (bound.behind p) us r.2)

-- the numbers that a tree reaches are of the store
mutual
  reached_stands : (ns : List Node) (i : ℕ) (l : Label) (cs : Slots) (rs : List ℕ) → Stands ns i l cs rs → Each (λ r. r < length ns) rs
  reached_stands ns _ _ _ _ (stands i w all) = (w, reached_all ns _ _ _ _ all)

  reached_all : (ns : List Node) (b : ℕ) (ids : List (Option NodeId)) (us : Slots) (rs : List ℕ) → StandsAll ns b ids us rs → Each (λ r. r < length ns) rs
  reached_all ns _ _ _ _ no_slots = tt
  reached_all ns _ _ _ _ (next_child lt s more) = each_append [] (λ r. r < length ns) _ _ (reached_stands ns _ _ _ _ s) (reached_all ns _ _ _ _ more)
  reached_all ns _ _ _ _ (next_hole more) = reached_all ns _ _ _ _ more

is_in : (P : ℕ → Type 0) (rs : List ℕ) (x : ℕ) → Each P rs → IsIn rs x → P x
is_in P [] x h k = absurd k
is_in P (r ∷ rs) x h (inl e) = subst P e h.0
is_in P (r ∷ rs) x h (inr k) = is_in P rs x h.1 k

good_each : (ns : List Node) (text : List ℕ) (rs : List ℕ) (ids : List NodeId) → Each (λ r. r < length ns) rs → AreIn rs ids → Each (IsReadFrom text) (map (label_at ns) ids) → Each (IsGood ns text) ids
good_each ns text rs [] w k h = tt
good_each ns text rs (id ∷ ids) w k h = ((is_in (λ r. r < length ns) rs id.0 w k.0, h.0), good_each ns text rs ids w k.1 h.1)

pub good_all : (ns : List Node) (text : List ℕ) (i : ℕ) (l : Label) (cs : Slots) (rs : List ℕ) (ids : List NodeId) → Stands ns i l cs rs → IsReadFrom text l → AreReadFrom text cs → Binds ns ids l cs rs → All (IsGood ns text) ids
good_all ns text i l cs rs ids s r rr b =
    All-from_recursion (IsGood ns text) ids (good_each ns text rs ids (reached_stands ns i l cs rs s) b.reached
    (subst (Each (IsReadFrom text)) (sym b.labels) (bound_read text bound.first (tree l cs end) (r, rr, tt))))

pub names_bound : (ns : List Node) (text : List ℕ) (l : Label) (cs : Slots) (rs : List ℕ) (ids : List NodeId) → Binds ns ids l cs rs → map (λ id. named text (label_at ns id)) ids ≡ map (named text) (bound.bound_names l cs)
names_bound ns text l cs rs ids b = twice ids ∙ ap (map (named text)) b.labels
  where
    twice : (is : List NodeId) → map (λ id. named text (label_at ns id)) is ≡ map (named text) (map (label_at ns) is)
    twice [] = refl
    twice (i ∷ is) = ap (λ v. named text (label_at ns i) ∷ v) (twice is)

-- ---- an exported declaration

module _ (ns : List Node) (text : List ℕ) where
  none_some : {A : Type 0} {x : A} → Some x ≡ None → ⊥
  none_some e = true≢false (ap is_some e)

  same_id : {A : Type 0} {x y : A} → Some x ≡ Some y → x ≡ y
  same_id {A} {x} e = ap (λ r. unwrap_or r x) e

  child_go : (b : ℕ) (ids : List (Option NodeId)) (us : Slots) (rs : List ℕ) → StandsAll ns b ids us rs → AreReadFrom text us → (c : NodeId) → Some c ≡ first_of ids → IsReadWhole ns text c
  child_go b _ _ _ no_slots r c e = absurd (none_some e)
  child_go b _ _ _ (next_child {id = d} {l = l} {cs = cs} {rs = rs} lt s more) r c e = subst (IsReadWhole ns text) (sym (same_id e)) (record { label = l; slots = cs; numbers = rs; stands = s; itself = r.0; read = r.1 })
  child_go b _ _ _ (next_hole more) r c e = absurd (none_some e)

  child_at : (i : ℕ) (l : Label) (cs : Slots) (rs : List ℕ) → Stands ns i l cs rs → AreReadFrom text cs → (c : NodeId) → Some c ≡ first_of (get_or ns i empty_program).children → IsReadWhole ns text c
  child_at _ _ _ _ (stands i w all) r c e = child_go _ _ _ _ all r c e

  pub child_read : (id : NodeId) (c : NodeId) → IsRead ns text id → Some c ≡ first_of (ids_of ns id) → IsReadWhole ns text c
  child_read id c r e = child_at id.0 r.label r.slots r.numbers r.stands r.read c e

  pub whole_contained : (id : NodeId) → IsReadWhole ns text id → id.0 < length ns
  whole_contained id r = contained ns text id.0 r.label r.slots r.numbers r.stands

  pub whole_good : (id : NodeId) (ids : List NodeId) → IsReadWhole ns text id → ((l : Label) (cs : Slots) (rs : List ℕ) → Stands ns id.0 l cs rs → Binds ns ids l cs rs) → All (IsGood ns text) ids
  whole_good id ids r b = good_all ns text id.0 r.label r.slots r.numbers ids r.stands r.itself r.read (b r.label r.slots r.numbers r.stands)

  pub whole_names : (id : NodeId) (ids : List NodeId) (names : List NameSpan) → ((l : Label) (cs : Slots) (rs : List ℕ) → Stands ns id.0 l cs rs → Binds ns ids l cs rs) → names ≡ map (λ i. named text (label_at ns i)) ids
      → OfTree ns id (λ l cs. names ≡ map (named text) (bound.bound_names l cs))
  whole_names id ids names b e l cs rs s = e ∙ names_bound ns text l cs rs ids (b l cs rs s)

  declaration_go : (l : Label) (b : ℕ) (ids : List (Option NodeId)) (us : Slots) (rs : List ℕ) → StandsAll ns b ids us rs → (c : NodeId) → Some c ≡ first_of ids → (names : List NameSpan)
      → OfTree ns c (λ dl ds. names ≡ map (named text) (bound.bound_names dl ds)) → of_export_declaration (span_of l) (span_of (label_at ns c)) names ≡ export_declaration_part text l us
  declaration_go l b _ _ _ no_slots c e names h = absurd (none_some e)
  declaration_go l b _ _ _ (next_child {id = d} {cs = ds} {rs = rs} lt (stands i w all) more) c e names h =
      ap (λ v. of_export_declaration (span_of l) (span_of (label_at ns v)) names) (same_id e)
      ∙ ap (of_export_declaration (span_of l) (span_of (label_at ns d))) (subst (λ v. OfTree ns v (λ dl es. names ≡ map (named text) (bound.bound_names dl es))) (same_id e) h (label_at ns d) ds _ (stands i w all))
  declaration_go l b _ _ _ (next_hole more) c e names h = absurd (none_some e)

  pub declaration_is : (id c : NodeId) → Some c ≡ first_of (ids_of ns id) → (names : List NameSpan) → OfTree ns c (λ dl ds. names ≡ map (named text) (bound.bound_names dl ds))
      → OfTree ns id (λ l cs. of_export_declaration (node_at ns id).span (node_at ns c).span names ≡ export_declaration_part text l cs)
  declaration_is id c e names h l cs rs s = go id.0 l cs rs s e
    where
      go : (i : ℕ) (l : Label) (cs : Slots) (rs : List ℕ) → Stands ns i l cs rs → Some c ≡ first_of (get_or ns i empty_program).children → of_export_declaration (get_or ns i empty_program).span (node_at ns c).span names ≡ export_declaration_part text l cs
      go _ _ _ _ (stands i w all) e = declaration_go (label (get_or ns i empty_program)) _ _ _ _ all c e names h

  no_declaration_go : (l : Label) (b : ℕ) (ids : List (Option NodeId)) (us : Slots) (rs : List ℕ) → StandsAll ns b ids us rs → None ≡ first_of ids → syntax ≡ export_declaration_part text l us
  no_declaration_go l b _ _ _ no_slots e = refl
  no_declaration_go l b _ _ _ (next_child lt s more) e = absurd (none_some (sym e))
  no_declaration_go l b _ _ _ (next_hole more) e = refl

  pub no_declaration : (id : NodeId) → None ≡ first_of (ids_of ns id) → OfTree ns id (λ l cs. syntax ≡ export_declaration_part text l cs)
  no_declaration id e l cs rs s = go id.0 l cs rs s e
    where
      go : (i : ℕ) (l : Label) (cs : Slots) (rs : List ℕ) → Stands ns i l cs rs → None ≡ first_of (get_or ns i empty_program).children → syntax ≡ export_declaration_part text l cs
      go _ _ _ _ (stands i w all) e = no_declaration_go (label (get_or ns i empty_program)) _ _ _ _ all e

pub tree_contained : (ns : List Node) (id : NodeId) → IsTree ns id → id.0 < length ns
tree_contained ns id r = contained ns [] id.0 r.label r.slots r.numbers r.stands

pub tree_below : (ns : List Node) (id : NodeId) → IsTree ns id → All (IsBelow ns) (ids_of ns id)
tree_below ns id r = below_at ns [] id.0 r.label r.slots r.numbers r.stands
