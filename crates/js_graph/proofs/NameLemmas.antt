-- The names that modules export.
use Rattle.std.proofs.Common.{◌≡◌, ℕ, ◌+◌, ◌<◌, ◌≤◌, Bool, true, false, cond, ◌||◌, List, [], ◌∷◌, ◌++◌, length, get_or, slice_get, Option, Some, None, is_some, refl, sym, ap, ◌∙◌, subst, inl, inr, true≢false, append_assoc}
use Rattle.std.specs.Prelude.{bytes_eq, nat_eq, Contains, filter}
use Rattle.std.specs.List.{flat_map, list_any, dedup}
use Rattle.std.specs.List.Sorted.{IsPermutation, IsSorted, IsStrictlySortedBy}
use Rattle.std.specs.Cmp.Lexicographic.{slice_cmp, nat_list_cmp_total, nat_list_eq_equiv, texts_ties}
use Rattle.std.specs.Ordering.{nat_cmp}
use Rattle.std.proofs.Common.{Bor}
use Rattle.std.specs.Option.{option_copied}
use Rattle.std.proofs.lemmas.Bool.Decides.{Decides-eqb}
use Rattle.std.proofs.lemmas.Grind.{flat_map-append}
use Rattle.std.proofs.lemmas.List.Elements.{All-contains, Contains-append_left, Contains-append_right, Contains-append_cases, Contains-push, filter-append}
use Rattle.std.proofs.lemmas.List.{append-nil}
use Rattle.std.proofs.lemmas.List.Folds.{list_any-append}
use Rattle.std.proofs.lemmas.List.Kept.{IsStrictlySortedBy-dedup, Contains-dedup, Contains-from_dedup}
use Rattle.std.proofs.lemmas.List.Sorted.{Contains-permutation, IsPermutation-sym}
use Rattle.std.proofs.lemmas.Option.{slice_get-get_or, slice_get_past}
use Rattle.std.proofs.lemmas.Slice.Eq.{bytes_eq-Decides}
use Rattle.indexmap.specs.IndexSet.{insert_all}
use Rattle.js_grammar.specs.ModuleRecords.{ModuleRecord, ExportEntry, asked_names, own_export_names}
use Rattle.js_graph.specs.Collecting.{AreSorted, AreStars, exported_by, taken_from}
use Rattle.js_graph.specs.Leads.{export_of, is_export_of}
use Rattle.js_graph.specs.Modules.{Module}
use Rattle.js_graph.specs.Names.{AreExported, AreStarNames, IsStarName, is_new, is_taken, names_of, own_names, stars_at}
use Rattle.js_graph.specs.Paths.{Reaches}
use Rattle.js_graph.proofs.PathLemmas.{AreFollowed, next_followed, all_followed, none_in, in_first}

-- an entry that exports a name is found where the name is among those that are exported
has_export : (name : List ℕ) (es : List ExportEntry) → is_some (export_of name es) ≡ list_any (bytes_eq name) (exported_by es)
has_export name [] = refl
has_export name (e ∷ es) = by (is_export_of name e) ∙ ap (λ b. is_export_of name e || b) (has_export name es) ∙ sym (list_any-append (bytes_eq name) (asked_names e.export_name) (exported_by es))
  where
    by : (b : Bool) → is_some (cond b (Some e) (export_of name es)) ≡ (b || is_some (export_of name es))
    by true = refl
    by false = refl

own_export_names-is : (r : ModuleRecord) → own_export_names r ≡ exported_by r.local_export_entries ++ exported_by r.indirect_export_entries
own_export_names-is r = flat_map-append (λ (ee : ExportEntry). asked_names ee.export_name) r.local_export_entries r.indirect_export_entries

module _ (r : ModuleRecord) (name : List ℕ) where
  exports : list_any (bytes_eq name) (own_export_names r) ≡ (is_some (export_of name r.local_export_entries) || is_some (export_of name r.indirect_export_entries))
  exports =
      ap (list_any (bytes_eq name)) (own_export_names-is r)
      ∙ list_any-append (bytes_eq name) (exported_by r.local_export_entries) (exported_by r.indirect_export_entries)
      ∙ ap (λ b. b || list_any (bytes_eq name) (exported_by r.indirect_export_entries)) (sym (has_export name r.local_export_entries))
      ∙ ap (λ b. is_some (export_of name r.local_export_entries) || b) (sym (has_export name r.indirect_export_entries))

  some_copied : {A : Type 0} (o : Option (Bor A)) → is_some (option_copied o) ≡ is_some o
  some_copied None = refl
  some_copied (Some x) = refl

  -- a local entry exports the name
  pub exports_here : (o : Option (Bor ExportEntry)) → option_copied o ≡ export_of name r.local_export_entries → is_some o ≡ true → true ≡ list_any (bytes_eq name) (own_export_names r)
  exports_here o e h =
      let here : is_some (export_of name r.local_export_entries) ≡ true = ap is_some (sym e) ∙ some_copied o ∙ h in
      sym (exports ∙ ap (λ b. b || is_some (export_of name r.indirect_export_entries)) here)

  -- none does, and an indirect entry exports it or not
  pub exports_there : (o p : Option (Bor ExportEntry)) → option_copied o ≡ export_of name r.local_export_entries → is_some o ≡ false → option_copied p ≡ export_of name r.indirect_export_entries → is_some p ≡ list_any (bytes_eq name) (own_export_names r)
  exports_there o p e h f =
      let here : is_some (export_of name r.local_export_entries) ≡ false = ap is_some (sym e) ∙ some_copied o ∙ h in
      let there : is_some (export_of name r.indirect_export_entries) ≡ is_some p = ap is_some (sym f) ∙ some_copied p in
      sym (exports ∙ ap (λ b. b || is_some (export_of name r.indirect_export_entries)) here ∙ there)

-- Lists.
module _ {A : Type 0} (test : A → Bool) where
  pub in_filter : (xs : List A) (x : A) → Contains (filter test xs) x → Contains xs x × (test x ≡ true)
  in_filter [] x h = absurd (none_in x h)
  in_filter (y ∷ xs) x h = by (λ n. let rest = in_filter xs x n in (Contains-append_right (y ∷ []) xs x rest.0, rest.1)) (test y) refl h
    where
      by : (Contains (filter test xs) x → Contains (y ∷ xs) x × (test x ≡ true)) → (b : Bool) → test y ≡ b → Contains (cond b (y ∷ filter test xs) (filter test xs)) x → Contains (y ∷ xs) x × (test x ≡ true)
      by behind true e h = elim (in_first y (filter test xs) x h) [
        | inl same ↦ (subst (Contains (y ∷ xs)) same (Contains-append_left (y ∷ []) xs y (Contains-push [] y)), ap test (sym same) ∙ e)
        | inr n ↦ behind n
      ]
      by behind false e h = behind h

  pub to_filter : (xs : List A) (x : A) → Contains xs x → test x ≡ true → Contains (filter test xs) x
  to_filter [] x h t = absurd (none_in x h)
  to_filter (y ∷ xs) x h t = by (λ n. to_filter xs x n t) (test y) refl
    where
      by : (Contains xs x → Contains (filter test xs) x) → (b : Bool) → test y ≡ b → Contains (cond b (y ∷ filter test xs) (filter test xs)) x
      by behind true e = elim (in_first y xs x h) [
        | inl same ↦ subst (Contains (y ∷ filter test xs)) same (Contains-append_left (y ∷ []) (filter test xs) y (Contains-push [] y))
        | inr n ↦ Contains-append_right (y ∷ []) (filter test xs) x (behind n)
      ]
      by behind false e = elim (in_first y xs x h) [
        | inl same ↦ absurd (true≢false (sym t ∙ ap test (sym same) ∙ e))
        | inr n ↦ behind n
      ]

module _ {A B : Type 0} (f : A → List B) where
  pub in_flat_map : (xs : List A) (b : B) → Contains (flat_map f xs) b → (x : A) × Contains xs x × Contains (f x) b
  in_flat_map [] b h = absurd (none_in b h)
  in_flat_map (y ∷ xs) b h = elim (Contains-append_cases (f y) (flat_map f xs) b h) [
    | inl n ↦ (y, Contains-append_left (y ∷ []) xs y (Contains-push [] y), n)
    | inr n ↦ let rest = in_flat_map xs b n in (rest.0, Contains-append_right (y ∷ []) xs rest.0 rest.1, rest.2)
  ]

  pub to_flat_map : (xs : List A) (x : A) (b : B) → Contains xs x → Contains (f x) b → Contains (flat_map f xs) b
  to_flat_map [] x b h k = absurd (none_in x h)
  to_flat_map (y ∷ xs) x b h k = elim (in_first y xs x h) [
    | inl same ↦ Contains-append_left (f y) (flat_map f xs) b (subst (λ (v : A). Contains (f v) b) (sym same) k)
    | inr n ↦ Contains-append_right (f y) (flat_map f xs) b (to_flat_map xs x b n k)
  ]

-- Star entries.
pub next_star : (g : List Module) (number : ℕ) (ks news : List ℕ) (done : ℕ) → AreFollowed (stars_at g) number ks done → done < length ks
    → ((x : ℕ) → slice_get ks done ≡ Some x → news ≡ insert_all nat_eq ks (stars_at g x)) → AreFollowed (stars_at g) number news (done + 1)
next_star g number ks news done f lt h =
    let x : ℕ = get_or ks done number in
    let at : slice_get ks done ≡ Some x = slice_get-get_or ks done number lt in
    subst (λ (v : List ℕ). AreFollowed (stars_at g) number v (done + 1)) (sym (h x at)) (next_followed (stars_at g) number nat_eq (λ a b. (Decides-eqb a b).0) ks done x f at)

pub all_stars : (g : List Module) (number : ℕ) (ks : List ℕ) (done : ℕ) → AreFollowed (stars_at g) number ks done → length ks ≤ done → AreStars g number ks
all_stars g number ks done f le = record { reached = λ other. (λ h. All-contains (Reaches (stars_at g) number) ks other f.reached h, λ r. all_followed (stars_at g) number ks done f le other r) }

-- names in order
pub sorted_names : (names perm sorted : List (List ℕ)) → IsPermutation names perm → IsSorted (slice_cmp nat_cmp) perm → sorted ≡ dedup bytes_eq perm → AreSorted names sorted
sorted_names names perm sorted p s e = record {
  ordered = subst (IsStrictlySortedBy (slice_cmp nat_cmp)) (sym e) (IsStrictlySortedBy-dedup nat_list_cmp_total texts_ties perm s);
  same = λ name. (
    λ h. Contains-permutation perm names name (IsPermutation-sym names perm p) (Contains-from_dedup bytes_eq perm name (subst (λ (v : List (List ℕ)). Contains v name) e h)),
    λ h. subst (λ (v : List (List ℕ)). Contains v name) (sym e) (Contains-dedup nat_list_eq_equiv (λ x y. (bytes_eq-Decides x y).0) perm name (Contains-permutation names perm name p h)),
  );
}

-- the module of a number
at_number : (g : List Module) (number : ℕ) (first : Module) → number < length g → first ≡ get_or g number first → slice_get g number ≡ Some first
at_number g number first lt at = slice_get-get_or g number first lt ∙ ap Some (sym at)

module _ (g : List Module) (number : ℕ) (first : Module) (lt : number < length g) (at : first ≡ get_or g number first) where
  here : names_of g number ≡ own_export_names first.module_record
  here = ap own_names (at_number g number first lt at)

  module _ (numbers : List ℕ) (stars : List (List ℕ)) (reached : AreStars g number numbers) (sorted : AreSorted (taken_from g first numbers) stars) where
    to : (name : List ℕ) → Contains stars name → IsStarName g number name
    to name h =
        let piece = in_flat_map (λ n. filter (is_taken first) (names_of g n)) numbers name ((sorted.same name).0 h) in
        let kept = in_filter (is_taken first) (names_of g piece.0) name piece.2 in
        record {
          other = piece.0;
          reached = (reached.reached piece.0).0 piece.1;
          exported = kept.0;
          taken = ap (λ v. is_new v name) here ∙ kept.1;
        }

    from : (name : List ℕ) → IsStarName g number name → Contains stars name
    from name h =
        (sorted.same name).1 (to_flat_map (λ n. filter (is_taken first) (names_of g n)) numbers h.other name ((reached.reached h.other).1 h.reached)
        (to_filter (is_taken first) (names_of g h.other) name h.exported (ap (λ v. is_new v name) (sym here) ∙ h.taken)))

    pub are_star_names : AreStarNames g number stars
    are_star_names = record { ordered = sorted.ordered; exact = λ name. (to name, from name) }

  -- all together
  pub are_exported : (own stars names : List (List ℕ)) → own ≡ own_export_names first.module_record → AreStarNames g number stars → names ≡ own ++ stars → AreExported g number names
  are_exported own stars names mine brought all = record { stars = stars; all = all ∙ ap (λ v. v ++ stars) (mine ∙ sym here); brought = brought }

-- the names of a record, the local ones before the indirect ones
pub taken_both : (test : List ℕ → Bool) (old mid new : List (List ℕ)) (r : ModuleRecord)
    → mid ≡ old ++ filter test (exported_by r.local_export_entries) → new ≡ mid ++ filter test (exported_by r.indirect_export_entries)
    → new ≡ old ++ filter test (own_export_names r)
taken_both test old mid new r e f =
    let here = filter test (exported_by r.local_export_entries) in
    let there = filter test (exported_by r.indirect_export_entries) in
    f ∙ ap (λ v. v ++ there) e ∙ append_assoc old here there
    ∙ ap (λ v. old ++ v) (sym (filter-append test (exported_by r.local_export_entries) (exported_by r.indirect_export_entries)) ∙ ap (filter test) (sym (own_export_names-is r)))

-- a number of no module
pub taken_none : (test : List ℕ → Bool) (old : List (List ℕ)) (g : List Module) (number : ℕ) → length g ≤ number → old ≡ old ++ filter test (names_of g number)
taken_none test old g number le = sym (ap (λ v. old ++ filter test (own_names v)) (slice_get_past g number le) ∙ append-nil old)
