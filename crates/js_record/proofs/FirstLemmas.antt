-- The first import entry of each local name, as a loop over the entries finds it.
use Rattle.std.proofs.Common.{◌≡◌, ℕ, Bool, true, false, cond, List, [], ◌∷◌, ◌++◌, Option, Some, None, refl, sym, ap, ◌∙◌, subst, true≢false, is_some, slice_get, get_or, take, length, ◌<◌, ◌+◌}
use Rattle.std.specs.Prelude.{bytes_eq}
use Rattle.std.specs.Map.{lookup}
use Rattle.std.specs.Option.{option_or}
use Rattle.std.proofs.lemmas.List.{take_more}
use Rattle.std.proofs.lemmas.Option.{slice_get-get_or}
use Rattle.std.proofs.lemmas.List.Folds.{find-append}
use Rattle.std.proofs.lemmas.Slice.Eq.{bytes_eq-Decides}
use Rattle.js_grammar.specs.ModuleRecords.{ImportEntry, import_entry_of}
use Rattle.js_record.specs.Firsts.{AreFirst, entry_at}

abbrev Firsts : Type 0
Firsts = List (List ℕ × ℕ)

-- no entry is seen
pub none_first : (imports : List ImportEntry) → AreFirst [] imports []
none_first imports = record { entry = λ name. refl; there = λ name. refl }

module _ (firsts : Firsts) (imports seen : List ImportEntry) (e : ImportEntry) (f : AreFirst firsts imports seen) where
  abbrev Says : Firsts → List ℕ → Option ImportEntry → Type 0
  Says fs name o = (entry_at imports (lookup (bytes_eq name) fs) ≡ o) × (is_some (lookup (bytes_eq name) fs) ≡ is_some o)

  -- of the entries seen and one more, the first of a name
  abbrev last_of : List ℕ → Option ImportEntry
  last_of name = option_or (import_entry_of seen name) (cond (bytes_eq name e.local_name.name) (Some e) None)

  all_of : (name : List ℕ) → last_of name ≡ import_entry_of (seen ++ e ∷ []) name
  all_of name = sym (find-append (λ ie. bytes_eq name ie.local_name.name) seen (e ∷ []))

  first_of_all : (fs : Firsts) → ((name : List ℕ) → Says fs name (last_of name)) → AreFirst fs imports (seen ++ e ∷ [])
  first_of_all fs h = record { entry = λ name. (h name).0 ∙ all_of name; there = λ name. (h name).1 ∙ ap is_some (all_of name) }

  -- the name of the one more is there
  pub first_kept : is_some (lookup (bytes_eq e.local_name.name) firsts) ≡ true → AreFirst firsts imports (seen ++ e ∷ [])
  first_kept h = first_of_all firsts (λ name. by name (import_entry_of seen name) (bytes_eq name e.local_name.name) refl refl)
    where
      by : (name : List ℕ) (o : Option ImportEntry) (b : Bool) → import_entry_of seen name ≡ o → bytes_eq name e.local_name.name ≡ b → Says firsts name (option_or o (cond b (Some e) None))
      by name (Some x) b p q = (f.entry name ∙ p, f.there name ∙ ap is_some p)
      by name None false p q = (f.entry name ∙ p, f.there name ∙ ap is_some p)
      by name None true p q =
          let same : name ≡ e.local_name.name = (bytes_eq-Decides name e.local_name.name).0 q in
          absurd (true≢false (sym h ∙ ap (λ n. is_some (lookup (bytes_eq n) firsts)) (sym same) ∙ f.there name ∙ ap is_some p))

  -- it isn't there, and is put
  pub first_added : (news : Firsts) (i : ℕ) → lookup (bytes_eq e.local_name.name) firsts ≡ None → slice_get imports i ≡ Some e
      → ((name : List ℕ) → lookup (bytes_eq name) news ≡ cond (bytes_eq e.local_name.name name) (Some i) (lookup (bytes_eq name) firsts))
      → AreFirst news imports (seen ++ e ∷ [])
  first_added news i none at put = first_of_all news (λ name. by name (import_entry_of seen name) (bytes_eq e.local_name.name name) (bytes_eq name e.local_name.name) refl refl refl)
    where
      by : (name : List ℕ) (o : Option ImportEntry) (c b : Bool) → import_entry_of seen name ≡ o → bytes_eq e.local_name.name name ≡ c → bytes_eq name e.local_name.name ≡ b → Says news name (option_or o (cond b (Some e) None))
      by name o true false p q r = absurd (true≢false (sym ((bytes_eq-Decides name e.local_name.name).1 (sym ((bytes_eq-Decides e.local_name.name name).0 q))) ∙ r))
      by name o false true p q r = absurd (true≢false (sym ((bytes_eq-Decides e.local_name.name name).1 (sym ((bytes_eq-Decides name e.local_name.name).0 r))) ∙ q))
      by name (Some x) true true p q r =
          let same : name ≡ e.local_name.name = (bytes_eq-Decides name e.local_name.name).0 r in
          absurd (true≢false (sym (f.there name ∙ ap is_some p) ∙ ap (λ n. is_some (lookup (bytes_eq n) firsts)) same ∙ ap is_some none))
      by name None true true p q r =
          let new : lookup (bytes_eq name) news ≡ Some i = put name ∙ ap (λ v. cond v (Some i) (lookup (bytes_eq name) firsts)) q in
          (ap (entry_at imports) new ∙ at, ap is_some new)
      by name (Some x) false false p q r =
          let old : lookup (bytes_eq name) news ≡ lookup (bytes_eq name) firsts = put name ∙ ap (λ v. cond v (Some i) (lookup (bytes_eq name) firsts)) q in
          (ap (entry_at imports) old ∙ f.entry name ∙ p, ap is_some old ∙ f.there name ∙ ap is_some p)
      by name None false false p q r =
          let old : lookup (bytes_eq name) news ≡ lookup (bytes_eq name) firsts = put name ∙ ap (λ v. cond v (Some i) (lookup (bytes_eq name) firsts)) q in
          (ap (entry_at imports) old ∙ f.entry name ∙ p, ap is_some old ∙ f.there name ∙ ap is_some p)

module _ (firsts : Firsts) (imports : List ImportEntry) (i : ℕ) (e : ImportEntry) (k : List ℕ) (within : i < length imports) (at : e ≡ get_or imports i e) (is : k ≡ e.local_name.name)
    (f : AreFirst firsts imports (take i imports)) where
  more : take i imports ++ e ∷ [] ≡ take (i + 1) imports
  more = ap (λ v. take i imports ++ v ∷ []) at ∙ sym (take_more imports i e within)

  pub step_kept : is_some (lookup (bytes_eq k) firsts) ≡ true → AreFirst firsts imports (take (i + 1) imports)
  step_kept h = subst (AreFirst firsts imports) more (first_kept firsts imports (take i imports) e f (ap (λ n. is_some (lookup (bytes_eq n) firsts)) (sym is) ∙ h))

  pub step_added : (news : Firsts) → is_some (lookup (bytes_eq k) firsts) ≡ false → ((name : List ℕ) → lookup (bytes_eq name) news ≡ cond (bytes_eq k name) (Some i) (lookup (bytes_eq name) firsts))
      → AreFirst news imports (take (i + 1) imports)
  step_added news h put = subst (AreFirst news imports) more (first_added firsts imports (take i imports) e f news i
      (none_of _ (ap (λ n. is_some (lookup (bytes_eq n) firsts)) (sym is) ∙ h))
      (slice_get-get_or imports i e within ∙ ap Some (sym at))
      (λ name. put name ∙ ap (λ n. cond (bytes_eq n name) (Some i) (lookup (bytes_eq name) firsts)) is))
    where
      none_of : {A : Type 0} (o : Option A) → is_some o ≡ false → o ≡ None
      none_of None q = refl
      none_of (Some x) q = absurd (true≢false q)
