-- The places of names among the entries that export them, as a loop over the entries finds them.
use Rattle.std.proofs.Common.{◌≡◌, ℕ, suc, ◌+◌, ◌<◌, Bool, true, false, cond, ◌||◌, List, [], ◌∷◌, ◌++◌, length, take, get_or, slice_get, Option, Some, None, is_some, refl, sym, ap, ◌∙◌, true≢false, arith}
use Rattle.std.specs.Prelude.{bytes_eq, String}
use Rattle.std.specs.declared.alloc.Global.{Global}
use Rattle.std.specs.List.{find, list_any}
use Rattle.std.specs.Option.{option_or, option_map, option_and_then}
use Rattle.std.proofs.lemmas.List.{take_more, length-take-le}
use Rattle.std.proofs.lemmas.Slice.Eq.{bytes_eq-Decides}
use Rattle.js_grammar.specs.ModuleRecords.{ExportEntry, asked_names}
use Rattle.js_graph.specs.Leads.{is_export_of, export_of}
use Rattle.js_graph.specs.Places.{ArePlaces, place_in, place_of}

module _ {X : Type 0} (test : X → Bool) where
  -- what stands at the place is what is found
  pub find_at_place : (xs : List X) → option_and_then (slice_get xs) (place_in test xs) ≡ find test xs
  find_at_place [] = refl
  find_at_place (x ∷ xs) = by (test x) (place_in test xs) (find_at_place xs)
    where
      by : (b : Bool) (o : Option ℕ) → option_and_then (slice_get xs) o ≡ find test xs → option_and_then (slice_get (x ∷ xs)) (cond b (Some 0) (option_map suc o)) ≡ cond b (Some x) (find test xs)
      by true o h = refl
      by false None h = h
      by false (Some k) h = h

  place_in-append : (xs : List X) (y : X) → place_in test (xs ++ y ∷ []) ≡ option_or (place_in test xs) (cond (test y) (Some (length xs)) None)
  place_in-append [] y = refl
  place_in-append (x ∷ xs) y = ap (λ v. cond (test x) (Some 0) (option_map suc v)) (place_in-append xs y) ∙ by (test x) (place_in test xs) (test y)
    where
      by : (b : Bool) (o : Option ℕ) (c : Bool) → cond b (Some 0) (option_map suc (option_or o (cond c (Some (length xs)) None))) ≡ option_or (cond b (Some 0) (option_map suc o)) (cond c (Some (suc (length xs))) None)
      by true o c = refl
      by false (Some k) c = refl
      by false None true = refl
      by false None false = refl

abbrev Places : Type 0
Places = List (String Global × ℕ)

-- what stands at a place that is kept is the export
pub found_at : (places : Places) (entries : List ExportEntry) (name : List ℕ) (o : Option ℕ) → ArePlaces places entries → o ≡ place_of places name → option_and_then (slice_get entries) o ≡ export_of name entries
found_at places entries name o f e = ap (option_and_then (slice_get entries)) (e ∙ f.first name) ∙ find_at_place (is_export_of name) entries

module _ (old : Places) (entries : List ExportEntry) (i : ℕ) (e : ExportEntry) (lt : i < length entries) (at : e ≡ get_or entries i e) (f : ArePlaces old (take i entries)) where
  -- of the entries before and one more, the first of a name
  behind : (name : List ℕ) → place_in (is_export_of name) (take (i + 1) entries) ≡ option_or (place_of old name) (cond (is_export_of name e) (Some i) None)
  behind name =
      ap (place_in (is_export_of name)) (take_more entries i e lt ∙ ap (λ v. take i entries ++ v ∷ []) (sym at))
      ∙ place_in-append (is_export_of name) (take i entries) e
      ∙ ap (λ v. option_or (place_in (is_export_of name) (take i entries)) (cond (is_export_of name e) (Some v) None)) (length-take-le i entries (omega arith))
      ∙ ap (λ v. option_or v (cond (is_export_of name e) (Some i) None)) (sym (f.first name))

  asks : (name : List ℕ) (names : List (List ℕ)) → asked_names e.export_name ≡ names → is_export_of name e ≡ list_any (bytes_eq name) names
  asks name names h = ap (list_any (bytes_eq name)) h

  -- the entry exports no name
  pub place_none : asked_names e.export_name ≡ [] → ArePlaces old (take (i + 1) entries)
  place_none h = record { first = λ name. sym (behind name ∙ ap (λ b. option_or (place_of old name) (cond b (Some i) None)) (asks name [] h) ∙ or_none (place_of old name)) }
    where
      or_none : (o : Option ℕ) → option_or o None ≡ o
      or_none None = refl
      or_none (Some k) = refl

  module _ (asked : List ℕ) (h : asked_names e.export_name ≡ asked ∷ []) where
    told : (name : List ℕ) → place_in (is_export_of name) (take (i + 1) entries) ≡ option_or (place_of old name) (cond (bytes_eq name asked || false) (Some i) None)
    told name = behind name ∙ ap (λ b. option_or (place_of old name) (cond b (Some i) None)) (asks name (asked ∷ []) h)

    -- its name has a place
    pub place_kept : is_some (place_of old asked) ≡ true → ArePlaces old (take (i + 1) entries)
    place_kept there = record { first = λ name. sym (told name ∙ by name (place_of old name) (bytes_eq name asked) refl refl) }
      where
        by : (name : List ℕ) (o : Option ℕ) (b : Bool) → place_of old name ≡ o → bytes_eq name asked ≡ b → option_or o (cond (b || false) (Some i) None) ≡ o
        by name (Some k) b p q = refl
        by name None false p q = refl
        by name None true p q = absurd (true≢false (sym there ∙ ap (λ n. is_some (place_of old n)) (sym ((bytes_eq-Decides name asked).0 q)) ∙ ap is_some p))

    -- it has none, and is given this one
    pub place_added : (news : Places) → is_some (place_of old asked) ≡ false → ((name : List ℕ) → place_of news name ≡ cond (bytes_eq asked name) (Some i) (place_of old name)) → ArePlaces news (take (i + 1) entries)
    place_added news none put = record { first = λ name. put name ∙ by name (place_of old name) (bytes_eq asked name) (bytes_eq name asked) refl refl refl ∙ sym (told name) }
      where
        by : (name : List ℕ) (o : Option ℕ) (c b : Bool) → place_of old name ≡ o → bytes_eq asked name ≡ c → bytes_eq name asked ≡ b → cond c (Some i) o ≡ option_or o (cond (b || false) (Some i) None)
        by name o true false p q r = absurd (true≢false (sym ((bytes_eq-Decides name asked).1 (sym ((bytes_eq-Decides asked name).0 q))) ∙ r))
        by name o false true p q r = absurd (true≢false (sym ((bytes_eq-Decides asked name).1 (sym ((bytes_eq-Decides name asked).0 r))) ∙ q))
        by name None true true p q r = refl
        by name (Some k) true true p q r = absurd (true≢false (sym (ap is_some p) ∙ ap (λ n. is_some (place_of old n)) ((bytes_eq-Decides name asked).0 r) ∙ none))
        by name None false false p q r = refl
        by name (Some k) false false p q r = refl
