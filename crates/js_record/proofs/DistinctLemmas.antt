-- Names that stand twice.
use Rattle.std.proofs.Common.{◌≡◌, ℕ, Bool, true, false, ◌&&◌, ◌||◌, not, List, [], ◌∷◌, ◌++◌, refl, sym, ap, ◌∙◌, true≢false, ◌↔◌}
use Rattle.std.specs.Prelude.{bytes_eq, IsTrue}
use Rattle.std.specs.List.{flat_map, list_any, IsDistinct, AllByRecursion}
use Rattle.std.proofs.lemmas.List.Folds.{list_any-append}
use Rattle.std.proofs.lemmas.Grind.{flat_map-append}
use Rattle.js_grammar.specs.ModuleRecords.{ExportEntry, asked_names}
use Rattle.js_record.specs.Distinct.{names_of, no_two, none_shared}

-- two lists put together
pub no_two-append : (xs ys : List (List ℕ)) → no_two (xs ++ ys) ≡ (no_two xs && (no_two ys && none_shared xs ys))
no_two-append [] ys = and_true (no_two ys)
  where
    and_true : (b : Bool) → b ≡ (b && true)
    and_true true = refl
    and_true false = refl
no_two-append (x ∷ xs) ys =
    ap (λ b. not b && no_two (xs ++ ys)) (list_any-append (bytes_eq x) xs ys)
    ∙ ap (λ b. not (list_any (bytes_eq x) xs || list_any (bytes_eq x) ys) && b) (no_two-append xs ys)
    ∙ turned (list_any (bytes_eq x) xs) (list_any (bytes_eq x) ys) (no_two xs) (no_two ys) (none_shared xs ys)
  where
    turned : (a b p q r : Bool) → (not (a || b) && (p && (q && r))) ≡ ((not a && p) && (q && (not b && r)))
    turned true b p q r = refl
    turned false false p q r = refl
    turned false true false q r = refl
    turned false true true false r = refl
    turned false true true true r = refl

each_differs : (x : List ℕ) (xs : List (List ℕ)) → list_any (bytes_eq x) xs ≡ false → AllByRecursion (λ y. bytes_eq x y ≡ false) xs
each_differs x [] h = tt
each_differs x (y ∷ ys) h = (first (bytes_eq x y) h, each_differs x ys (second (bytes_eq x y) h))
  where
    first : (b : Bool) → (b || list_any (bytes_eq x) ys) ≡ false → b ≡ false
    first true e = absurd (true≢false e)
    first false e = refl

    second : (b : Bool) → (b || list_any (bytes_eq x) ys) ≡ false → list_any (bytes_eq x) ys ≡ false
    second true e = absurd (true≢false e)
    second false e = e

none_equal : (x : List ℕ) (xs : List (List ℕ)) → AllByRecursion (λ y. bytes_eq x y ≡ false) xs → list_any (bytes_eq x) xs ≡ false
none_equal x [] h = refl
none_equal x (y ∷ ys) h = ap (λ b. b || list_any (bytes_eq x) ys) h.0 ∙ none_equal x ys h.1

pub IsDistinct-from_no_two : (xs : List (List ℕ)) → no_two xs ≡ true → IsDistinct bytes_eq xs
unfolding IsDistinct
IsDistinct-from_no_two [] h = tt
IsDistinct-from_no_two (x ∷ xs) h = (each_differs x xs (first (list_any (bytes_eq x) xs) h), IsDistinct-from_no_two xs (second (list_any (bytes_eq x) xs) h))
  where
    first : (b : Bool) → (not b && no_two xs) ≡ true → b ≡ false
    first true e = absurd (true≢false (sym e))
    first false e = refl

    second : (b : Bool) → (not b && no_two xs) ≡ true → no_two xs ≡ true
    second true e = absurd (true≢false (sym e))
    second false e = e

pub no_two-from_IsDistinct : (xs : List (List ℕ)) → IsDistinct bytes_eq xs → no_two xs ≡ true
unfolding IsDistinct
no_two-from_IsDistinct [] h = refl
no_two-from_IsDistinct (x ∷ xs) h = ap (λ b. not b && no_two xs) (none_equal x xs h.0) ∙ no_two-from_IsDistinct xs h.1

-- the names of both lists
pub own_distinct : (es fs : List ExportEntry) → no_two (flat_map (λ ee. asked_names ee.export_name) (es ++ fs)) ≡ (no_two (names_of es) && (no_two (names_of fs) && none_shared (names_of es) (names_of fs)))
own_distinct es fs = ap no_two (flat_map-append (λ (ee : ExportEntry). asked_names ee.export_name) es fs) ∙ no_two-append (names_of es) (names_of fs)

-- an answer by the names of both lists
pub own_answer : (es fs : List ExportEntry) (r : Bool) → r ≡ (no_two (names_of es) && (no_two (names_of fs) && none_shared (names_of es) (names_of fs))) → IsTrue r ↔ IsDistinct bytes_eq (flat_map (λ ee. asked_names ee.export_name) (es ++ fs))
own_answer es fs r e =
    let whole = flat_map (λ (ee : ExportEntry). asked_names ee.export_name) (es ++ fs) in
    let same : r ≡ no_two whole = e ∙ sym (own_distinct es fs) in
    (λ h. IsDistinct-from_no_two whole (sym same ∙ h), λ h. same ∙ no_two-from_IsDistinct whole h)
