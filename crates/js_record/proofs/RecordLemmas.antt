-- The maps of a record as the definitions have them.
use Rattle.std.proofs.Common.{◌≡◌, ℕ, ◌+◌, ◌<◌, Bool, true, false, cond, List, [], ◌∷◌, ◌++◌, map, take, length, get_or, Some, None, refl, sym, ap, ◌∙◌, true≢false, is_some, unwrap_or, append_assoc}
use Rattle.std.specs.Prelude.{bytes_eq, fold}
use Rattle.std.specs.Map.{lookup, set_value}
use Rattle.std.proofs.lemmas.List.{take_more, map-append}
use Rattle.indexmap.specs.IndexMap.{insert_entry}
use Rattle.js_base.specs.declared.span.Span.{Span}
use Rattle.js_grammar.specs.ModuleRecords.{NameSpan, RequestedModule, Request, with_request, with_binding, replaced_by, replaced}

abbrev Modules : Type 0
Modules = List (List ℕ × List RequestedModule)

abbrev Bindings : Type 0
Bindings = List (List ℕ × Span)

pub none_is_some : {A : Type 0} {x : A} → None ≡ Some x → ⊥
none_is_some e = true≢false (sym (ap is_some e))

pub same_some : {A : Type 0} {x y : A} → Some x ≡ Some y → x ≡ y
same_some {A} {x} e = ap (λ r. unwrap_or r x) e

-- a specifier that is there: its occurrences with one more
pub request_there : (es : Modules) (r : Request) (old : List RequestedModule) → lookup (bytes_eq r.name) es ≡ Some old → set_value (bytes_eq r.name) es (old ++ r.occurrence ∷ []) ≡ with_request es r
request_there [] r old h = absurd (none_is_some h)
request_there (e ∷ es) r old h = by (bytes_eq r.name e.0) h (request_there es r old)
  where
    by : (b : Bool) → cond b (Some e.1) (lookup (bytes_eq r.name) es) ≡ Some old
        → (lookup (bytes_eq r.name) es ≡ Some old → set_value (bytes_eq r.name) es (old ++ r.occurrence ∷ []) ≡ with_request es r)
        → cond b ((e.0, old ++ r.occurrence ∷ []) ∷ es) (e ∷ set_value (bytes_eq r.name) es (old ++ r.occurrence ∷ [])) ≡ cond b ((e.0, e.1 ++ r.occurrence ∷ []) ∷ es) (e ∷ with_request es r)
    by true h rest = ap (λ v. (e.0, v ++ r.occurrence ∷ []) ∷ es) (sym (same_some h))
    by false h rest = ap (λ v. e ∷ v) (rest h)

-- one that isn't there
pub request_new : (es : Modules) (r : Request) → lookup (bytes_eq r.name) es ≡ None → insert_entry bytes_eq es r.name (r.occurrence ∷ []) ≡ with_request es r
request_new [] r h = refl
request_new (e ∷ es) r h = by (bytes_eq r.name e.0) h (request_new es r)
  where
    by : (b : Bool) → cond b (Some e.1) (lookup (bytes_eq r.name) es) ≡ None
        → (lookup (bytes_eq r.name) es ≡ None → insert_entry bytes_eq es r.name (r.occurrence ∷ []) ≡ with_request es r)
        → cond b ((e.0, r.occurrence ∷ []) ∷ es) (e ∷ insert_entry bytes_eq es r.name (r.occurrence ∷ [])) ≡ cond b ((e.0, e.1 ++ r.occurrence ∷ []) ∷ es) (e ∷ with_request es r)
    by true h rest = absurd (none_is_some (sym h))
    by false h rest = ap (λ v. e ∷ v) (rest h)

-- a name that is exported
pub binding_put : (es : Bindings) (b : NameSpan) → insert_entry bytes_eq es b.name b.span ≡ with_binding es b
binding_put [] b = refl
binding_put (e ∷ es) b = ap (λ v. cond (bytes_eq b.name e.0) ((e.0, b.span) ∷ es) (e ∷ v)) (binding_put es b)

-- one binding more
pub replaced_more : (es : Bindings) (bs : List NameSpan) (b : NameSpan) → replaced es (bs ++ b ∷ []) ≡ replaced es bs ++ replaced_by (fold with_binding es bs) b
replaced_more es [] b = append-nil (replaced_by es b)
  where
    append-nil : {A : Type 0} (xs : List A) → xs ++ [] ≡ xs
    append-nil [] = refl
    append-nil (x ∷ xs) = ap (λ v. x ∷ v) (append-nil xs)
replaced_more es (c ∷ bs) b =
    ap (λ v. replaced_by es c ++ v) (replaced_more (with_binding es c) bs b)
    ∙ sym (append_assoc (replaced_by es c) (replaced (with_binding es c) bs) (replaced_by (fold with_binding (with_binding es c) bs) b))

-- what members give, each one thing, and one member more
pub mapped_more : {X A : Type 0} (f : X → A) (xs : List X) (i : ℕ) (x : X) (old new : List A) → i < length xs → x ≡ get_or xs i x → old ≡ map f (take i xs) → new ≡ old ++ f x ∷ [] → new ≡ map f (take (i + 1) xs)
mapped_more f xs i x old new w at h n =
    let more : take (i + 1) xs ≡ take i xs ++ x ∷ [] = take_more xs i x w ∙ ap (λ v. take i xs ++ v ∷ []) (sym at) in
    n ∙ ap (λ v. v ++ f x ∷ []) h ∙ sym (map-append f (take i xs) (x ∷ [])) ∙ ap (map f) (sym more)
