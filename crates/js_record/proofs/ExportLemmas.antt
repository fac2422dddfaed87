-- The record of a part, put together of its members.
use Rattle.std.proofs.Common.{◌≡◌, List, [], ◌∷◌, ◌++◌, map, sym, ap, ◌∙◌}
use Rattle.std.proofs.lemmas.Grind.{flat_map-append}
use Rattle.std.proofs.lemmas.List.{append-nil}
use Rattle.std.specs.Prelude.{ℕ, fold}
use Rattle.std.specs.List.{flat_map}
use Rattle.js_base.specs.declared.span.Span.{Span}
use Rattle.js_grammar.specs.ModuleRecords.{ImportEntry, DynamicImport, RequestedModule, Part, place, if_star, with_request, with_binding, replaced, duplicate_export, duplicate_defaults, defaults_among, record_of_part, errors_of_part}
use Rattle.js_record.specs.declared.record.Exports.{Exports}
use Rattle.js_record.specs.Exports.{IsMadeOf, made, locals, indirects}

-- what members give, and one member more
pub one_more : {X A : Type 0} (f : X → List A) (xs : List X) (x : X) (old new : List A) → old ≡ flat_map f xs → new ≡ old ++ f x → new ≡ flat_map f (xs ++ x ∷ [])
one_more f xs x old new h n = n ∙ ap (λ v. v ++ f x) h ∙ ap (λ v. flat_map f xs ++ v) (sym (append-nil (f x))) ∙ sym (flat_map-append f xs (x ∷ []))

pub errors_right : (p : Part) (imports : List ImportEntry) (e : Exports) → imports ≡ p.imports → IsMadeOf e imports p.exports p.bindings p.skipped_defaults → e.errors ≡ errors_of_part p
errors_right p imports e i m =
    m.errors_are ∙ ap (λ v. map (duplicate_export (fold with_binding [] p.bindings)) (replaced [] p.bindings) ++ duplicate_defaults (defaults_among (locals v p.exports) ++ (defaults_among (indirects v p.exports) ++ p.skipped_defaults))) i

pub made_right : (p : Part) (imports : List ImportEntry) (modules : List (List ℕ × List RequestedModule)) (metas : List Span) (dynamic : List DynamicImport) (e : Exports)
    → imports ≡ p.imports → IsMadeOf e imports p.exports p.bindings p.skipped_defaults → modules ≡ fold with_request [] p.requests → metas ≡ p.metas → dynamic ≡ p.dynamic
    → made p.is_module_syntax imports modules metas dynamic e ≡ (record_of_part p, errors_of_part p)
made_right p imports modules metas dynamic e i m r q d =
    let local : e.places.local ≡ locals p.imports p.exports = m.local ∙ ap (λ v. locals v p.exports) i in
    let indirect : e.places.indirect ≡ indirects p.imports p.exports = m.indirect ∙ ap (λ v. indirects v p.exports) i in
    let star : e.places.star ≡ flat_map (λ ee. if_star (place p.imports ee)) p.exports = m.star ∙ ap (λ v. flat_map (λ ee. if_star (place v ee)) p.exports) i in
    let errors = errors_right p imports e i m in
    λ j. (
      record {
        has_module_syntax = p.is_module_syntax;
        requested_modules = r j;
        import_entries = i j;
        local_export_entries = local j;
        indirect_export_entries = indirect j;
        star_export_entries = star j;
        exported_bindings = m.bindings_are j;
        import_metas = q j;
        dynamic_imports = d j;
      },
      errors j,
    )
