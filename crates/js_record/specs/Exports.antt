-- The exports of a module, told apart.
use Rattle.std.specs.Prelude.{◌≡◌, ℕ, Bool, List, [], ◌++◌, fold, map}
use Rattle.std.specs.List.{flat_map}
use Rattle.js_base.specs.declared.span.Span.{Span}
use Rattle.js_base.specs.declared.diagnostic.Diagnostic.{Diagnostic}
use Rattle.js_grammar.specs.ModuleRecords.{NameSpan, ImportEntry, ExportEntry, DynamicImport, RequestedModule, ModuleRecord, place, if_local, if_indirect, if_star, with_binding, replaced, duplicate_export, duplicate_defaults, defaults_among}
use Rattle.js_record.specs.declared.record.Exports.{Exports}

abbrev pub locals : List ImportEntry → List ExportEntry → List ExportEntry
locals imports es = flat_map (λ ee. if_local (place imports ee)) es

abbrev pub indirects : List ImportEntry → List ExportEntry → List ExportEntry
indirects imports es = flat_map (λ ee. if_indirect (place imports ee)) es

-- they are those of these entries, bindings and places of `default` without an entry
pub record IsMadeOf (e : Exports) (imports : List ImportEntry) (exports : List ExportEntry) (bindings : List NameSpan) (skipped : List Span) : Type 0 where
  pub local : e.places.local ≡ locals imports exports
  pub indirect : e.places.indirect ≡ indirects imports exports
  pub star : e.places.star ≡ flat_map (λ ee. if_star (place imports ee)) exports
  pub bindings_are : e.bindings.entries ≡ fold with_binding [] bindings
  pub errors_are : e.errors ≡ map (duplicate_export (fold with_binding [] bindings)) (replaced [] bindings) ++ duplicate_defaults (defaults_among (locals imports exports) ++ (defaults_among (indirects imports exports) ++ skipped))

-- a record of these members, and its early errors
abbrev pub made : Bool → List ImportEntry → List (List ℕ × List RequestedModule) → List Span → List DynamicImport → Exports → ModuleRecord × List Diagnostic
made has_module_syntax imports modules metas dynamic e = (
  record {
    has_module_syntax = has_module_syntax;
    requested_modules = modules;
    import_entries = imports;
    local_export_entries = e.places.local;
    indirect_export_entries = e.places.indirect;
    star_export_entries = e.places.star;
    exported_bindings = e.bindings.entries;
    import_metas = metas;
    dynamic_imports = dynamic;
  },
  e.errors,
)
