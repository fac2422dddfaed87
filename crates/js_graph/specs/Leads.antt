-- Where a name that a module is asked for leads (ECMA-262, 16.2.1.7.2.2, steps 4 to 9): to a binding, or on to names of other modules.
use Rattle.std.specs.Prelude.{ℕ, Bool, true, false, ◌==◌, ◌&&◌, bytes_eq, codes, List, [], ◌∷◌, Option, Some, None, if◌then◌else◌, slice_get}
use Rattle.std.specs.List.{find, flat_map, list_any}
use Rattle.js_base.specs.declared.span.Span.{Span}
use Rattle.js_grammar.specs.ModuleRecords.{ModuleRecord, NameSpan, ImportEntry, ImportImportName, imported, namespace_object, imported_default, ExportEntry, ExportImportName, taken, all, all_but_default, no_import, ExportLocalName, local, local_default, no_local, asked_names}
use Rattle.js_graph.specs.declared.resolution.Binding.{Binding}
use Rattle.js_graph.specs.declared.resolution.BindingName.{BindingName}
use Rattle.js_graph.specs.declared.resolution.BindingName.TheVariants as named
use Rattle.js_graph.specs.Modules.{Module, target_by}

-- A name that a module is asked for: the module's number, and the name.
abbrev pub Pair : Type 0
Pair = ℕ × List ℕ

-- where a pair leads: to a binding, or on to these pairs
pub data Lead : Type 0 where
  to_binding : Binding → Lead
  to_pairs : List Pair → Lead

abbrev pub pairs_of : Lead → List Pair
pairs_of (to_binding b) = []
pairs_of (to_pairs ps) = ps

abbrev pub bindings_of : Lead → List Binding
bindings_of (to_binding b) = b ∷ []
bindings_of (to_pairs ps) = []

-- the entry that exports this name; there is one at the most, where no name is exported twice
abbrev pub is_export_of : List ℕ → ExportEntry → Bool
is_export_of name ee = list_any (bytes_eq name) (asked_names ee.export_name)

abbrev pub export_of : List ℕ → List ExportEntry → Option ExportEntry
export_of name es = find (is_export_of name) es

-- A local entry: the binding of its local name, or what `export default` exports.
abbrev pub binding_name : ExportLocalName → BindingName
binding_name (local name) = named.Name name.name
binding_name (local_default name) = named.Default
binding_name no_local = named.Default

-- An indirect entry. For `import d from 'm'; export { d }` the record has the name `d` at its place in the import, where ECMA-262 has `default`: that import entry is a default one whose local name stands at this place.
abbrev pub is_default : ImportImportName → Bool
is_default (imported name) = false
is_default namespace_object = false
is_default (imported_default span) = true

abbrev pub is_default_at : Span → ImportEntry → Bool
is_default_at place ie = is_default ie.import_name && (place.start == ie.local_name.span.start && place.end == ie.local_name.span.end)

-- the name that an indirect entry with this import name asks of its target
abbrev pub import_of : ModuleRecord → NameSpan → List ℕ
import_of r name = if list_any (is_default_at name.span) r.import_entries then codes "default" else name.name

abbrev pub through : Module → Option ℕ → ExportImportName → Lead
through m None name = to_pairs []
through m (Some target) (taken name) = to_pairs ((target, import_of m.module_record name) ∷ [])
through m (Some target) all = to_binding (record { «module» = target; name = named.Namespace })
through m (Some target) all_but_default = to_pairs []
through m (Some target) no_import = to_pairs []

-- A star entry asks its target for the same name.
abbrev pub asked_of : List ℕ → Option ℕ → List Pair
asked_of name None = []
asked_of name (Some target) = (target, name) ∷ []

abbrev pub by_star : Module → List ℕ → ExportEntry → List Pair
by_star m name ee = asked_of name (target_by m ee.module_request)

-- no star entry gives `default`
abbrev pub by_stars : Module → List ℕ → Lead
by_stars m name = if bytes_eq name (codes "default") then to_pairs [] else to_pairs (flat_map (by_star m name) m.module_record.star_export_entries)

abbrev pub by_indirect : Module → List ℕ → Option ExportEntry → Lead
by_indirect m name (Some ee) = through m (target_by m ee.module_request) ee.import_name
by_indirect m name None = by_stars m name

abbrev pub by_local : ℕ → Module → List ℕ → Option ExportEntry → Lead
by_local number m name (Some ee) = to_binding (record { «module» = number; name = binding_name ee.local_name })
by_local number m name None = by_indirect m name (export_of name m.module_record.indirect_export_entries)

-- where the module of this number leads, asked for this name
abbrev pub lead_in : ℕ → Module → List ℕ → Lead
lead_in number m name = by_local number m name (export_of name m.module_record.local_export_entries)

abbrev pub lead_at : ℕ → List ℕ → Option Module → Lead
lead_at number name None = to_pairs []
lead_at number name (Some m) = lead_in number m name

-- where a pair leads in a graph
abbrev pub lead_of : List Module → Pair → Lead
lead_of g p = lead_at p.0 p.1 (slice_get g p.0)

abbrev pub next_of : List Module → Pair → List Pair
next_of g p = pairs_of (lead_of g p)
