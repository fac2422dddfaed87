-- Module records (ECMA-262, 16.2.1.7), and what ParseModule makes of the entries of a module (16.2.1.7.1). Spans are byte places.
use Rattle.std.specs.Prelude.{ℕ, Bool, false, ◌||◌, bytes_eq, codes, List, [], ◌∷◌, ◌++◌, Option, Some, None, cond, map, fold}
use Rattle.std.specs.List.{find, flat_map}
use Rattle.std.specs.Map.{lookup}
use Rattle.js_base.specs.declared.diagnostic.Diagnostic.{Diagnostic}
use Rattle.js_base.specs.declared.diagnostic.DiagnosticKind.TheVariants.{DuplicateExport, DuplicateDefaultExport}
use Rattle.js_base.specs.declared.span.Span.{Span}

-- a name or a module specifier, decoded, and where it stands
pub record NameSpan : Type 0 where
  pub name : List ℕ
  pub span : Span

-- [[ImportName]] of an ImportEntry Record; of a default import, where its specifier stands
pub data ImportImportName : Type 0 where
  imported : NameSpan → ImportImportName
  namespace_object : ImportImportName
  imported_default : Span → ImportImportName

-- ImportEntry Record: an import of a static import declaration
pub record ImportEntry : Type 0 where
  pub statement_span : Span
  pub module_request : NameSpan
  pub import_name : ImportImportName
  pub local_name : NameSpan

-- [[ImportName]], [[ExportName]], [[LocalName]] of an ExportEntry Record
pub data ExportImportName : Type 0 where
  taken : NameSpan → ExportImportName
  all all_but_default no_import : ExportImportName

pub data ExportExportName : Type 0 where
  exported : NameSpan → ExportExportName
  -- `export default`, and where the word `default` stands
  exported_default : Span → ExportExportName
  no_export : ExportExportName

pub data ExportLocalName : Type 0 where
  local : NameSpan → ExportLocalName
  -- the name that stands behind `export default`, an expression
  local_default : NameSpan → ExportLocalName
  no_local : ExportLocalName

-- ExportEntry Record: an export of a static export declaration
pub record ExportEntry : Type 0 where
  pub statement_span : Span
  pub span : Span
  pub module_request : Option NameSpan
  pub import_name : ExportImportName
  pub export_name : ExportExportName
  pub local_name : ExportLocalName

-- one occurrence of a module specifier, by `import` or by `export`
pub record RequestedModule : Type 0 where
  pub statement_span : Span
  pub span : Span
  pub is_import : Bool

-- `import()`, and where its specifier stands
pub record DynamicImport : Type 0 where
  pub span : Span
  pub module_request : Span

-- A Source Text Module Record, as far as the text alone tells it. The two maps are lists of pairs in the order in which the keys came.
pub record ModuleRecord : Type 0 where
  pub has_module_syntax : Bool
  pub requested_modules : List (List ℕ × List RequestedModule)
  pub import_entries : List ImportEntry
  pub local_export_entries : List ExportEntry
  pub indirect_export_entries : List ExportEntry
  pub star_export_entries : List ExportEntry
  pub exported_bindings : List (List ℕ × Span)
  pub import_metas : List Span
  pub dynamic_imports : List DynamicImport

-- a module specifier, and one occurrence of it
pub record Request : Type 0 where
  pub name : List ℕ
  pub occurrence : RequestedModule

-- What a declaration, an `import()` or an `import.meta` adds: whether it is syntax of modules alone, ImportEntries, ExportEntries and ModuleRequests (16.2.1.5, 16.2.2, 16.2.3), the names that it exports, and the places of `default` among exports without an entry.
pub record Part : Type 0 where
  pub is_module_syntax : Bool
  pub imports : List ImportEntry
  pub exports : List ExportEntry
  pub requests : List Request
  pub bindings : List NameSpan
  pub skipped_defaults : List Span
  pub metas : List Span
  pub dynamic : List DynamicImport

abbrev pub nothing : Part
nothing = record { is_module_syntax = false; imports = []; exports = []; requests = []; bindings = []; skipped_defaults = []; metas = []; dynamic = [] }

-- one part, and another behind it
abbrev pub joined : Part → Part → Part
joined p q = record {
  is_module_syntax = p.is_module_syntax || q.is_module_syntax;
  imports = p.imports ++ q.imports;
  exports = p.exports ++ q.exports;
  requests = p.requests ++ q.requests;
  bindings = p.bindings ++ q.bindings;
  skipped_defaults = p.skipped_defaults ++ q.skipped_defaults;
  metas = p.metas ++ q.metas;
  dynamic = p.dynamic ++ q.dynamic;
}

-- all parts, in their order
abbrev pub whole : List Part → Part
whole ps = fold joined nothing ps

-- ParseModule, step 10: for each export entry `ee`, by the import entries of the module.

-- where an entry is appended
pub data Placed : Type 0 where
  to_local to_indirect to_star : ExportEntry → Placed

-- ii.1: the first import entry whose [[LocalName]] is this name
abbrev pub import_entry_of : List ImportEntry → List ℕ → Option ImportEntry
import_entry_of imports name = find (λ ie. bytes_eq name ie.local_name.name) imports

-- ii.3.b: a re-export of a single name
abbrev pub re_export : ImportEntry → NameSpan → ExportEntry → ExportEntry
re_export ie name ee = record { statement_span = ie.statement_span; span = ee.span; module_request = Some ie.module_request; import_name = taken name; export_name = ee.export_name; local_name = no_local }

-- ii.2 and ii.3. Of a default import the name is the local one, where the standard has `default`.
abbrev pub place_imported : ExportEntry → ImportEntry → ImportImportName → Placed
place_imported ee ie namespace_object = to_local ee
place_imported ee ie (imported name) = to_indirect (re_export ie name ee)
place_imported ee ie (imported_default span) = to_indirect (re_export ie ie.local_name ee)

-- a.i: the local name isn't imported; a.ii: it is
abbrev pub place_own : ExportEntry → Option ImportEntry → Placed
place_own ee None = to_local ee
place_own ee (Some ie) = place_imported ee ie ie.import_name

abbrev pub imported_local : List ImportEntry → ExportLocalName → Option ImportEntry
imported_local imports (local name) = import_entry_of imports name.name
imported_local imports (local_default name) = None
imported_local imports no_local = None

-- b: `export *`; c: any other
abbrev pub place_requested : ExportEntry → ExportImportName → Placed
place_requested ee all_but_default = to_star ee
place_requested ee all = to_indirect ee
place_requested ee (taken name) = to_indirect ee
place_requested ee no_import = to_indirect ee

-- a: [[ModuleRequest]] is null
abbrev pub place_by : List ImportEntry → ExportEntry → Option NameSpan → Placed
place_by imports ee None = place_own ee (imported_local imports ee.local_name)
place_by imports ee (Some request) = place_requested ee ee.import_name

abbrev pub place : List ImportEntry → ExportEntry → Placed
place imports ee = place_by imports ee ee.module_request

abbrev pub if_local : Placed → List ExportEntry
if_local (to_local ee) = ee ∷ []
if_local (to_indirect ee) = []
if_local (to_star ee) = []

abbrev pub if_indirect : Placed → List ExportEntry
if_indirect (to_local ee) = []
if_indirect (to_indirect ee) = ee ∷ []
if_indirect (to_star ee) = []

abbrev pub if_star : Placed → List ExportEntry
if_star (to_local ee) = []
if_star (to_indirect ee) = []
if_star (to_star ee) = ee ∷ []

-- Requested modules: each specifier once, at its first occurrence, with all its occurrences.
abbrev pub with_request : List (List ℕ × List RequestedModule) → Request → List (List ℕ × List RequestedModule)
with_request [] r = (r.name, r.occurrence ∷ []) ∷ []
with_request (e ∷ es) r = cond (bytes_eq r.name e.0) ((e.0, e.1 ++ r.occurrence ∷ []) ∷ es) (e ∷ with_request es r)

-- Exported names: a name that is there keeps its place, and takes the new span.
abbrev pub with_binding : List (List ℕ × Span) → NameSpan → List (List ℕ × Span)
with_binding [] b = (b.name, b.span) ∷ []
with_binding (e ∷ es) b = cond (bytes_eq b.name e.0) ((e.0, b.span) ∷ es) (e ∷ with_binding es b)

-- where a name that is exported stands
abbrev pub span_of_binding : List (List ℕ × Span) → List ℕ → Option Span
span_of_binding es name = lookup (bytes_eq name) es

-- the record of all that the declarations of a module add
abbrev pub record_of_part : Part → ModuleRecord
record_of_part p = record {
  has_module_syntax = p.is_module_syntax;
  requested_modules = fold with_request [] p.requests;
  import_entries = p.imports;
  local_export_entries = flat_map (λ ee. if_local (place p.imports ee)) p.exports;
  indirect_export_entries = flat_map (λ ee. if_indirect (place p.imports ee)) p.exports;
  star_export_entries = flat_map (λ ee. if_star (place p.imports ee)) p.exports;
  exported_bindings = fold with_binding [] p.bindings;
  import_metas = p.metas;
  dynamic_imports = p.dynamic;
}

-- The early errors (16.2.1.1).

-- what a binding replaces among those before it
abbrev pub replaced_by : List (List ℕ × Span) → NameSpan → List NameSpan
replaced_by es b = elim (span_of_binding es b.name) [ None ↦ [] | Some s ↦ record { name = b.name; span = s } ∷ [] ]

-- the bindings that are replaced, in the order in which they are, where these stand before
abbrev pub replaced : List (List ℕ × Span) → List NameSpan → List NameSpan
replaced es [] = []
replaced es (b ∷ bs) = replaced_by es b ++ replaced (with_binding es b) bs

-- ExportedNames has a name twice: at a place that is replaced, with the last place of that name
abbrev pub duplicate_export : List (List ℕ × Span) → NameSpan → Diagnostic
duplicate_export es b = record { kind = DuplicateExport; span = b.span; first = span_of_binding es b.name; second = None }

-- the place of an export of `default`, by the word or by a name
abbrev pub default_places : ExportExportName → List Span
default_places (exported_default span) = span ∷ []
default_places (exported name) = cond (bytes_eq (codes "default") name.name) (name.span ∷ []) []
default_places no_export = []

abbrev pub defaults_among : List ExportEntry → List Span
defaults_among es = flat_map (λ ee. default_places ee.export_name) es

-- more than one: the first two
abbrev pub duplicate_defaults : List Span → List Diagnostic
duplicate_defaults [] = []
duplicate_defaults (a ∷ []) = []
duplicate_defaults (a ∷ b ∷ more) = record { kind = DuplicateDefaultExport; span = a; first = Some b; second = None } ∷ []

abbrev pub errors_of_part : Part → List Diagnostic
errors_of_part p =
    let r = record_of_part p in
    map (duplicate_export r.exported_bindings) (replaced [] p.bindings)
    ++ duplicate_defaults (defaults_among r.local_export_entries ++ (defaults_among r.indirect_export_entries ++ p.skipped_defaults))

-- the record and the early errors of parts, in their order
abbrev pub record_of_parts : List Part → ModuleRecord
record_of_parts ps = record_of_part (whole ps)

abbrev pub errors_of_parts : List Part → List Diagnostic
errors_of_parts ps = errors_of_part (whole ps)

-- The names by which other modules ask for the local and indirect exports.
abbrev pub asked_names : ExportExportName → List (List ℕ)
asked_names (exported name) = name.name ∷ []
asked_names (exported_default span) = codes "default" ∷ []
asked_names no_export = []

abbrev pub own_export_names : ModuleRecord → List (List ℕ)
own_export_names r = flat_map (λ ee. asked_names ee.export_name) (r.local_export_entries ++ r.indirect_export_entries)
