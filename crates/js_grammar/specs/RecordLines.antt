-- What the program prints of a module record: one line for each member, each ended by LF.
use Rattle.std.specs.Prelude.{ℕ, Bool, List, ◌++◌, cond, codes, Option, Some, None}
use Rattle.std.specs.List.{flat_map}
use Rattle.js_base.specs.declared.span.Span.{Span}
use Rattle.js_grammar.specs.Lines.{span_text}
use Rattle.js_grammar.specs.ModuleRecords.{NameSpan, ImportImportName, imported, namespace_object, imported_default, ImportEntry, ExportImportName, taken, all, all_but_default, no_import, ExportExportName, exported, exported_default, no_export, ExportLocalName, local, local_default, no_local, ExportEntry, RequestedModule, DynamicImport, ModuleRecord}

abbrev pub name_text : NameSpan → List ℕ
name_text n = codes "name " ++ span_text n.span

abbrev pub default_text : Span → List ℕ
default_text s = codes "default " ++ span_text s

abbrev pub import_name_text : ImportImportName → List ℕ
import_name_text (imported n) = name_text n
import_name_text namespace_object = codes "namespace"
import_name_text (imported_default s) = default_text s

abbrev pub taken_name_text : ExportImportName → List ℕ
taken_name_text (taken n) = name_text n
taken_name_text all = codes "all"
taken_name_text all_but_default = codes "all-but-default"
taken_name_text no_import = codes "null"

abbrev pub export_name_text : ExportExportName → List ℕ
export_name_text (exported n) = name_text n
export_name_text (exported_default s) = default_text s
export_name_text no_export = codes "null"

abbrev pub local_name_text : ExportLocalName → List ℕ
local_name_text (local n) = name_text n
local_name_text (local_default n) = default_text n.span
local_name_text no_local = codes "null"

abbrev pub request_text : Option NameSpan → List ℕ
request_text None = codes "null"
request_text (Some n) = span_text n.span

abbrev pub syntax_line : Bool → List ℕ
syntax_line b = codes "syntax " ++ (cond b (codes "yes") (codes "no") ++ codes "\n")

-- `request`, the specifier, the statement, and the word of the statement
abbrev pub request_line : RequestedModule → List ℕ
request_line r = codes "request " ++ (span_text r.span ++ (codes " " ++ (span_text r.statement_span ++ (codes " " ++ (cond r.is_import (codes "import") (codes "export") ++ codes "\n")))))

abbrev pub binding_line : List ℕ × Span → List ℕ
binding_line e = codes "exported " ++ (span_text e.1 ++ codes "\n")

abbrev pub import_line : ImportEntry → List ℕ
import_line e = codes "import " ++ (span_text e.statement_span ++ (codes " request " ++ (span_text e.module_request.span ++ (codes " " ++ (import_name_text e.import_name ++ (codes " local " ++ (span_text e.local_name.span ++ codes "\n")))))))

-- the names of an export entry, to the end of its line
abbrev pub export_names : ExportEntry → List ℕ
export_names e = codes " import " ++ (taken_name_text e.import_name ++ (codes " export " ++ (export_name_text e.export_name ++ (codes " local " ++ (local_name_text e.local_name ++ codes "\n")))))

-- the word for the list, and then an entry of it
abbrev pub export_line : List ℕ → ExportEntry → List ℕ
export_line word e = word ++ (codes " " ++ (span_text e.statement_span ++ (codes " " ++ (span_text e.span ++ (codes " request " ++ (request_text e.module_request ++ export_names e))))))

abbrev pub dynamic_line : DynamicImport → List ℕ
dynamic_line d = codes "dynamic " ++ (span_text d.span ++ (codes " request " ++ (span_text d.module_request ++ codes "\n")))

abbrev pub meta_line : Span → List ℕ
meta_line s = codes "meta " ++ (span_text s ++ codes "\n")

abbrev pub record_text : ModuleRecord → List ℕ
record_text r = syntax_line r.has_module_syntax
    ++ (flat_map (λ e. flat_map request_line e.1) r.requested_modules
    ++ (flat_map binding_line r.exported_bindings
    ++ (flat_map import_line r.import_entries
    ++ (flat_map (export_line (codes "local")) r.local_export_entries
    ++ (flat_map (export_line (codes "indirect")) r.indirect_export_entries
    ++ (flat_map (export_line (codes "star")) r.star_export_entries
    ++ (flat_map dynamic_line r.dynamic_imports
    ++ flat_map meta_line r.import_metas)))))))
