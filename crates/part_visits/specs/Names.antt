-- The names of entries as those of the definitions.
use Rattle.js_grammar.specs.ModuleRecords as def
use Rattle.part_visits.specs.declared.name.ImportImportName.{ImportImportName}
use Rattle.part_visits.specs.declared.name.ImportImportName.TheVariants as imports
use Rattle.part_visits.specs.declared.name.ExportImportName.{ExportImportName}
use Rattle.part_visits.specs.declared.name.ExportImportName.TheVariants as takes
use Rattle.part_visits.specs.declared.name.ExportExportName.{ExportExportName}
use Rattle.part_visits.specs.declared.name.ExportExportName.TheVariants as exports
use Rattle.part_visits.specs.declared.name.ExportLocalName.{ExportLocalName}
use Rattle.part_visits.specs.declared.name.ExportLocalName.TheVariants as locals

abbrev pub import_name_of : ImportImportName → def.ImportImportName
import_name_of (imports.Name n) = def.imported n
import_name_of imports.NamespaceObject = def.namespace_object
import_name_of (imports.Default s) = def.imported_default s

abbrev pub taken_name_of : ExportImportName → def.ExportImportName
taken_name_of (takes.Name n) = def.taken n
taken_name_of takes.All = def.all
taken_name_of takes.AllButDefault = def.all_but_default
taken_name_of takes.Null = def.no_import

abbrev pub export_name_of : ExportExportName → def.ExportExportName
export_name_of (exports.Name n) = def.exported n
export_name_of (exports.Default s) = def.exported_default s
export_name_of exports.Null = def.no_export

abbrev pub local_name_of : ExportLocalName → def.ExportLocalName
local_name_of (locals.Name n) = def.local n
local_name_of (locals.Default n) = def.local_default n
local_name_of locals.Null = def.no_local
