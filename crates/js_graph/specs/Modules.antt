-- Modules whose specifiers mean modules: what HostLoadImportedModule (ECMA-262, 16.2.1.10) has answered, as a table.
use Rattle.std.specs.Prelude.{ℕ, zero, suc, Bool, true, bytes_eq, List, [], ◌∷◌, Option, Some, None, if◌then◌else◌, ◌&&◌, is_some}
use Rattle.std.specs.List.{list_all}
use Rattle.std.specs.Map.{lookup}
use Rattle.js_grammar.specs.ModuleRecords.{ModuleRecord, NameSpan, ExportEntry}

-- A module of a graph: its record, and the number of the module that each of its specifiers means. A graph is the list of its modules, each of which is known by its number in the list.
pub record Module : Type 0 where
  pub module_record : ModuleRecord
  pub targets : List (List ℕ × ℕ)

-- a module whose specifiers mean nothing yet
abbrev pub unlinked : ModuleRecord → Module
unlinked r = record { module_record = r; targets = [] }

-- the module that a specifier means
abbrev pub target_of : Module → List ℕ → Option ℕ
target_of m request = lookup (bytes_eq request) m.targets

-- the module that an entry asks: that which its request means, where it has one
abbrev pub target_by : Module → Option NameSpan → Option ℕ
target_by m None = None
target_by m (Some request) = target_of m request.name

-- the table in which the specifier means this module, in place of what it meant
abbrev pub with_target : List (List ℕ × ℕ) → List ℕ → ℕ → List (List ℕ × ℕ)
with_target [] request target = (request, target) ∷ []
with_target (t ∷ ts) request target = if bytes_eq request t.0 then (t.0, target) ∷ ts else t ∷ with_target ts request target

abbrev pub linked : Module → List ℕ → ℕ → Module
linked m request target = record { module_record = m.module_record; targets = with_target m.targets request target }

-- the request of an entry, if it has one, means a module
abbrev pub is_aimed : Module → ExportEntry → Bool
is_aimed m ee = is_aimed_by ee.module_request
  where
    is_aimed_by : Option NameSpan → Bool
    is_aimed_by None = true
    is_aimed_by (Some request) = is_some (target_of m request.name)

-- each request of an indirect or a star entry means a module
abbrev pub is_linked : Module → Bool
is_linked m = list_all (is_aimed m) m.module_record.indirect_export_entries && list_all (is_aimed m) m.module_record.star_export_entries

-- and so in every module
abbrev pub are_linked : List Module → Bool
are_linked g = list_all is_linked g

-- the graph in which a specifier of the module of this number means that target
abbrev pub with_link : List Module → ℕ → List ℕ → ℕ → List Module
with_link [] number request target = []
with_link (m ∷ ms) zero request target = linked m request target ∷ ms
with_link (m ∷ ms) (suc number) request target = m ∷ with_link ms number request target
