-- An index of a record: the place of each name among its exports, and the places at which default imports stand.
use Rattle.std.specs.Prelude.{ℕ, suc, ◌≡◌, Bool, ◌==◌, ◌&&◌, bytes_eq, string_bytes, String, List, [], ◌∷◌, Option, Some, None, if◌then◌else◌}
use Rattle.std.specs.declared.alloc.Global.{Global}
use Rattle.std.specs.List.{list_any}
use Rattle.std.specs.Map.{lookup}
use Rattle.std.specs.Option.{option_map}
use Rattle.js_base.specs.declared.span.Span.{Span}
use Rattle.js_grammar.specs.ModuleRecords.{ImportEntry, ExportEntry, ModuleRecord}
use Rattle.js_graph.specs.declared.places.Index.{Index}
use Rattle.js_graph.specs.Leads.{is_default_at, is_export_of}

-- the first place at which the test passes
abbrev pub place_in : {X : Type 0} → (X → Bool) → List X → Option ℕ
place_in test [] = None
place_in test (x ∷ xs) = if test x then Some 0 else option_map suc (place_in test xs)

abbrev pub place_of : List (String Global × ℕ) → List ℕ → Option ℕ
place_of places name = lookup (λ k. bytes_eq name (string_bytes k)) places

-- of each name, the place of the first of the entries that exports it
pub record ArePlaces (places : List (String Global × ℕ)) (entries : List ExportEntry) : Type 0 where
  pub first : (name : List ℕ) → place_of places name ≡ place_in (is_export_of name) entries

abbrev pub is_kept : List (ℕ × ℕ) → Span → Bool
is_kept keys place = list_any (λ k. place.start == k.0 && place.end == k.1) keys

-- where the local names of the default imports stand, and nowhere else
pub record AreDefaults (keys : List (ℕ × ℕ)) (imports : List ImportEntry) : Type 0 where
  pub kept : (place : Span) → is_kept keys place ≡ list_any (is_default_at place) imports

pub record IsIndexOf (index : Index) (r : ModuleRecord) : Type 0 where
  pub local : ArePlaces index.local.entries r.local_export_entries
  pub indirect : ArePlaces index.indirect.entries r.indirect_export_entries
  pub defaults : AreDefaults index.defaults.keys r.import_entries
