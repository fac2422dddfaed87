-- The first import entry of each local name, as a map has it.
use Rattle.std.specs.Prelude.{ℕ, ◌≡◌, bytes_eq, List, Option, Some, None, is_some, slice_get}
use Rattle.std.specs.Map.{lookup}
use Rattle.js_grammar.specs.ModuleRecords.{ImportEntry, import_entry_of}

abbrev pub entry_at : List ImportEntry → Option ℕ → Option ImportEntry
entry_at imports None = None
entry_at imports (Some i) = slice_get imports i

-- of each local name among those seen, the map has the place of its first import entry, and of no other
pub record AreFirst (firsts : List (List ℕ × ℕ)) (imports seen : List ImportEntry) : Type 0 where
  pub entry : (name : List ℕ) → entry_at imports (lookup (bytes_eq name) firsts) ≡ import_entry_of seen name
  pub there : (name : List ℕ) → is_some (lookup (bytes_eq name) firsts) ≡ is_some (import_entry_of seen name)
