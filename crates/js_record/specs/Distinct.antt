-- The names of export entries, compared.
use Rattle.std.specs.Prelude.{ℕ, Bool, true, ◌&&◌, not, bytes_eq, List, [], ◌∷◌}
use Rattle.std.specs.List.{flat_map, list_any}
pub use Rattle.js_grammar.specs.ExportedNames.{no_two}
use Rattle.js_grammar.specs.ModuleRecords.{ExportEntry, asked_names}

abbrev pub names_of : List ExportEntry → List (List ℕ)
names_of es = flat_map (λ ee. asked_names ee.export_name) es

-- no name stands in both lists
abbrev pub none_shared : List (List ℕ) → List (List ℕ) → Bool
none_shared [] ys = true
none_shared (x ∷ xs) ys = not (list_any (bytes_eq x) ys) && none_shared xs ys
