-- How the names that star entries bring in are collected.
use Rattle.std.specs.Prelude.{ℕ, ◌↔◌, List, Contains, filter}
use Rattle.std.specs.List.{flat_map}
use Rattle.std.specs.List.Sorted.{IsStrictlySortedBy}
use Rattle.std.specs.Cmp.Lexicographic.{slice_cmp}
use Rattle.std.specs.Ordering.{nat_cmp}
use Rattle.js_grammar.specs.ModuleRecords.{ExportEntry, asked_names}
use Rattle.js_graph.specs.Modules.{Module}
use Rattle.js_graph.specs.Names.{stars_at, names_of, is_taken}
use Rattle.js_graph.specs.Paths.{Reaches}

abbrev pub exported_by : List ExportEntry → List (List ℕ)
exported_by es = flat_map (λ ee. asked_names ee.export_name) es

-- the modules that star entries reach
pub record AreStars (g : List Module) (number : ℕ) (numbers : List ℕ) : Type 0 where
  pub reached : (other : ℕ) → Contains numbers other ↔ Reaches (stars_at g) number other

-- of the names that these modules export themselves, those that the first one takes
abbrev pub taken_from : List Module → Module → List ℕ → List (List ℕ)
taken_from g first numbers = flat_map (λ number. filter (is_taken first) (names_of g number)) numbers

-- the same names in order of bytes, each once
pub record AreSorted (names sorted : List (List ℕ)) : Type 0 where
  pub ordered : IsStrictlySortedBy (slice_cmp nat_cmp) sorted
  pub same : (name : List ℕ) → Contains sorted name ↔ Contains names name
