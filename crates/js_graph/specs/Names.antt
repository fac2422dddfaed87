-- GetExportedNames (ECMA-262, 16.2.1.7.2.1), by what paths of star entries reach.
use Rattle.std.specs.Prelude.{ℕ, ◌≡◌, ◌↔◌, Bool, ◌&&◌, not, bytes_eq, codes, List, [], ◌++◌, Option, Some, None, slice_get, Contains, IsTrue}
use Rattle.std.specs.List.{flat_map, list_any}
use Rattle.std.specs.List.Sorted.{IsStrictlySortedBy}
use Rattle.std.specs.Cmp.Lexicographic.{slice_cmp}
use Rattle.std.specs.Ordering.{nat_cmp}
use Rattle.js_grammar.specs.ModuleRecords.{own_export_names}
use Rattle.js_record.specs.part_visits.Options.{places_of}
use Rattle.js_graph.specs.Modules.{Module, target_by}
use Rattle.js_graph.specs.Paths.{Reaches}

-- the names that the module of a number exports itself, in the order of its record
abbrev pub own_names : Option Module → List (List ℕ)
own_names None = []
own_names (Some m) = own_export_names m.module_record

abbrev pub names_of : List Module → ℕ → List (List ℕ)
names_of g number = own_names (slice_get g number)

-- the modules that its star entries ask
abbrev pub stars_of : Module → List ℕ
stars_of m = flat_map (λ ee. places_of (target_by m ee.module_request)) m.module_record.star_export_entries

abbrev pub stars_by : Option Module → List ℕ
stars_by None = []
stars_by (Some m) = stars_of m

abbrev pub stars_at : List Module → ℕ → List ℕ
stars_at g number = stars_by (slice_get g number)

-- star entries of a module bring in a name only if it isn't `default` and the module doesn't export it itself
abbrev pub is_new : List (List ℕ) → List ℕ → Bool
is_new own name = not (bytes_eq name (codes "default")) && not (list_any (bytes_eq name) own)

abbrev pub is_taken : Module → List ℕ → Bool
is_taken m name = is_new (own_export_names m.module_record) name

-- a name that star entries bring in: a module that a path of star entries reaches exports it itself
pub record IsStarName (g : List Module) (number : ℕ) (name : List ℕ) : Type 0 where
  pub other : ℕ
  pub reached : Reaches (stars_at g) number other
  pub exported : Contains (names_of g other) name
  pub taken : IsTrue (is_new (names_of g number) name)

-- all names that star entries bring in, each once and in the order of bytes
pub record AreStarNames (g : List Module) (number : ℕ) (names : List (List ℕ)) : Type 0 where
  pub ordered : IsStrictlySortedBy (slice_cmp nat_cmp) names
  pub exact : (name : List ℕ) → Contains names name ↔ IsStarName g number name

-- the names that a module exports: its own, in the order of its record, and then those that star entries bring in
pub record AreExported (g : List Module) (number : ℕ) (names : List (List ℕ)) : Type 0 where
  pub stars : List (List ℕ)
  pub all : names ≡ names_of g number ++ stars
  pub brought : AreStarNames g number stars
