-- A graph in which other modules are added or changed.
use Rattle.std.specs.Prelude.{ℕ, ◌≡◌, ◌↔◌, List, slice_get}
use Rattle.js_graph.specs.declared.resolution.Binding.{Binding}
use Rattle.js_graph.specs.Leads.{Pair, next_of}
use Rattle.js_graph.specs.Modules.{Module}
use Rattle.js_graph.specs.Names.{AreExported, stars_at}
use Rattle.js_graph.specs.Paths.{Reaches}
use Rattle.js_graph.specs.Resolving.{Bindings}

-- in the other graph the modules that are reached from this name are the same
abbrev pub AgreesFrom : List Module → ℕ → List ℕ → List Module → Type 0
AgreesFrom g number name h = (p : Pair) → Reaches (next_of g) (number, name) p → slice_get h p.0 ≡ slice_get g p.0

-- and so are those that star entries of this module reach
abbrev pub AgreesOverStars : List Module → ℕ → List Module → Type 0
AgreesOverStars g number h = (other : ℕ) → Reaches (stars_at g) number other → slice_get h other ≡ slice_get g other

-- The modules that aren't reached don't matter: a name reaches the same bindings in both graphs, and a module exports the same names.
pub record UnreachedModulesDontMatter : Type 0 where
  pub bindings : (g h : List Module) (number : ℕ) (name : List ℕ) → AgreesFrom g number name h → (b : Binding) → Bindings g number name b ↔ Bindings h number name b
  pub names : (g h : List Module) (number : ℕ) → AgreesOverStars g number h → (names : List (List ℕ)) → AreExported g number names ↔ AreExported h number names
