-- ResolveExport (ECMA-262, 16.2.1.7.2.2), by what paths reach.
use Rattle.std.specs.Prelude.{ℕ, ◌≡◌, ◌≢◌, ◌↔◌, List}
use Rattle.js_graph.specs.declared.resolution.Binding.{Binding}
use Rattle.js_graph.specs.declared.resolution.Resolution.{Resolution}
use Rattle.js_graph.specs.declared.resolution.Resolution.TheVariants as answer
use Rattle.js_graph.specs.Modules.{Module}
use Rattle.js_graph.specs.Leads.{Pair, to_binding, lead_of, next_of}
use Rattle.js_graph.specs.Paths.{Reaches}

-- the bindings that a path from this name of this module reaches
abbrev pub Bindings : List Module → ℕ → List ℕ → Binding → Type 0
Bindings g number name b = (p : Pair) × Reaches (next_of g) (number, name) p × (lead_of g p ≡ to_binding b)

-- what is answered for a set of bindings: null exactly where there is none, a binding exactly where it is there alone, and that it is ambiguous exactly where there are two
pub record Resolves (found : Binding → Type 0) (r : Resolution) : Type 0 where
  pub null : (r ≡ answer.Null) ↔ ((b : Binding) → ¬ (found b))
  pub one : (b : Binding) → (r ≡ answer.Binding b) ↔ (found b × ((c : Binding) → found c → c ≡ b))
  pub ambiguous : (r ≡ answer.Ambiguous) ↔ ((b : Binding) × (c : Binding) × found b × found c × (b ≢ c))
