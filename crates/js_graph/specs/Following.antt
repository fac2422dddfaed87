-- How the paths from a name are followed: which pairs were reached, and what was found so far.
use Rattle.std.specs.Prelude.{Bool, true, false, ◌==◌, ◌&&◌, bytes_eq, List, if◌then◌else◌}
use Rattle.indexmap.specs.IndexSet.{insert_all}
use Rattle.js_graph.specs.declared.resolution.Binding.{Binding}
use Rattle.js_graph.specs.declared.resolution.BindingName.{BindingName}
use Rattle.js_graph.specs.declared.resolution.BindingName.TheVariants as named
use Rattle.js_graph.specs.declared.resolution.Resolution.{Resolution}
use Rattle.js_graph.specs.declared.resolution.Resolution.TheVariants as answer
use Rattle.js_graph.specs.Leads.{Pair}

abbrev pub name_eq : BindingName → BindingName → Bool
name_eq (named.Name x) (named.Name y) = bytes_eq x y
name_eq named.Default named.Default = true
name_eq named.Namespace named.Namespace = true
name_eq _ _ = false

abbrev pub binding_eq : Binding → Binding → Bool
binding_eq a b = a.module == b.module && name_eq a.name b.name

-- what is known when one more binding is found
abbrev pub noted : Resolution → Binding → Resolution
noted answer.Null b = answer.Binding b
noted (answer.Binding a) b = if binding_eq a b then answer.Binding a else answer.Ambiguous
noted answer.Ambiguous b = answer.Ambiguous

abbrev pub pair_eq : Pair → Pair → Bool
pair_eq p q = p.0 == q.0 && bytes_eq p.1 q.1

-- the pairs that were reached and these, each once
abbrev pub entered : List Pair → List Pair → List Pair
entered ps qs = insert_all pair_eq ps qs
