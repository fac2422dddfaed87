-- What is read as the names of nodes.
use Rattle.std.specs.Prelude.{ℕ, ◌≡◌, cond, List, [], ◌∷◌, Option, Some, None, get_or}
use Rattle.js_tree.specs.Labels.{kind_of}
use Rattle.js_tree.specs.Nodes.{Node, label, empty_program}
use Rattle.js_tree.specs.Sources as sources
use Rattle.js_json.specs.Json.{is_name, name_of}

-- what `Tree::name` gives of a node that is a name: what it keeps, else its text, a `#` aside
abbrev pub read_name : List ℕ → Node → Option (List ℕ)
read_name text n = cond (is_name (kind_of n.kind)) (Some (sources.name_of n text)) None

-- where the node is a name, that is what its text spells (12.7.1)
abbrev pub IsNamed : List ℕ → Node → Type 0
IsNamed text n = read_name text n ≡ name_of text (label n)

-- so it is with the nodes of these numbers
abbrev pub AreNamed : List ℕ → List Node → List ℕ → Type 0
AreNamed text ns [] = Unit {0}
AreNamed text ns (r ∷ rs) = IsNamed text (get_or ns r empty_program) × AreNamed text ns rs
