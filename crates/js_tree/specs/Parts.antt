-- Parts of the slots of a node, and their children as a stack.
use Rattle.std.specs.Prelude.{ℕ, List, [], ◌∷◌, ◌++◌, Option, Some, None, take, drop, cond, nat_lt}
use Rattle.js_grammar.specs.BoundNames.{Part as BoundPart, none, itself, first, second, every, part_of}
use Rattle.js_tree.specs.declared.bound.Part.{Part}
use Rattle.js_tree.specs.declared.bound.Part.TheVariants.{Nothing, Itself, First, Second, Every}
use Rattle.js_tree.specs.declared.id.NodeId.{NodeId}
use Rattle.js_tree.specs.Labels.{kind_of}
use Rattle.js_tree.specs.Nodes.{Node, node_at}

abbrev pub part : Part → BoundPart
part Nothing = none
part Itself = itself
part First = first
part Second = second
part Every = every

-- the slots of a part
abbrev pub chosen : BoundPart → List (Option NodeId) → List (Option NodeId)
chosen first ids = take 1 ids
chosen second ids = take 1 (drop 1 ids)
chosen every ids = ids
chosen p ids = []

-- the node itself, where it is the part
abbrev pub own : BoundPart → NodeId → List NodeId
own itself id = id ∷ []
own p id = []

-- the children whose number is below a bound, the last one first
abbrev pub below_all : ℕ → List (Option NodeId) → List NodeId
below_all b [] = []
below_all b (None ∷ ids) = below_all b ids
below_all b (Some id ∷ ids) = below_all b ids ++ cond (nat_lt id.0 b) (id ∷ []) []

-- what the search finds at a node, and where it goes on
abbrev pub found_at : List Node → NodeId → List NodeId
found_at ns id = own (part_of (kind_of (node_at ns id).kind)) id

abbrev pub due_at : List Node → NodeId → List NodeId
due_at ns id = below_all id.0 (chosen (part_of (kind_of (node_at ns id).kind)) (node_at ns id).children)
