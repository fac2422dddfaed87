-- How many nodes a tree has.
use Rattle.std.specs.Prelude.{◌≡◌, ◌<◌, ℕ, suc, ◌+◌, List, [], ◌∷◌, Option, Some, None, length, get_or, cond, nat_lt}
use Rattle.js_grammar.specs.Trees.{Slots, end, hole, tree, Tree}
use Rattle.js_tree.specs.declared.id.NodeId.{NodeId}
use Rattle.js_tree.specs.Nodes.{Node, empty_program}
use Rattle.js_tree.specs.Holding.{IsTree}

-- the nodes in slots, and in the slots of these
abbrev pub nodes_in : Slots → ℕ
nodes_in end = 0
nodes_in (hole us) = nodes_in us
nodes_in (tree l cs us) = suc (nodes_in cs + nodes_in us)

-- the nodes of a tree, its own included
abbrev pub count_of : Tree → ℕ
count_of t = suc (nodes_in t.slots)

-- the number is that of the nodes of the tree that is seen
abbrev pub IsCount : List Node → ℕ → Type 0
IsCount ns n = (t : Tree) → IsTree ns t → n ≡ count_of t

-- the counts of children whose numbers lie below a bound, together
abbrev pub counted : List ℕ → ℕ → List (Option NodeId) → ℕ
counted counts below [] = 0
counted counts below (None ∷ ids) = counted counts below ids
counted counts below (Some id ∷ ids) = cond (nat_lt id.0 below) (get_or counts id.0 0) 0 + counted counts below ids

-- Of each number the nodes that are reached from it are counted, its own and those of its children.
pub record AreCounts (ns : List Node) (counts : List ℕ) : Type 0 where
  pub some : 0 < length ns
  pub one_each : length counts ≡ length ns
  pub each : (i : ℕ) → i < length ns → get_or counts i 0 ≡ suc (counted counts i (get_or ns i empty_program).children)
