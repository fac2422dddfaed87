-- How many nodes the value of a tree has, and how many its lines have.
use Rattle.std.specs.Prelude.{ℕ, suc, ◌+◌, ◌≡◌, ◌==◌, cond, List, [], ◌∷◌}
use Rattle.serde_json.specs.Data.{Data, array, object, Items, no_items, item, Members, no_members, member}
use Rattle.js_grammar.specs.Trees.{Slots, end, hole, tree, Tree}
use Rattle.js_grammar.specs.Lines.{tree_text}
use Rattle.js_tree.specs.Counting.{count_of}
use Rattle.js_json.specs.Json.{json_of}

-- the objects in a value, itself among them
abbrev mutual
  pub objects_in : Data → ℕ
  objects_in (array ds) = objects_in_items ds
  objects_in (object ms) = suc (objects_in_members ms)
  objects_in d = 0

  pub objects_in_items : Items → ℕ
  objects_in_items no_items = 0
  objects_in_items (item d ds) = objects_in d + objects_in_items ds

  pub objects_in_members : Members → ℕ
  objects_in_members no_members = 0
  objects_in_members (member k d ms) = objects_in d + objects_in_members ms

-- the empty slots among these and in their nodes
abbrev pub holes_in : Slots → ℕ
holes_in end = 0
holes_in (hole us) = suc (holes_in us)
holes_in (tree l cs us) = holes_in cs + holes_in us

-- the lines of a text, each of which a line feed ends
abbrev pub lines_in : List ℕ → ℕ
lines_in [] = 0
lines_in (b ∷ bs) = cond (b == 10) 1 0 + lines_in bs

-- As many objects stand in the value of a tree as the tree has nodes. Its lines are one for each node, and one for each empty slot.
pub record OneForEach : Type 0 where
  pub objects : (text : List ℕ) (t : Tree) → objects_in (json_of text t) ≡ count_of t
  pub lines : (t : Tree) → lines_in (tree_text t) ≡ count_of t + holes_in t.slots
