-- A function or an arrow that stands directly in parentheses is marked: it is probably called at once.
use Rattle.std.specs.Prelude.{ℕ, ◌≡◌, ◌<◌, ◌≤◌, Bool, true, false, List, length}
use Rattle.js_grammar.specs.Trees.{NodeKind, Label, Slots, function_expression, arrow_function_expression}
use Rattle.js_grammar.specs.Productions.{pife_flag, with_pife}
use Rattle.laws_shared.specs.js_tree.declared.id.NodeId.{NodeId}
use Rattle.laws_shared.specs.js_tree.Nodes.{Node}
use Rattle.laws_shared.specs.js_tree.Holding.{Holds, Keeps}
use Rattle.laws_shared.specs.js_cursor.Parsers.{Parser}
use Rattle.laws_shared.specs.States.{NodesLie}

abbrev pub is_function : NodeKind → Bool
is_function function_expression = true
is_function arrow_function_expression = true
is_function _ = false

-- The node stands for the tree with that mark, if it stood for one without; all else stays.
pub record MarkedTree (ns : List Node) (lo hi : ℕ) (id : NodeId) (l : Label) (cs : Slots) : Type 0 where
  pub label : Label
  pub holds : Holds ns lo hi id.0 label cs
  pub is : (is_function l.kind ≡ true → l.flags < pife_flag) → label ≡ with_pife l

pub record MarksNode (id : NodeId) (ns ms : List Node) : Type 0 where
  pub long : length ms ≡ length ns
  pub holds : (lo hi : ℕ) (l : Label) (cs : Slots) → Holds ns lo hi id.0 l cs → MarkedTree ms lo hi id l cs
  pub keeps : (os : List Node) → Keeps os ns → length os ≤ id.0 → Keeps os ms
  pub lies : (text : List ℕ) → NodesLie text ns → NodesLie text ms

abbrev pub Marks : NodeId → Parser → Parser → Type 0
Marks id p q = (q ≡ record p { nodes = q.nodes }) × MarksNode id p.nodes q.nodes
