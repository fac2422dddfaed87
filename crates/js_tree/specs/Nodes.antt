-- Nodes by number. A store of nodes is seen as the list of its nodes; a node's number is its place in it.
use Rattle.std.specs.Prelude.{ℕ, false, List, [], Option, None, get_or, set}
use Rattle.js_base.specs.declared.span.Span.{Span}
use Rattle.js_grammar.specs.Trees.{Label}
use Rattle.js_tree.specs.declared.flags.NodeFlags.{NodeFlags}
use Rattle.js_tree.specs.declared.id.NodeId.{NodeId}
use Rattle.js_tree.specs.declared.kind.NodeKind.{NodeKind}
use Rattle.js_tree.specs.declared.kind.NodeKind.TheVariants as node
use Rattle.js_tree.specs.declared.op.Op.{Op}
use Rattle.js_tree.specs.declared.op.Op.TheVariants as op
use Rattle.js_tree.specs.Labels.{label_of}

-- A node: what it is, the UTF-8 of the name that it keeps, and its slots in order, each with a child or empty.
pub record Node : Type 0 where
  pub kind : NodeKind
  pub op : Op
  pub flags : NodeFlags
  pub span : Span
  pub name : Option (List ℕ)
  pub children : List (Option NodeId)

abbrev pub label : Node → Label
label n = label_of n.kind n.op n.flags n.span

abbrev pub no_flags : NodeFlags
no_flags = record { prefix = false; optional = false; computed = false; shorthand = false; method = false; is_async = false; generator = false; delegate = false; is_static = false; is_await = false; tail = false; bare = false; pure = false; pife = false }

-- Program's node, with this span and these children
abbrev pub program_node : Span → List (Option NodeId) → Node
program_node s ids = record { kind = node.Program; op = op.None; flags = no_flags; span = s; name = None; children = ids }

-- Program's node as long as it isn't finished
abbrev pub empty_program : Node
empty_program = program_node record { start = 0; end = 0 } []

-- the node of a number below the length
abbrev pub node_at : List Node → NodeId → Node
node_at ns id = get_or ns id.0 empty_program

abbrev pub new_node : NodeKind → Span → Op → NodeFlags → Option (List ℕ) → List (Option NodeId) → Node
new_node k s o f name ids = record { kind = k; op = o; flags = f; span = s; name = name; children = ids }

abbrev pub with_flags : NodeFlags → Node → Node
with_flags f n = record n { flags = f }

-- the nodes, of which one has these flags now
abbrev pub flags_set : List Node → NodeId → NodeFlags → List Node
flags_set ns id f = set ns id.0 (with_flags f (node_at ns id))
