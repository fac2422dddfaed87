use Rattle.js_grammar.specs.Trees.{Tree}
use Rattle.js_grammar.specs.Lines.{tree_text}
use Rattle.js_tree.specs.Holding.{IsTree}
use Rattle.js_tree.proofs.WalkLemmas.{slots_left, Walked}
use Rattle.js_tree.proofs.columns.Columns.tree_lines.Given as goal

abbrev pub invariant-loop-at : goal.invariant-loop-at
invariant-loop-at l = (t : Tree) → IsTree l.self t → Walked l.self l.stack.items l.out.items (tree_text t)

abbrev pub decreases-loop-at : goal.decreases-loop-at
decreases-loop-at l = slots_left l.self l.stack.items
