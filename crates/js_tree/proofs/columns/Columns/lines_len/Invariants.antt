use Rattle.js_grammar.specs.Trees.{Tree}
use Rattle.js_grammar.specs.Lines.{tree_text}
use Rattle.js_tree.specs.Holding.{IsTree}
use Rattle.js_tree.proofs.WalkLemmas.{slots_left, Counted}
use Rattle.js_tree.proofs.columns.Columns.lines_len.Given as goal

abbrev pub invariant-loop-at : goal.invariant-loop-at
invariant-loop-at l = (t : Tree) → IsTree l.self t → Counted l.self l.stack.items l.total (tree_text t)

abbrev pub decreases-loop-at : goal.decreases-loop-at
decreases-loop-at l = slots_left l.self l.stack.items
