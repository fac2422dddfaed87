use Rattle.js_grammar.specs.CoverInitialisers.{initialised_in}
use Rattle.js_grammar.specs.Trees.{Tree}
use Rattle.js_tree.specs.Holding.{IsTree}
use Rattle.js_tree.proofs.CoverLemmas.{Found}
use Rattle.js_tree.proofs.WeightLemmas.{stack_weight}
use Rattle.js_tree.proofs.columns.Columns.cover_initializers.Given as goal

abbrev pub invariant-nodes : goal.invariant-nodes
invariant-nodes l = (t : Tree) → IsTree l.self t → Found l.self l.stack.items l.spans.items (initialised_in t.slots)

abbrev pub decreases-nodes : goal.decreases-nodes
decreases-nodes l = stack_weight l.self l.stack.items
