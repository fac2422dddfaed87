use Rattle.js_grammar.specs.Trees.{Tree}
use Rattle.js_tree.specs.Holding.{IsTree}
use Rattle.js_parser.specs.Broken.{told_in}
use Rattle.js_parser.specs.declared.early.Position.TheVariants.{Anywhere}
use Rattle.js_parser.proofs.Broken.{Telling, pending_weight}
use Rattle.js_parser.proofs.early.early_errors.Given as goal

abbrev pub invariant-nodes : goal.invariant-nodes
invariant-nodes l = (t : Tree) → IsTree l.tree t → Telling l.source l.tree l.stack.items l.told (told_in l.source Anywhere t.slots)

abbrev pub decreases-nodes : goal.decreases-nodes
decreases-nodes l = pending_weight l.tree l.stack.items
