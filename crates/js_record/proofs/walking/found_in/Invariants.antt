use Rattle.std.proofs.Common.{ℕ, List, length}
use Rattle.js_grammar.specs.Modules.{found_in}
use Rattle.js_grammar.specs.Trees.{Slots}
use Rattle.js_tree.specs.Holding.{StandsAll}
use Rattle.js_tree.proofs.WeightLemmas.{stack_weight}
use Rattle.js_record.proofs.WalkLemmas.{Walked}
use Rattle.js_record.proofs.walking.found_in.Given as goal

abbrev pub invariant-nodes : goal.invariant-nodes
invariant-nodes l = (cs : Slots) (rs : List ℕ) → StandsAll l.tree (length l.tree) l.slots cs rs → Walked l.tree l.stack.items l.found.items (found_in cs)

abbrev pub decreases-nodes : goal.decreases-nodes
decreases-nodes l = stack_weight l.tree l.stack.items
