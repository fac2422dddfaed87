use Rattle.std.proofs.Common.{ℕ, List}
use Rattle.js_grammar.specs.Trees.{Label, Slots}
use Rattle.js_grammar.specs.BoundNames.{bound_names}
use Rattle.js_tree.specs.Holding.{Stands}
use Rattle.js_tree.proofs.WeightLemmas.{stack_weight}
use Rattle.js_tree.proofs.BindingLemmas.{Searched}
use Rattle.js_tree.proofs.columns.Columns.bound_names.Given as goal

abbrev pub invariant-loop-at : goal.invariant-loop-at
invariant-loop-at l = (m : Label) (cs : Slots) (rs : List ℕ) → Stands l.self l.fn.id.0 m cs rs → Searched l.self rs l.stack.items l.found.items (bound_names m cs)

abbrev pub decreases-loop-at : goal.decreases-loop-at
decreases-loop-at l = stack_weight l.self l.stack.items
