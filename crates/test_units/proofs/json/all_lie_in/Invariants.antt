use Rattle.std.proofs.Common.{ℕ, ◌<◌, get_or}
use Rattle.js_base.specs.Spans.{LiesIn}
use Rattle.js_tree.specs.Nodes.{empty_program}
use Rattle.test_units.proofs.json.all_lie_in.Given as goal

abbrev pub invariant-loop-i : goal.invariant-loop-i
invariant-loop-i l = (k : ℕ) → k < l.i → LiesIn (get_or l.tree k empty_program).span l.source
