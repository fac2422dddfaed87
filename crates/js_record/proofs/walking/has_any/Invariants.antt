use Rattle.std.proofs.Common.{◌≡◌, ◌<◌, false}
use Rattle.js_tree.specs.declared.id.NodeId.{NodeId}
use Rattle.js_record.specs.Walked.{adds_at}
use Rattle.js_record.proofs.walking.has_any.Given as goal

abbrev pub invariant-loop-i : goal.invariant-loop-i
invariant-loop-i l = (id : NodeId) → id.0 < l.i → adds_at l.tree id ≡ false
