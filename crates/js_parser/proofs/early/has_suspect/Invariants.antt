use Rattle.std.proofs.Common.{◌≡◌, ◌<◌, false}
use Rattle.js_tree.specs.declared.id.NodeId.{NodeId}
use Rattle.js_parser.specs.Broken.{breaks}
use Rattle.js_parser.proofs.early.has_suspect.Given as goal

abbrev pub invariant-loop-i : goal.invariant-loop-i
invariant-loop-i l = (id : NodeId) → id.0 < l.i → breaks l.source l.tree id ≡ false
