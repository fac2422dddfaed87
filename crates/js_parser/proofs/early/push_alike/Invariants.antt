use Rattle.std.proofs.Common.{◌≡◌, ◌≤◌, ◌++◌, drop, length}
use Rattle.js_parser.specs.Broken.{pending_alike}
use Rattle.js_parser.proofs.early.push_alike.Given as goal

abbrev pub invariant-loop-i : goal.invariant-loop-i
invariant-loop-i l = record { within : l.i ≤ length l.slots; pushed : l.stack.items ≡ l.initial.stack.items ++ pending_alike l.position l.below (drop l.i l.slots) }

abbrev pub decreases-loop-i : goal.decreases-loop-i
decreases-loop-i l = l.i
