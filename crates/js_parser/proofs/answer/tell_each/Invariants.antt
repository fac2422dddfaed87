use Rattle.std.proofs.Common.{◌≡◌, ◌≤◌, ◌-◌, ◌++◌, take, length}
use Rattle.js_parser.specs.Leftover.{told_at}
use Rattle.js_parser.proofs.answer.tell_each.Given as goal

abbrev pub invariant-spans : goal.invariant-spans
invariant-spans l = (l.all ≡ l.initial.all ++ told_at l.kind (take l.i l.spans)) × (l.i ≤ length l.spans)

abbrev pub decreases-spans : goal.decreases-spans
decreases-spans l = length l.spans - l.i
