use Rattle.std.proofs.Common.{◌≡◌, ◌≤◌, ◌-◌, ◌++◌, take, length}
use Rattle.js_parser.proofs.answer.joined.Given as goal

abbrev pub invariant-second : goal.invariant-second
invariant-second l = (l.all ≡ l.fn.first ++ take l.i l.fn.second) × (l.i ≤ length l.fn.second)

abbrev pub decreases-second : goal.decreases-second
decreases-second l = length l.fn.second - l.i
