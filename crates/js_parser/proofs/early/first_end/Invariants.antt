use Rattle.std.proofs.Common.{◌≡◌, ◌+◌, drop}
use Rattle.js_parser.specs.Broken.{first_end}
use Rattle.js_parser.proofs.early.first_end.Given as goal

abbrev pub invariant-loop-i : goal.invariant-loop-i
invariant-loop-i l = first_end l.slots ≡ l.i + first_end (drop l.i l.slots)
