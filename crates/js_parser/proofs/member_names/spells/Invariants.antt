use Rattle.std.proofs.Common.{◌≡◌, ◌≤◌, drop, length}
use Rattle.js_parser.proofs.member_names.spells.Given as goal

abbrev pub invariant-loop-i : goal.invariant-loop-i
invariant-loop-i l = record { within : l.i ≤ length l.name; length_is : length l.units ≡ length l.name; same : drop l.i l.units ≡ drop l.i l.name }

abbrev pub decreases-loop-i : goal.decreases-loop-i
decreases-loop-i l = l.i
