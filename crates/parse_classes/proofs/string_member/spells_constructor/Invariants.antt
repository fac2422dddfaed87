use Rattle.std.proofs.Common.{◌≡◌, ◌≤◌, drop, length}
use Rattle.std.specs.Prelude.{codes}
use Rattle.parse_classes.proofs.string_member.spells_constructor.Given as goal

abbrev pub invariant-loop-i : goal.invariant-loop-i
invariant-loop-i l = record { within : l.i ≤ 11; length_is : length l.units ≡ 11; same : drop l.i l.units ≡ drop l.i (codes "constructor") }

abbrev pub decreases-loop-i : goal.decreases-loop-i
decreases-loop-i l = l.i
