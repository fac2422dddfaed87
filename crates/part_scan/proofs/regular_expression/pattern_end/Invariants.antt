use Rattle.std.proofs.Common.{length, ◌-◌}
use Rattle.part_scan.proofs.RegularExpressionParts.{Read}
use Rattle.part_scan.proofs.regular_expression.pattern_end.Given as goal

abbrev pub invariant-pattern : goal.invariant-pattern
invariant-pattern l = Read l.text l.at l.end l.inside

abbrev pub decreases-pattern : goal.decreases-pattern
decreases-pattern l = length l.text - l.end
