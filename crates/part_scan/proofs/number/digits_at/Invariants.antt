use Rattle.std.proofs.Common.{length, ◌-◌}
use Rattle.part_scan.proofs.Numbers.{Passed}
use Rattle.part_scan.proofs.number.digits_at.Given as goal

abbrev pub invariant-digits : goal.invariant-digits
invariant-digits l = Passed l.radix l.text l.at l.end l.complete l.has_separator

abbrev pub decreases-digits : goal.decreases-digits
decreases-digits l = length l.text - l.end
