use Rattle.std.proofs.Common.{length, ◌-◌}
use Rattle.part_scan.proofs.Numbers.{Decimals}
use Rattle.part_scan.proofs.number.legacy_digits_at.Given as goal

abbrev pub invariant-digits : goal.invariant-digits
invariant-digits l = Decimals l.text l.at l.end l.above

abbrev pub decreases-digits : goal.decreases-digits
decreases-digits l = length l.text - l.end
