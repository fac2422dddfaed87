use Rattle.std.proofs.Common.{length, ◌-◌}
use Rattle.part_scan.proofs.TemplateParts.{Read}
use Rattle.part_scan.proofs.template.part_end.Given as goal

abbrev pub invariant-part : goal.invariant-part
invariant-part l = Read l.text l.at l.end l.before

abbrev pub decreases-part : goal.decreases-part
decreases-part l = length l.text - l.end
