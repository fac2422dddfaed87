use Rattle.std.proofs.Common.{length, ◌-◌}
use Rattle.part_scan.proofs.StringPlaces.{InsideSo}
use Rattle.part_scan.proofs.string.inside_at.Given as goal

-- what is passed belongs to the inside
abbrev pub invariant-inside : goal.invariant-inside
invariant-inside l = InsideSo l.quote l.text l.at l.end l.has_backslash

abbrev pub decreases-inside : goal.decreases-inside
decreases-inside l = length l.text - l.end
