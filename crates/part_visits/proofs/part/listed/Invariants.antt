use Rattle.std.proofs.Common.{◌≡◌}
use Rattle.part_visits.proofs.part.listed.Given as goal

-- the list has the items so far
abbrev pub invariant-loop-item : goal.invariant-loop-item
invariant-loop-item g l = l.list ≡ l.yielded
