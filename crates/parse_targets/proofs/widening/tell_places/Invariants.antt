use Rattle.std.proofs.Common.{◌-◌, length}
use Rattle.parse_targets.proofs.PlacesTold.{ToldUpTo}
use Rattle.parse_targets.proofs.widening.tell_places.Given as goal

abbrev pub invariant-places : goal.invariant-places
invariant-places g l = ToldUpTo l.places.items l.fn.p l.p l.next

abbrev pub decreases-places : goal.decreases-places
decreases-places g l = length l.places.items - l.next
