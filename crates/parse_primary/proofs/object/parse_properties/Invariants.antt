use Rattle.laws_primary.specs.laws_shared.Nesting.{room}
use Rattle.laws_primary.proofs.PropertyLists.{PropertyLoop}
use Rattle.parse_primary.proofs.object.parse_properties.Given as goal

abbrev pub invariant-properties : goal.invariant-properties
invariant-properties g l = PropertyLoop l.opening l.properties.items l.fn.p l.p

abbrev pub decreases-properties : goal.decreases-properties
decreases-properties g l = room l.p
