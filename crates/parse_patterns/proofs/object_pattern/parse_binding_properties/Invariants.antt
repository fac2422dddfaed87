use Rattle.std.specs.Prelude.{[]}
use Rattle.parse_shared.specs.laws_shared.Nesting.{room}
use Rattle.laws_patterns.specs.ObjectPatterns.{properties_left}
use Rattle.laws_patterns.proofs.Lists.{ListLoop}
use Rattle.parse_patterns.proofs.object_pattern.parse_binding_properties.Given as goal

abbrev pub invariant-properties : goal.invariant-properties
invariant-properties g l = ListLoop properties_left [] l.properties.items l.fn.p l.p

abbrev pub decreases-properties : goal.decreases-properties
decreases-properties g l = room l.p
