use Rattle.std.specs.Prelude.{[]}
use Rattle.parse_shared.specs.laws_shared.Nesting.{room}
use Rattle.laws_patterns.specs.Bindings.{elements_left}
use Rattle.laws_patterns.proofs.Lists.{ListLoop}
use Rattle.parse_patterns.proofs.binding.parse_pattern_elements.Given as goal

abbrev pub invariant-elements : goal.invariant-elements
invariant-elements g l = ListLoop elements_left [] l.elements.items l.fn.p l.p

abbrev pub decreases-elements : goal.decreases-elements
decreases-elements g l = room l.p
