use Rattle.laws_primary.specs.laws_shared.Nesting.{room}
use Rattle.laws_primary.proofs.Arrays.{ElementLoop}
use Rattle.parse_primary.proofs.array.parse_array_elements.Given as goal

abbrev pub invariant-elements : goal.invariant-elements
invariant-elements g l = ElementLoop l.opening l.elements.items l.fn.p l.p

abbrev pub decreases-elements : goal.decreases-elements
decreases-elements g l = room l.p
