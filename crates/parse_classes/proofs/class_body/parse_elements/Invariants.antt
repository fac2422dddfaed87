use Rattle.laws_classes.specs.ClassBodies.{SomeElements}
use Rattle.laws_classes.specs.laws_primary.laws_shared.Nesting.{room}
use Rattle.parse_classes.proofs.class_body.parse_elements.Given as goal

abbrev pub invariant-elements : goal.invariant-elements
invariant-elements t l = SomeElements l.fn.p l.p l.elements.items

abbrev pub decreases-elements : goal.decreases-elements
decreases-elements t l = room l.p
