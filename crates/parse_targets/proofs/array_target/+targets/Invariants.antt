use Rattle.std.proofs.Common.{◌+◌, ◌-◌, ◌*◌, length}
use Rattle.parse_targets.specs.Targets.{noted_in}
use Rattle.parse_targets.proofs.ConvertedNodes.{ElementsSoFar}
use Rattle.parse_targets.proofs.array_target.+targets.Given as goal

abbrev pub decreases-convert_literal : goal.decreases-convert_literal
decreases-convert_literal l = 5 * l.id.0 + 1

abbrev pub decreases-convert_element : goal.decreases-convert_element
decreases-convert_element l = 5 * l.id.0 + 4

abbrev pub decreases-convert_elements : goal.decreases-convert_elements
decreases-convert_elements l = 5 * l.id.0

abbrev pub decreases-convert_item : goal.decreases-convert_item
decreases-convert_item l = 5 * l.id.0 + 3

abbrev pub decreases-convert_property : goal.decreases-convert_property
decreases-convert_property l = 5 * l.id.0 + 2

abbrev pub decreases-convert_rest : goal.decreases-convert_rest
decreases-convert_rest l = 5 * l.id.0 + 2

abbrev pub decreases-convert_target : goal.decreases-convert_target
decreases-convert_target l = 5 * l.id.0 + 2

abbrev pub invariant-convert_elements-elements : goal.invariant-convert_elements-elements
invariant-convert_elements-elements l = ElementsSoFar l.fn.in_object l.fn.ast l.ast l.fn.id (noted_in l.fn.notes) (noted_in l.notes) l.children.items l.elements.items l.next

abbrev pub decreases-convert_elements-elements : goal.decreases-convert_elements-elements
decreases-convert_elements-elements l = length l.children.items - l.next
