use Rattle.parse_shared.specs.laws_shared.Nesting.{room}
use Rattle.laws_patterns.specs.Parameters.{parameters_left}
use Rattle.laws_patterns.proofs.Lists.{ListLoop}
use Rattle.parse_patterns.proofs.parameters.parse_parameter_list.Given as goal

abbrev pub invariant-parameters : goal.invariant-parameters
invariant-parameters g l = ListLoop parameters_left l.fn.parameters.items l.parameters.items l.fn.p l.p

abbrev pub decreases-parameters : goal.decreases-parameters
decreases-parameters g l = room l.p
