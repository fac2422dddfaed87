use Rattle.parse_shared.specs.laws_shared.Nesting.{room}
use Rattle.parse_primary.specs.laws_primary.Decorators.{SomeDecorators}
use Rattle.parse_members.proofs.decorated.parse_decorators.Given as goal

abbrev pub invariant-decorators : goal.invariant-decorators
invariant-decorators g l = SomeDecorators l.fn.p l.p l.decorators.items

abbrev pub decreases-decorators : goal.decreases-decorators
decreases-decorators g l = room l.p
