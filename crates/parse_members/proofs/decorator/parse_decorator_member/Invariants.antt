use Rattle.parse_shared.specs.laws_shared.Nesting.{room}
use Rattle.parse_primary.proofs.laws_primary.Members.{LinkLoop}
use Rattle.parse_primary.proofs.laws_primary.DecoratorMembers.{NamesGo}
use Rattle.parse_members.proofs.decorator.parse_decorator_member.Given as goal

abbrev pub invariant-names : goal.invariant-names
invariant-names g l = LinkLoop l.start l.fn.p l.p (NamesGo l.start l.fn.p l.p l.left)

abbrev pub decreases-names : goal.decreases-names
decreases-names g l = room l.p
