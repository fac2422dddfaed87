use Rattle.std.proofs.Common.{refl}
use Rattle.parse_primary.proofs.laws_primary.Members.{angle_marked}
use Rattle.parse_members.proofs.primary.refuse_operand.Goals as goal

pub refuse_here-requires-clause-mark : goal.refuse_here-requires-clause-mark
refuse_here-requires-clause-mark g c = angle_marked c.requires (c.at.ensures.0 c.if-at.true)

pub refuse_here-requires-clause-ends : goal.refuse_here-requires-clause-ends
refuse_here-requires-clause-ends g c = refl
