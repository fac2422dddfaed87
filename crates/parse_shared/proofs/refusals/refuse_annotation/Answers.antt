use Rattle.std.proofs.Common.{refl}
use Rattle.parse_shared.proofs.GivingUp.{annotation_marked}
use Rattle.parse_shared.proofs.refusals.refuse_annotation.Goals as goal

pub refuse_here-requires-clause-mark : goal.refuse_here-requires-clause-mark
refuse_here-requires-clause-mark g c = annotation_marked c.requires.at c.requires.colon

pub refuse_here-requires-clause-ends : goal.refuse_here-requires-clause-ends
refuse_here-requires-clause-ends g c = refl
