use Rattle.parse_shared.specs.laws_shared.Nesting.{room}
use Rattle.parse_primary.proofs.laws_primary.Members.{LinkLoop, CallGoes}
use Rattle.parse_members.proofs.left_hand_side.parse_call_links.Given as goal

abbrev pub invariant-links : goal.invariant-links
invariant-links g l = LinkLoop l.start l.fn.p l.p (CallGoes l.fn.call l.start l.fn.p l.p l.left)

abbrev pub decreases-links : goal.decreases-links
decreases-links g l = room l.p
