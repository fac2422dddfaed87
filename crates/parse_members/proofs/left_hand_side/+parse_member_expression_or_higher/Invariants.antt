use Rattle.parse_shared.specs.laws_shared.Nesting.{room}
use Rattle.parse_members.proofs.left_hand_side.+parse_member_expression_or_higher.Given as goal

abbrev pub decreases-parse_member_expression_or_higher : goal.decreases-parse_member_expression_or_higher
decreases-parse_member_expression_or_higher g l = room l.p.now
