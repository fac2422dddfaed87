use Rattle.laws_operators.proofs.ClosedOperands.{closed_outcome}
use Rattle.parse_operators.proofs.closed_operand.parse_closed_operand.Goals as goal

pub returns : goal.returns
returns g c = closed_outcome c.parse_lexeme.new.p c.parse_lexeme.result c.requires c.if-not-is_closed.false c.is_closed.ensures c.parse_lexeme.ensures
