use Rattle.laws_operators.proofs.SlashedHeads.{arguments_read, arguments_refused}
use Rattle.parse_arrows.proofs.arrow.is_arrow_due.Goals as goal

pub returns-in-Ok : goal.returns-in-Ok
returns-in-Ok g c = arguments_read _ c.requires.at c.in-Ok.ensures c.at.ensures.0 c.at.ensures.1

pub returns-in-Err-Fatal : goal.returns-in-Err-Fatal
returns-in-Err-Fatal g c = arguments_refused _ c.requires.at c.in-Err-Fatal.field-0-is c.in-Err-Fatal.ensures
