use Rattle.js_cursor.proofs.Changing.{operand_noted_on}
use Rattle.test_units.proofs.cursor.note_operand.Goals as goal

pub returns : goal.returns
returns c = operand_noted_on c.requires c.in_ok-note_operand_failed.ensures.ok
