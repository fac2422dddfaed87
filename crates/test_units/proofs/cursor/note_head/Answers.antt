use Rattle.js_cursor.proofs.Changing.{noted_on}
use Rattle.test_units.proofs.cursor.note_head.Goals as goal

pub returns : goal.returns
returns c = noted_on c.requires c.in_ok-note_arrow_failed.ensures.ok
