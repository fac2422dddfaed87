use Rattle.js_cursor.proofs.Changing.{moved_on}
use Rattle.test_units.proofs.cursor.move_on.Goals as goal

pub returns : goal.returns
returns c = moved_on c.in_ok-bump_any.ensures
