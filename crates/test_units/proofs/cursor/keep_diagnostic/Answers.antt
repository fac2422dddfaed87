use Rattle.js_cursor.proofs.Changing.{gave_up_on}
use Rattle.test_units.proofs.cursor.keep_diagnostic.Goals as goal

pub returns-in-Fatal : goal.returns-in-Fatal
returns-in-Fatal c = gave_up_on c.in-Fatal.ensures
