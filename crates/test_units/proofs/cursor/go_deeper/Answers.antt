use Rattle.js_cursor.proofs.Changing.{entered_on}
use Rattle.test_units.proofs.cursor.go_deeper.Goals as goal

pub returns : goal.returns
returns c = entered_on c.requires c.in_ok-enter.ensures.ok.1
