use Rattle.js_cursor.proofs.Changing.{may_return}
use Rattle.test_units.proofs.cursor.turn_back.Goals as goal

pub rewind-requires-clause-may : goal.rewind-requires-clause-may
rewind-requires-clause-may c = may_return c.requires.at c.in_ok-here.ensures.remembers c.checkpoint.ensures.same c.in_ok-make_deed.ensures.0
