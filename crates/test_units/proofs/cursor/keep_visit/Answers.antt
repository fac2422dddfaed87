use Rattle.js_cursor.proofs.Changing.{visits_seen}
use Rattle.test_units.proofs.cursor.keep_visit.Goals as goal

pub returns : goal.returns
returns c = visits_seen c.p.view_is _ _ c.requires c.in_ok-set_module_syntax.ensures.ok
