use Rattle.js_cursor.proofs.Changing.{ctx_seen}
use Rattle.test_units.proofs.cursor.set_parameter.Goals as goal

pub returns : goal.returns
returns c = ctx_seen c.p.view_is _ c.requires
