use Rattle.js_cursor.proofs.Changing.{cover_taken_seen}
use Rattle.test_units.proofs.cursor.take_cover.Goals as goal

pub returns : goal.returns
returns c = cover_taken_seen c.p.view_is _ _ c.requires c.take_cover_initializer.ensures.taken
