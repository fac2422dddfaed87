use Rattle.js_cursor.proofs.Changing.{cover_popped_seen}
use Rattle.test_units.proofs.cursor.pop_cover.Goals as goal

pub returns : goal.returns
returns c = cover_popped_seen c.p.view_is _ _ c.requires c.pop_cover_initializer.ensures.popped c.pop_cover_initializer.ensures.others
