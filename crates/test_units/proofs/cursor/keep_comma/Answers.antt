use Rattle.js_cursor.proofs.Changing.{comma_added_seen}
use Rattle.test_units.proofs.cursor.keep_comma.Goals as goal

pub returns : goal.returns
returns c = comma_added_seen c.p.view_is _ _ _ c.requires.at c.requires.behind c.in_ok-add_trailing_comma.ensures.ok
