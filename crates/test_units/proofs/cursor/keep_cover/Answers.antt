use Rattle.js_cursor.proofs.Changing.{cover_added_seen}
use Rattle.test_units.proofs.cursor.keep_cover.Goals as goal

pub returns-clause-goes_on : goal.returns-clause-goes_on
returns-clause-goes_on c = cover_added_seen c.p.view_is _ _ _ c.requires.at c.requires.behind c.in_ok-add_cover_initializer.ensures.ok
