use Rattle.js_cursor.proofs.Standing.{mark_here, gave_up}
use Rattle.js_cursor.proofs.parser.ParserImpl.refuse.Goals as goal

pub set_fatal_error-requires-clause-mark : goal.set_fatal_error-requires-clause-mark
set_fatal_error-requires-clause-mark g c = mark_here _ _ _ c.requires.at c.here-span.ensures c.requires.may

pub returns : goal.returns
returns g c = gave_up _ _ _ _ _ c.here-span.ensures c.set_fatal_error.ensures
