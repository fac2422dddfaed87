use Rattle.js_cursor.proofs.Standing.{mark_after}
use Rattle.js_cursor.proofs.parser.ParserImpl.set_unexpected.Goals as goal

pub set_fatal_error-requires-clause-mark : goal.set_fatal_error-requires-clause-mark
set_fatal_error-requires-clause-mark g c = mark_after c.in-Ok.ensures.same c.requires c.in-Ok.ensures.told
