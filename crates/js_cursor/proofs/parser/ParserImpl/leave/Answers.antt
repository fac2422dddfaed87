use Rattle.js_cursor.proofs.Returning.{left_seen}
use Rattle.js_cursor.proofs.parser.ParserImpl.leave.Goals as goal

pub returns : goal.returns
returns g c = left_seen c.self.view_is c.requires.at _ c.requires.entered
