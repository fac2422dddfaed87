use Rattle.js_cursor.proofs.Keeping.{kept_seen}
use Rattle.js_cursor.proofs.parser.ParserImpl.error.Goals as goal

pub returns : goal.returns
returns g c = kept_seen c.self.view_is c.requires.at c.requires.mark c.in_ok-push.ensures.ok
