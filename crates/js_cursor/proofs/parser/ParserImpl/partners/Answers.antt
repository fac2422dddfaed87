use Rattle.js_cursor.proofs.Standing.{related_seen}
use Rattle.js_cursor.proofs.parser.ParserImpl.partners.Goals as goal

pub returns-clause-related : goal.returns-clause-related
returns-clause-related g c = related_seen c.self.view_is c.requires c.in_ok-partners.ensures
