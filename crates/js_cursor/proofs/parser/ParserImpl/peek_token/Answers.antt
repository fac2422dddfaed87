use Rattle.js_cursor.proofs.Rereading.{peeks_seen}
use Rattle.js_cursor.proofs.parser.ParserImpl.peek_token.Goals as goal

pub returns-clause-answer : goal.returns-clause-answer
returns-clause-answer g c = peeks_seen c.self.view_is c.in_ok-peek_token.ensures.ok c.in_ok-peek_token.ensures.only
