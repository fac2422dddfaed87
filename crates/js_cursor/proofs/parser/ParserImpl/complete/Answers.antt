use Rattle.js_cursor.proofs.Moving.{sign_given_seen, sign_is, completed_seen, whole_already}
use Rattle.js_cursor.proofs.parser.ParserImpl.complete.Goals as goal

pub re_lex_right_angle-requires-clause-given : goal.re_lex_right_angle-requires-clause-given
re_lex_right_angle-requires-clause-given g c = sign_given_seen c.self.view_is c.requires c.if-self.true

pub re_lex_right_angle-requires-clause-kind : goal.re_lex_right_angle-requires-clause-kind
re_lex_right_angle-requires-clause-kind g c = sign_is c.self.view_is c.requires c.if-self.true

pub returns-in_ok-self-inside : goal.returns-in_ok-self-inside
returns-in_ok-self-inside g c = completed_seen c.self.view_is c.requires c.if-self.true c.in_ok-self-inside.ensures.ok

pub returns-else-self : goal.returns-else-self
returns-else-self g c = whole_already c.self.view_is c.requires c.if-self.false
