use Rattle.js_cursor.proofs.Rereading.{sign_was_given_seen, slash_may, regular_expression_seen}
use Rattle.js_cursor.proofs.parser.ParserImpl.re_lex_regex.Goals as goal

pub re_lex_regex-requires-clause-given : goal.re_lex_regex-requires-clause-given
re_lex_regex-requires-clause-given g c = sign_was_given_seen c.self.view_is c.requires.at (slash_may _ c.requires.kind)

pub returns : goal.returns
returns g c = regular_expression_seen c.self.view_is c.requires.at c.requires.kind c.in_ok-token.ensures.ok
