use Rattle.js_cursor.proofs.Rereading.{sign_was_given_seen, brace_may, template_seen}
use Rattle.js_cursor.proofs.parser.ParserImpl.re_lex_template_tail.Goals as goal

pub re_lex_template_tail-requires-clause-given : goal.re_lex_template_tail-requires-clause-given
re_lex_template_tail-requires-clause-given g c = sign_was_given_seen c.self.view_is c.requires.at (brace_may _ c.requires.kind)

pub returns : goal.returns
returns g c = template_seen c.self.view_is c.requires.at c.requires.kind c.in_ok-self-inside.ensures.ok
