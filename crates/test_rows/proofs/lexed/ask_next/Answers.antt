use Rattle.std.proofs.Common.{sym, ◌∙◌}
use Rattle.js_lex.proofs.Given.{string_given}
use Rattle.test_rows.proofs.lexed.ask_next.Goals as goal

pub decode-requires-clause-string : goal.decode-requires-clause-string
decode-requires-clause-string g c = string_given c.args.lexer.now c.next_token.new.self c.in-Ok.token (sym c.kind-in-string.ensures ∙ c.in-Str.is) c.in-Ok.ensures.ok
