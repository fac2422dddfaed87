use Rattle.std.proofs.Common.{sym, ◌∙◌}
use Rattle.js_lex.proofs.TriviaLemmas.{plain_byte}
use Rattle.js_lex.proofs.trivia.plain_blank_at.Goals as goal

pub returns-in-Some : goal.returns-in-Some
returns-in-Some c = plain_byte c.ends_line.result c.in-Some.ensures (sym c.is_plain_blank.ensures ∙ c.if-is_plain_blank.true) c.ends_line.ensures
