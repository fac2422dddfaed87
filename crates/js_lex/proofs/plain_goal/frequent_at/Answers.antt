use Rattle.std.proofs.Common.{sym, ◌∙◌}
use Rattle.js_lex.proofs.TriviaLemmas.{letter_no_trivia, lone_no_trivia}
use Rattle.js_lex.proofs.plain_goal.frequent_at.Goals as goal

pub returns-then-is_letter-clause-no_trivia : goal.returns-then-is_letter-clause-no_trivia
returns-then-is_letter-clause-no_trivia c = letter_no_trivia c.ascii_name_at.result c.in_ok-byte.ensures c.class_of.ensures (sym c.is_letter.ensures ∙ c.if-is_letter.true)

pub returns-else-may_begin_comment-clause-no_trivia : goal.returns-else-may_begin_comment-clause-no_trivia
returns-else-may_begin_comment-clause-no_trivia c = lone_no_trivia c.lone_at.result c.in_ok-byte.ensures c.lone_at.ensures.written (sym c.may_begin_comment.ensures ∙ c.if-may_begin_comment.false)
