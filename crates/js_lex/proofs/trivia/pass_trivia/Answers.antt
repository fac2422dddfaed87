use Rattle.js_lex.proofs.Passing.{attached_all}
use Rattle.js_lex.proofs.trivia.pass_trivia.Goals as goal

pub returns-clause-ok : goal.returns-clause-ok
returns-clause-ok c = attached_all _ _ c.in_ok-trivia.trivia.end c.len-first_comment.ensures c.in_ok-trivia.ensures.ok c.attach.ensures
