use Rattle.js_lex.proofs.Keeping.{extend_on, on_err}
use Rattle.js_lex.proofs.trivia.keep_piece.Goals as goal

pub returns-in_err-keep_comment-clause-err : goal.returns-in_err-keep_comment-clause-err
returns-in_err-keep_comment-clause-err c = on_err c.from_residual.result c.in_err-keep_comment.ensures.err

pub returns-in_err-keep_blank-clause-err : goal.returns-in_err-keep_blank-clause-err
returns-in_err-keep_blank-clause-err c = on_err c.from_residual-in_err-keep_blank.result (extend_on c.in_ok-keep_comment.ensures.ok c.in_err-keep_blank.ensures.err)
