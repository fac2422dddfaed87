use Rattle.std.proofs.Common.{subst, sym, refl}
use Rattle.js_lex.specs.TriviaPassed.{IsPiece}
use Rattle.js_lex.proofs.TriviaLemmas.{open_piece, less_there}
use Rattle.js_lex.proofs.trivia.html_open_at.Goals as goal

pub returns-then-goes_on : goal.returns-then-goes_on
returns-then-goes_on c = λ first. subst (IsPiece first c.args.text.now c.args.at) (sym c.line_comment.ensures) (open_piece (c.if-goes_on.ensures.word refl) c.line_end.ensures first)

pub returns-else-goes_on : goal.returns-else-goes_on
returns-else-goes_on c = less_there c.requires.less c.if-goes_on.ensures.is
