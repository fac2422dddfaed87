use Rattle.std.proofs.Common.{subst, sym, refl}
use Rattle.js_lex.specs.TriviaPassed.{IsPiece}
use Rattle.js_lex.proofs.TriviaLemmas.{slashes_piece, closed_piece, slash_there, block_there}
use Rattle.js_lex.proofs.trivia.comment_at.Goals as goal

pub returns-then-goes_on : goal.returns-then-goes_on
returns-then-goes_on c = λ first. subst (IsPiece first c.args.text.now c.args.at) (sym c.line_comment.ensures) (slashes_piece (c.if-goes_on.ensures.word refl) c.line_end.ensures first)

pub returns-then-not-goes_on : goal.returns-then-not-goes_on
returns-then-not-goes_on c = slash_there c.requires.slash c.if-goes_on.ensures.is c.if-not-goes_on.ensures.is

pub returns-in-Some : goal.returns-in-Some
returns-in-Some c = λ first. subst (IsPiece first c.args.text.now c.args.at) (sym c.block_comment.ensures) (closed_piece (c.if-not-goes_on.ensures.word refl) c.in-Some.ensures first)

pub returns-in-None : goal.returns-in-None
returns-in-None c = block_there (c.if-not-goes_on.ensures.word refl) c.in-None.ensures
