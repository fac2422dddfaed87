use Rattle.std.proofs.Common.{subst, sym, refl, true}
use Rattle.js_lex.specs.TriviaPassed.{IsPiece}
use Rattle.std.proofs.lemmas.Bool.{and_left, and_right}
use Rattle.js_lex.proofs.TriviaLemmas.{close_piece, minus_there}
use Rattle.js_lex.proofs.trivia.html_close_at.Goals as goal

pub returns-then-not-is_first : goal.returns-then-not-is_first
returns-then-not-is_first c = minus_there c.requires.minus c.args.is_first (and_left c.args.is_first _ c.if-not-is_first.true)

pub returns-then-goes_on : goal.returns-then-goes_on
returns-then-goes_on c = subst (λ first. IsPiece first c.args.text.now c.args.at c.line_comment.result) (sym c.if-not-is_first.false) (subst (IsPiece true c.args.text.now c.args.at) (sym c.line_comment.ensures) (close_piece (c.if-goes_on.ensures.word refl) c.line_end.ensures))

pub returns-else-goes_on : goal.returns-else-goes_on
returns-else-goes_on c = minus_there c.requires.minus c.args.is_first (and_right c.args.is_first _ (sym c.if-goes_on.ensures.is))
