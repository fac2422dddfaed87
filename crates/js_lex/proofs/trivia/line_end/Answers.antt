use Rattle.std.proofs.Common.{sym, ◌∙◌}
use Rattle.part_words.proofs.Places.{then}
use Rattle.js_lex.proofs.TriviaLemmas.{line_more, line_on}
use Rattle.js_lex.proofs.trivia.line_end.Goals as goal

pub line-preserved : goal.line-preserved
line-preserved c = (_, then c.line.invariant.1 c.in-Some.ensures, line_more c.line.invariant.0 c.in-Some.next.value c.line.invariant.2 (sym c.is_line_terminator.ensures ∙ c.if-is_line_terminator.false))

pub line-preserved-then-stays_on_line : goal.line-preserved-then-stays_on_line
line-preserved-then-stays_on_line c = let i = c.line.invariant in line_on i.0 i.1 i.2 (c.stays_on_line.ensures c.if-stays_on_line.true)
