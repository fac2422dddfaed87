use Rattle.std.proofs.Common.{length, ◌-◌}
use Rattle.js_lex.proofs.Passing.{Blanks}
use Rattle.js_lex.proofs.trivia.pass_blanks.Given as goal

abbrev pub invariant-blanks : goal.invariant-blanks
invariant-blanks l = Blanks l.text l.at l.end l.has_newline

abbrev pub decreases-blanks : goal.decreases-blanks
decreases-blanks l = length l.text - l.end
