use Rattle.std.proofs.Common.{length, ◌-◌, List, ℕ}
use Rattle.std.specs.Prelude.{IsTrue}
use Rattle.part_words.specs.js_grammar.Trivia.{within_line}
use Rattle.part_words.specs.Places.{Word}
use Rattle.js_lex.proofs.trivia.line_end.Given as goal

abbrev pub invariant-line : goal.invariant-line
invariant-line l = (w : List ℕ) × Word l.text l.at l.end w × IsTrue (within_line w)

abbrev pub decreases-line : goal.decreases-line
decreases-line l = length l.text - l.end
