use Rattle.std.proofs.Common.{length, ◌-◌, List, ℕ, ◌≡◌, ◌++◌, false}
use Rattle.part_words.specs.js_grammar.Trivia.{closes_comment}
use Rattle.part_words.specs.js_grammar.Characters.{has_line_terminator}
use Rattle.part_words.specs.Places.{Word}
use Rattle.js_lex.proofs.trivia.block_comment_end.Given as goal

-- what closes the comment is known by the last character alone
abbrev pub invariant-block : goal.invariant-block
invariant-block l = (w : List ℕ) × Word l.text l.at l.end w × ((v : List ℕ) → closes_comment false (w ++ v) ≡ closes_comment l.star v) × (l.has_newline ≡ has_line_terminator w)

abbrev pub decreases-block : goal.decreases-block
decreases-block l = length l.text - l.end
