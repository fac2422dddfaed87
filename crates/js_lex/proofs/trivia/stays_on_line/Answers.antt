use Rattle.std.proofs.Common.{sym, ◌∙◌}
use Rattle.part_words.proofs.js_grammar.LongestLemmas.{not-true}
use Rattle.js_lex.proofs.TriviaLemmas.{on_line}
use Rattle.js_lex.proofs.trivia.stays_on_line.Goals as goal

pub returns-in-Some : goal.returns-in-Some
returns-in-Some c = λ t. on_line c.in-Some.ensures c.class_of.ensures (sym c.may_end_line.ensures ∙ not-true _ t)
