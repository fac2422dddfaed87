use Rattle.std.proofs.Common.{sym, ◌∙◌}
use Rattle.part_words.proofs.js_grammar.LongestLemmas.{not-true}
use Rattle.js_lex.proofs.TriviaLemmas.{in_comment}
use Rattle.js_lex.proofs.trivia.stays_in_comment.Goals as goal

pub returns-in-Some : goal.returns-in-Some
returns-in-Some c = λ t. in_comment c.in-Some.ensures c.class_of.ensures (sym c.may_end_comment.ensures ∙ not-true _ t)
