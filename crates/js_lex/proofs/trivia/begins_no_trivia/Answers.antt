use Rattle.std.proofs.Common.{sym, ◌∙◌, subst, ◌≡◌, List, ℕ, true}
use Rattle.part_words.specs.js_grammar.Longest.{none_begins}
use Rattle.part_words.specs.js_grammar.Trivia.{is_trivia_piece}
use Rattle.part_words.proofs.js_grammar.LongestLemmas.{not-true}
use Rattle.js_lex.proofs.TriviaLemmas.{no_trivia, none_at_end}
use Rattle.js_lex.proofs.trivia.begins_no_trivia.Goals as goal

pub returns-in-Some : goal.returns-in-Some
returns-in-Some c = λ t first. no_trivia c.in-Some.ensures c.class_of.ensures (sym c.may_begin_trivia.ensures ∙ not-true _ t) first

pub returns-in-None : goal.returns-in-None
returns-in-None c = λ t first. subst (λ (v : List ℕ). none_begins (is_trivia_piece first) v ≡ true) (sym c.in-None.ensures) (none_at_end first)
