use Rattle.std.proofs.Common.{List, ℕ, string_bytes, Global, sym, subst, ◌∙◌}
use Rattle.std.proofs.lemmas.Slice.Eq.{bytes_eq-Decides}
use Rattle.js_grammar.specs.CommandLine.{goal_word}
use Rattle.js_run.specs.Words.{joined_word, Names, NamesGoal}
use Rattle.js_run.proofs.Two.{map_one, map_two}
use Rattle.js_run.proofs.WordOrders.{one_names, two_name}
use Rattle.js_run.proofs.words.goal_of_words.Goals as goal

pub returns-then-words-eq1 : goal.returns-then-words-eq1
returns-then-words-eq1 c =
    let one = map_one (string_bytes {Z = Global}) c.args.words.now c.index-words-0.result c.if-words-eq1.true c.index-words-0.is in
    subst (λ (ws : List (List ℕ)). NamesGoal ws c.joined_goal.result) (sym one) (one_names (string_bytes c.index-words-0.result) c.joined_goal.result (subst (λ (w : List ℕ). Names joined_word w c.joined_goal.result) c.as_str.ensures.value c.joined_goal.ensures))

pub returns-then-eq : goal.returns-then-eq
returns-then-eq c =
    let two = map_two (string_bytes {Z = Global}) c.args.words.now c.index-words-0-then-words-eq2.result c.index-words-1.result c.if-words-eq2.true c.index-words-0-then-words-eq2.is c.index-words-1.is in
    subst (λ (ws : List (List ℕ)). NamesGoal ws c.named_goal.result) (sym two) (two_name (string_bytes c.index-words-0-then-words-eq2.result) (string_bytes c.index-words-1.result) c.named_goal.result (sym c.as_str-then-words-eq2.ensures.value ∙ (bytes_eq-Decides _ _).0 (sym c.eq.ensures ∙ c.if-eq.true)) (subst (λ (w : List ℕ). Names goal_word w c.named_goal.result) c.as_str-then-eq.ensures.value c.named_goal.ensures))
