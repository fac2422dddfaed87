use Rattle.js_lex.proofs.TriviaLemmas.{space_byte}
use Rattle.js_lex.proofs.trivia.is_space_at.Goals as goal

pub returns-in-Some : goal.returns-in-Some
returns-in-Some c = λ t. space_byte c.in-Some.ensures t
