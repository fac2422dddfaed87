use Rattle.js_grammar.proofs.Choices.{choice}
use Rattle.js_grammar.proofs.lexical_laws.law_of_choice.Goals as goal

pub returns : goal.returns
returns c = λ p q text s y z h k. choice p q text s y z h k
