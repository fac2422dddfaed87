use Rattle.js_grammar.proofs.CoreValid.{core_validity}
use Rattle.js_grammar.proofs.grammar_laws.law_core.Goals as goal

pub returns : goal.returns
returns c = λ text goal o u s e. core_validity goal o u s e
