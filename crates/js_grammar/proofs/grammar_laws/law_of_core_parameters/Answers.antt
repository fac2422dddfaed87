use Rattle.js_grammar.proofs.CoreValid.{core_parameters}
use Rattle.js_grammar.proofs.grammar_laws.law_of_core_parameters.Goals as goal

pub returns : goal.returns
returns c = core_parameters
