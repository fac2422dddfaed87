use Rattle.js_grammar.proofs.CoreValid.{core_in_whole}
use Rattle.js_grammar.proofs.grammar_laws.law_of_core_derivations.Goals as goal

pub returns : goal.returns
returns c = core_in_whole
