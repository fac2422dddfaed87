use Rattle.js_grammar.proofs.CoreOmission.{core_expressions, core_directives}
use Rattle.js_grammar.proofs.grammar_laws.law_of_core_omission.Goals as goal

pub returns : goal.returns
returns c = record { expressions = core_expressions; directives = core_directives }
