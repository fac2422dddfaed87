use Rattle.js_grammar.proofs.CoreLexed.{core_lexemes}
use Rattle.js_grammar.proofs.grammar_laws.law_of_core_lexemes.Goals as goal

pub returns : goal.returns
returns c = core_lexemes
