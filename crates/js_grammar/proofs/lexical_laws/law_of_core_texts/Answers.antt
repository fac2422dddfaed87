use Rattle.js_grammar.proofs.CoreLexed.{core_text}
use Rattle.js_grammar.proofs.lexical_laws.law_of_core_texts.Goals as goal

pub returns : goal.returns
returns c = λ text u s. core_text text u s
