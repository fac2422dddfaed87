use Rattle.js_grammar.proofs.BracketClaims.{matched}
use Rattle.js_grammar.proofs.table_laws.law_of_brackets.Goals as goal

pub returns : goal.returns
returns c = λ n t i j ls rest d open_ones. matched n t d open_ones
