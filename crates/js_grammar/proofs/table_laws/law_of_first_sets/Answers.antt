use Rattle.js_grammar.proofs.FirstClaims.{begins}
use Rattle.js_grammar.proofs.table_laws.law_of_first_sets.Goals as goal

pub returns : goal.returns
returns c = λ n t i j ls rest d. begins n t d
