use Rattle.js_grammar.proofs.Loose.{strict_is_loose}
use Rattle.js_grammar.proofs.table_laws.law_of_loose_forms.Goals as goal

pub returns : goal.returns
returns c = λ n t i j ls rest d. strict_is_loose n t d
