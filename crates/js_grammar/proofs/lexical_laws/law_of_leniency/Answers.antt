use Rattle.js_grammar.proofs.Parts.{lenient}
use Rattle.js_grammar.proofs.lexical_laws.law_of_leniency.Goals as goal

pub returns : goal.returns
returns c = λ p text s y h. lenient h
