use Rattle.js_grammar.specs.Lexed.{NextLexeme}
use Rattle.js_grammar.proofs.Parts.{joins}
use Rattle.js_grammar.proofs.lexical_laws.law_of_joining.Goals as goal

pub returns : goal.returns
returns c = λ p text s ls ms h k. joins (NextLexeme p text) s ls ms h k
