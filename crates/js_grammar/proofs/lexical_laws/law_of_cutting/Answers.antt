use Rattle.js_grammar.specs.Lexed.{NextLexeme}
use Rattle.js_grammar.proofs.Parts.{cuts}
use Rattle.js_grammar.proofs.lexical_laws.law_of_cutting.Goals as goal

pub returns : goal.returns
returns c = λ p text s ls ms h. cuts (NextLexeme p text) s ls ms h
