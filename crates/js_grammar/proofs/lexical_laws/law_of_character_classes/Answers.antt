use Rattle.js_grammar.proofs.CharacterLemmas.{character_classes}
use Rattle.js_grammar.proofs.lexical_laws.law_of_character_classes.Goals as goal

pub returns : goal.returns
returns c = character_classes
