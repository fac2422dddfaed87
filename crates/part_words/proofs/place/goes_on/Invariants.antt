use Rattle.std.proofs.Common.{◌≡◌, take, drop}
use Rattle.js_grammar.specs.CoreTexts.{starts}
use Rattle.js_grammar.specs.LexicalFaults.{behind}
use Rattle.part_words.specs.Places.{Word}
use Rattle.part_words.proofs.place.goes_on.Given as goal

-- those so far stand there, and the others decide
abbrev pub invariant-loop-character : goal.invariant-loop-character
invariant-loop-character l = Word l.text l.at l.end (take l.character-index l.characters) × (starts l.characters (behind l.text l.at) ≡ starts (drop l.character-index l.characters) (behind l.text l.end))
