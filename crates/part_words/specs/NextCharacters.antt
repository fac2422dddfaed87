-- One character at a place of a text.
use Rattle.std.specs.Prelude.{ℕ, ◌≡◌, List, [], ◌∷◌, Option, Some, None}
use Rattle.js_grammar.specs.LexicalFaults.{behind}
use Rattle.part_words.specs.declared.character.Character.{Character}
use Rattle.part_words.specs.Places.{Word}

-- the character stands at the place
abbrev pub IsNext : List ℕ → ℕ → Character → Type 0
IsNext text i c = Word text i c.end (c.value ∷ [])

-- the character at a place, none at the end of the text
abbrev pub NextAt : List ℕ → ℕ → Option Character → Type 0
NextAt text i None = behind text i ≡ []
NextAt text i (Some c) = IsNext text i c
