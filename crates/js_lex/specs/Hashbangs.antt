-- Where the opening of a hashbang comment ends (ECMA-262, 12.5).
use Rattle.std.specs.Prelude.{ℕ, ◌≡◌, List, ◌∷◌, Option, MatchOption, codes}
use Rattle.part_words.specs.js_grammar.LexicalFaults.{behind}
use Rattle.part_words.specs.Places.{Word}

-- the place behind the `#!` with which the text begins, none where it doesn't
abbrev pub OpeningEnds : List ℕ → Option ℕ → Type 0
OpeningEnds text r = MatchOption r ((rest : List ℕ) → behind text 0 ≡ 35 ∷ 33 ∷ rest → ⊥) (λ j. Word text 0 j (codes "#!"))
