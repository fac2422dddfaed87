-- Places of a text, in bytes, and the characters between two of them.
use Rattle.std.specs.Prelude.{ℕ, ◌+◌, ◌≡◌, ◌<◌, ◌≤◌, Bool, true, false, List, [], ◌∷◌, ◌++◌, Option, Some, None, IsCharBoundary}
use Rattle.std.specs.Char.{len_utf8, is_digit}
use Rattle.js_grammar.specs.Characters.{width, begins}
use Rattle.js_grammar.specs.LexicalFaults.{behind}

-- The characters w stand from the place i up to the place j.
pub record Word (text : List ℕ) (i j : ℕ) (w : List ℕ) : Type 0 where
  pub boundary : IsCharBoundary text j
  pub splits : behind text i ≡ w ++ behind text j
  pub end : j ≡ i + width w

-- a character above ASCII stands at the place
pub record High (text : List ℕ) (i : ℕ) : Type 0 where
  pub character : ℕ
  pub high : 128 ≤ character
  pub word : Word text i (i + len_utf8 character) (character ∷ [])

-- The first byte from a place on tells the character, where it is ASCII; no byte is there at the end of the text.
pub record Peeks (text : List ℕ) (i b : ℕ) : Type 0 where
  pub within : i < Rattle.std.specs.Prelude.length text
  pub ascii : b < 128 → Word text i (i + 1) (b ∷ [])
  pub high : 128 ≤ b → High text i

abbrev pub PeeksAt : List ℕ → ℕ → Option ℕ → Type 0
PeeksAt text i None = behind text i ≡ []
PeeksAt text i (Some b) = Peeks text i b

-- the character at a place, none at the end of the text
abbrev pub ReadsAt : List ℕ → ℕ → Option ℕ → Type 0
ReadsAt text i None = behind text i ≡ []
ReadsAt text i (Some c) = Word text i (i + len_utf8 c) (c ∷ [])

-- a digit of a radix
abbrev pub in_radix : ℕ → ℕ → Bool
in_radix radix c = is_digit c radix

-- whether a character that passes stands at a place, and there it is
abbrev pub Finds : (ℕ → Bool) → List ℕ → ℕ → Bool → Type 0
Finds p text i true = (c : ℕ) × Word text i (i + 1) (c ∷ []) × (p c ≡ true)
Finds p text i false = begins p (behind text i) ≡ false
