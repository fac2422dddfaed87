-- What a scan of a number, or of what is left of one, answers at a place.
use Rattle.std.specs.Prelude.{ℕ, ◌≡◌, ◌≤◌, Bool, true, false, ◌&&◌, ◌||◌, List, [], ◌∷◌, ◌++◌, ◌==◌, IsCharBoundary, IsTrue, is_some, Some, None, Result, MatchResult}
use Rattle.std.specs.List.{list_all}
use Rattle.js_base.specs.part_text.Characters.{is_decimal}
use Rattle.part_words.specs.js_grammar.Characters.{begins, is_identifier_start}
use Rattle.part_words.specs.js_grammar.Numbers.{Rest, digits, legacy, has_separator, stops_number}
use Rattle.part_words.specs.js_grammar.LexicalFaults.{behind}
use Rattle.part_scan.specs.declared.number.Number.{Number}
use Rattle.part_scan.specs.declared.number.Digits.{Digits}
use Rattle.part_scan.specs.declared.number.Legacy.{Legacy}
use Rattle.part_words.specs.Places.{Word, in_radix}

-- a digit, or a dot and a digit
abbrev pub begins_number : List ℕ → Bool
begins_number [] = false
begins_number (c ∷ cs) = is_decimal c || ((c == 46) && begins is_decimal cs)

-- a character before which no number stops
abbrev pub goes_on : ℕ → Bool
goes_on c = is_decimal c || (is_identifier_start c || (c == 92))

-- Of the fronts of the characters that are the rest of a number, the longest doesn't stop.
abbrev pub Unstopped : Rest → List ℕ → Type 0
Unstopped r cs = (w more : List ℕ) → cs ≡ w ++ more → IsTrue (is_some (r w)) → ((c : ℕ) (x others : List ℕ) → more ≡ c ∷ x ++ others → r (w ++ c ∷ x) ≡ None) → stops_number more ≡ true → ⊥

-- The longest rest of a number at the place i, and whether a separator is in it or stood before.
pub record IsRest (r : Rest) (before : Bool) (text : List ℕ) (i : ℕ) (n : Number) : Type 0 where
  pub word : List ℕ
  pub stands : Word text i n.end word
  pub kind : r word ≡ Some n.kind
  pub never : (c : ℕ) (x others : List ℕ) → behind text n.end ≡ c ∷ x ++ others → r (word ++ c ∷ x) ≡ None
  pub separated : n.has_separator ≡ (before || has_separator word)

-- none that stops
pub record IsBroken (r : Rest) (text : List ℕ) (i place : ℕ) : Type 0 where
  pub unstopped : Unstopped r (behind text i)
  pub boundary : IsCharBoundary text place
  pub ordered : i ≤ place

-- what a scan of the rest of a number answers at the place i
pub record Reads (r : Rest) (before : Bool) (text : List ℕ) (i : ℕ) (result : Result Number ℕ) : Type 0 where
  pub is : MatchResult result (λ n. IsRest r before text i n) (λ place. IsBroken r text i place)

-- Digits of a radix, and single separators behind digits, as far as they go on.
pub record AreDigits (radix : ℕ) (text : List ℕ) (i : ℕ) (n : Digits) : Type 0 where
  pub word : List ℕ
  pub stands : Word text i n.end word
  pub left : (r : Rest) (v : List ℕ) → digits (in_radix radix) r false (word ++ v) ≡ digits (in_radix radix) r n.complete v
  pub on : IsTrue (list_all goes_on word)
  pub separated : n.has_separator ≡ has_separator word
  pub end : begins (λ c. in_radix radix c || (n.complete && (c == 95))) (behind text n.end) ≡ false

-- decimal digits as far as they go on
pub record AreLegacy (text : List ℕ) (i : ℕ) (n : Legacy) : Type 0 where
  pub word : List ℕ
  pub stands : Word text i n.end word
  pub left : (v : List ℕ) → legacy false (word ++ v) ≡ legacy n.above v
  pub decimal : IsTrue (list_all is_decimal word)
  pub end : begins is_decimal (behind text n.end) ≡ false
