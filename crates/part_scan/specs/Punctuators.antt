-- Punctuators at a place.
use Rattle.std.specs.Prelude.{ℕ, ◌≡◌, ◌+◌, ◌⊎◌, ◌==◌, Bool, true, false, not, ◌&&◌, ◌||◌, List, [], ◌∷◌, ◌++◌, Option, Some, None, bytes_eq, codes, IsTrue, MatchOption}
use Rattle.std.specs.List.{find}
use Rattle.js_base.specs.declared.kind.Kind.{Kind}
use Rattle.js_base.specs.Texts.{text_of, punctuators}
use Rattle.js_base.specs.part_text.Characters.{one_of, is_decimal}
use Rattle.part_words.specs.js_grammar.Characters.{begins}
use Rattle.part_words.specs.js_grammar.Longest.{none_begins}
use Rattle.part_words.specs.js_grammar.Trivia.{is_single_line_comment, is_multi_line_comment}
use Rattle.part_words.specs.js_grammar.Lexemes.{a_punctuator, opening, may_precede, punctuator_kind}
use Rattle.part_words.specs.js_grammar.LexicalFaults.{behind}
use Rattle.part_scan.specs.declared.punctuator.Punctuator.{Punctuator}
use Rattle.part_words.specs.Places.{Word}
use Rattle.part_words.specs.ByteClasses.{is_lone, ends_sign}

-- the first character is one that only punctuators begin with
abbrev pub OpensPunctuator : List ℕ → Type 0
OpensPunctuator [] = ⊥
OpensPunctuator (c ∷ cs) = opening c (begins is_decimal cs) ≡ a_punctuator

-- no whole comment stands there
abbrev pub begins_no_comment : List ℕ → Bool
begins_no_comment = none_begins (λ w rest. is_single_line_comment w || is_multi_line_comment w)

-- no comment is begun there
abbrev pub opens_no_comment : List ℕ → Bool
opens_no_comment [] = true
opens_no_comment (c ∷ cs) = not ((c == 47) && begins (one_of (codes "*/")) cs)

-- the punctuator that is written so
abbrev pub punctuator_of : List ℕ → Option Kind
punctuator_of w = find (λ k. bytes_eq (text_of k) w) punctuators

-- neither a dot nor a slash begins the characters, and `?.` doesn't
abbrev pub is_free : List ℕ → Bool
is_free [] = false
is_free (c ∷ cs) = not (one_of (46 ∷ 47 ∷ []) c || (one_of (63 ∷ []) c && begins (one_of (46 ∷ [])) cs))

-- such a character stands at the place, or none
abbrev pub EndsSign : List ℕ → ℕ → Type 0
EndsSign text i = (c : ℕ) (cs : List ℕ) → behind text i ≡ c ∷ cs → ends_sign c ≡ true

-- a punctuator of the one character at the place i is the longest one there
abbrev pub StandsAlone : List ℕ → ℕ → ℕ → Type 0
StandsAlone text i c = (is_lone c ≡ true) ⊎ EndsSign text (i + 1)

-- the longest punctuator at the place i
pub record IsPunctuator (text : List ℕ) (i : ℕ) (p : Punctuator) : Type 0 where
  pub first : ℕ
  pub others : List ℕ
  pub stands : Word text i p.end (first ∷ others)
  pub kind : punctuator_of (first ∷ others) ≡ Some p.kind
  pub precedes : IsTrue (may_precede p.kind (behind text p.end))
  pub never : (c : ℕ) (x more : List ℕ) → behind text p.end ≡ c ∷ x ++ more → punctuator_kind (first ∷ others ++ c ∷ x) more ≡ None

-- no punctuator begins with the first character
abbrev pub BeginsNone : List ℕ → Type 0
BeginsNone [] = ⊥
BeginsNone (c ∷ cs) = punctuator_of (c ∷ []) ≡ None

pub record ReadsPunctuator (text : List ℕ) (i : ℕ) (result : Option Punctuator) : Type 0 where
  pub is : MatchOption result (BeginsNone (behind text i)) (λ p. IsPunctuator text i p)
