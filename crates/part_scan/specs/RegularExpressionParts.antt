-- Where the pattern and the flags of a regular expression end (ECMA-262, 12.9.5).
use Rattle.std.specs.Prelude.{ℕ, ◌≡◌, Bool, true, false, not, ◌&&◌, ◌||◌, ◌==◌, List, [], ◌∷◌, codes, ◌++◌, Option, Some, None, Result, MatchResult, IsTrue}
use Rattle.std.specs.Str.{byte}
use Rattle.js_base.specs.declared.kind.Kind.TheVariants.{RegExp}
use Rattle.js_base.specs.part_text.Characters.{one_of, is_line_terminator}
use Rattle.part_words.specs.js_grammar.Characters.{begins}
use Rattle.part_words.specs.js_grammar.Trivia.{within_line}
use Rattle.part_words.specs.js_grammar.LexicalFaults.{behind}
use Rattle.part_words.specs.js_grammar.Lexemes.{regular_expression}
use Rattle.part_words.specs.js_grammar.RegularExpressions.{behind_pattern, flags}
use Rattle.part_scan.specs.declared.regular_expression.RegularExpression.{RegularExpression}
use Rattle.part_scan.specs.declared.regular_expression.Flag.{Flag}
use Rattle.part_scan.specs.declared.regular_expression.Seen.{Seen}
use Rattle.part_scan.specs.declared.regular_expression.Inside.{Inside}
use Rattle.part_scan.specs.declared.regular_expression.Step.{Step}
use Rattle.part_scan.specs.declared.regular_expression.Step.TheVariants.{On, Ends, LineEnds}
use Rattle.part_words.specs.Places.{Word}
use Rattle.part_words.specs.Scans.{IsScanned}

-- whether the characters behind an unescaped one stand in brackets
abbrev pub ends_bracketed : Bool → ℕ → Bool
ends_bracketed brackets c = (brackets && not (c == 93)) || (c == 91)

-- what a character does to the pattern, whatever stands behind it
abbrev pub Steps : Inside → ℕ → Step → Type 0
Steps b c (On s) = ((v : List ℕ) → behind_pattern b.brackets b.escaped (c ∷ v) ≡ behind_pattern s.brackets s.escaped v) × (is_line_terminator c ≡ false)
Steps b c Ends = (v : List ℕ) → behind_pattern b.brackets b.escaped (c ∷ v) ≡ Some v
Steps b c LineEnds = is_line_terminator c ≡ true

-- a pattern stands between the places, with the slash that ends it
pub record Pattern (text : List ℕ) (i j : ℕ) : Type 0 where
  pub word : List ℕ
  pub stands : Word text i j word
  pub ended : (v : List ℕ) → behind_pattern false false (word ++ v) ≡ Some v

-- nothing ends a pattern that begins at the place i, and the line ends at the place j
pub record OpenPattern (text : List ℕ) (i j : ℕ) : Type 0 where
  pub word : List ℕ
  pub stands : Word text i j word
  pub within : IsTrue (within_line word)
  pub line_ends : begins (λ c. not (is_line_terminator c)) (behind text j) ≡ false
  pub endless : behind_pattern false false (behind text i) ≡ None

abbrev pub PatternEnds : List ℕ → ℕ → Result ℕ ℕ → Type 0
PatternEnds text i r = MatchResult r (λ j. Pattern text i j) (λ j. OpenPattern text i j)

-- A regular expression stands at the place, and its flags from the end of the pattern on.
pub record IsRegularExpression (text : List ℕ) (i : ℕ) (r : RegularExpression) : Type 0 where
  pub scanned : IsScanned regular_expression text i (record { kind = RegExp; end = r.end; escaped = false; has_separator = false })
  pub flags_word : List ℕ
  pub has_flags : flags scanned.word ≡ Some flags_word
  pub flags_stand : Word text r.pattern_end r.end flags_word

-- which of the eight flags stand among these
pub record SeenIn (seen : Seen) (before : List ℕ) : Type 0 where
  pub d : seen.d ≡ one_of before (byte "d")
  pub g : seen.g ≡ one_of before (byte "g")
  pub i : seen.i ≡ one_of before (byte "i")
  pub m : seen.m ≡ one_of before (byte "m")
  pub s : seen.s ≡ one_of before (byte "s")
  pub u : seen.u ≡ one_of before (byte "u")
  pub v : seen.v ≡ one_of before (byte "v")
  pub y : seen.y ≡ one_of before (byte "y")

-- whether a flag behind others is wrong, and which are seen with it
abbrev pub TellsFlag : Seen → ℕ → Flag → Type 0
TellsFlag seen flag f = (before : List ℕ) → SeenIn seen before → (f.is_wrong ≡ (not (one_of (codes "dgimsuvy") flag) || one_of before flag)) × SeenIn f.seen (before ++ flag ∷ [])

-- a flag stands at the place i
pub record IsFlag (text : List ℕ) (i : ℕ) (seen : Seen) (f : Flag) : Type 0 where
  pub flag : ℕ
  pub stands : Word text i f.end (flag ∷ [])
  pub tells : TellsFlag seen flag f

-- the flag at the place i, none at the end of the text
abbrev pub FlagAt : List ℕ → ℕ → Seen → Option Flag → Type 0
FlagAt text i seen None = behind text i ≡ []
FlagAt text i seen (Some f) = IsFlag text i seen f
