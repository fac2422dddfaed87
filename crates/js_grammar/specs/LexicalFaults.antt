-- Lexical faults: what stands at the span of each. Eight stop the lexemes; a wrong flag and an HTML-like comment in a module don't.
use Rattle.std.specs.Prelude.{ℕ, ◌+◌, ◌≡◌, ◌<◌, ◌⊎◌, Bool, true, false, not, ◌&&◌, ◌||◌, List, [], ◌∷◌, ◌++◌, ◌==◌, codes, chars, drop, IsTrue, is_some, Some, IsCharBoundary, bytes_eq}
use Rattle.std.specs.Str.{byte}
use Rattle.js_base.specs.declared.kind.Kind.TheVariants.{RegExp}
use Rattle.js_base.specs.declared.diagnostic.DiagnosticKind.{DiagnosticKind}
use Rattle.js_base.specs.declared.diagnostic.DiagnosticKind.TheVariants as fault
use Rattle.js_grammar.specs.Grammar.{Lexeme, Lexemes}
use Rattle.js_grammar.specs.Settings.{Goal}
use Rattle.js_base.specs.part_text.Characters.{one_of, is_decimal}
use Rattle.js_grammar.specs.Characters.{width, begins}
use Rattle.js_grammar.specs.Longest.{Class, longest, none_longer, none_begins, joined}
use Rattle.js_grammar.specs.Trivia.{after, within_line, is_html_comment, is_multi_line_comment}
use Rattle.js_base.specs.part_text.Escapes.{line_feeds}
use Rattle.js_grammar.specs.Names.{name_of}
use Rattle.js_grammar.specs.Numbers.{number_kind, stops_number}
use Rattle.js_base.specs.part_text.Decoding.{string_points}
use Rattle.js_grammar.specs.Strings.{nothing_left, closes_string}
use Rattle.js_grammar.specs.Templates.{template_kind, template_tail_kind}
use Rattle.js_grammar.specs.RegularExpressions.{flags}
use Rattle.js_grammar.specs.Lexemes.{lexemes_in, division, regular_expression}
use Rattle.js_grammar.specs.Lexed.{Lexes}
use Rattle.js_grammar.specs.Lexed.{Stands, NextLexeme, end_of, all_faults, in_module, passing_of}
use Rattle.js_grammar.specs.CoreTexts.{starts}

-- the characters from a place on
abbrev pub behind : List ℕ → ℕ → List ℕ
behind text i = chars (drop i text)

-- behind the place s stands trivia, and behind that, at the place i, a lexeme is due
pub record Due (text : List ℕ) (s i : ℕ) : Type 0 where
  pub pieces : List (List ℕ)
  pub stands : Stands text s pieces [] (behind text i)
  pub place : i ≡ s + width (joined pieces)

-- No lexeme begins with c, a hashbang comment left aside. It is none of those that have a fault of their own: a digit, a dot before a digit, a quote, a backquote, a slash, a backslash, a right brace, U+FFFD.
abbrev pub begins_nothing : ℕ → List ℕ → Bool
begins_nothing c cs = none_begins (lexemes_in division) (c ∷ cs) && not (is_decimal c || (one_of (codes "\"'`/\\}�") c || ((c == byte ".") && begins is_decimal cs)))

-- None of the characters ends a line, but directly behind a backslash. CR and CR LF count as LF here. `escaped`: a backslash that is none itself stands directly before.
abbrev pub lacks_line_end : Bool → List ℕ → Bool
lacks_line_end escaped [] = true
lacks_line_end escaped (c ∷ cs) = (escaped || not (c == byte "\n")) && lacks_line_end (not escaped && (c == byte "\\")) cs

-- a quote and characters that end no line: the beginning of a string, as far as it may go
abbrev pub is_open_string : Class
is_open_string [] rest = false
is_open_string (q ∷ cs) rest = one_of (codes "\"'") q && lacks_line_end false (line_feeds cs)

-- a quote and characters up to an equal one, whatever their escapes
abbrev pub is_closed_string : Class
is_closed_string [] rest = false
is_closed_string (q ∷ cs) rest = one_of (codes "\"'") q && closes_string q false (line_feeds cs)

-- behind the slash: characters of one line, of which the first is no star
abbrev pub is_open_pattern : List ℕ → Bool
is_open_pattern cs = within_line cs && not (begins (λ c. c == byte "*") cs)

-- a slash, and so on
abbrev pub is_open_regular_expression : Class
is_open_regular_expression w rest = after (codes "/") is_open_pattern w

-- a backquote or a right brace, and what stands behind it
abbrev pub is_open_part : Class
is_open_part w rest = begins (one_of (codes "`}")) w

-- a part that is ended
abbrev pub is_part : Class
is_part w rest = is_some (template_kind w) || is_some (template_tail_kind w)

-- `/*`, and what stands behind it
abbrev pub is_open_comment : Class
is_open_comment w rest = starts (codes "/*") w

-- a comment that is ended
abbrev pub is_comment : Class
is_comment w rest = is_multi_line_comment w

-- From the place on a form is opened that nothing ends. The span runs as far as the form might: to the end of its line, or of the text.
pub record Unterminated (opening closing : Class) (text : List ℕ) (from to : ℕ) : Type 0 where
  pub word : List ℕ
  pub rest : List ℕ
  pub here : behind text from ≡ word ++ rest
  pub opened : IsTrue (longest opening word rest)
  pub never : IsTrue (none_begins closing (word ++ rest))
  pub end : to ≡ from + width word

-- a number, and what stands behind it
abbrev pub is_number_word : Class
is_number_word w rest = is_some (number_kind w)

-- a digit, or a dot and a digit, where no number stands that stops (12.9.3)
pub record InvalidNumber (text : List ℕ) (from : ℕ) : Type 0 where
  pub first : ℕ
  pub others : List ℕ
  pub here : behind text from ≡ first ∷ others
  pub begun : IsTrue (is_decimal first || ((first == byte ".") && begins is_decimal others))
  pub none : (w rest : List ℕ) → first ∷ others ≡ w ++ rest → longest is_number_word w rest ≡ true → stops_number rest ≡ true → ⊥

-- a name
abbrev pub is_name_word : Class
is_name_word w rest = is_some (name_of w)

-- the inside of a string, each of its escapes well-formed
abbrev pub is_right_inside : Class
is_right_inside w rest = is_some (string_points w)

-- A backslash with which no name goes on, behind a name or where one begins, with `#` before it or not.
pub record InvalidNameEscape (text : List ℕ) (place from : ℕ) : Type 0 where
  pub mark : List ℕ
  pub name : List ℕ
  pub rest : List ℕ
  pub here : behind text place ≡ mark ++ (name ++ byte "\\" ∷ rest)
  pub marked : IsTrue (nothing_left mark || bytes_eq mark (codes "#"))
  pub named : IsTrue (nothing_left name || is_name_word name [])
  pub never : IsTrue (none_longer is_name_word name (byte "\\" ∷ rest))
  pub begin : from ≡ place + width mark + width name

-- a backslash in a string, with which no inside goes on
pub record InvalidStringEscape (text : List ℕ) (place from : ℕ) : Type 0 where
  pub quote : ℕ
  pub inside : List ℕ
  pub rest : List ℕ
  pub here : behind text place ≡ quote ∷ inside ++ byte "\\" ∷ rest
  pub opened : IsTrue (is_open_string (quote ∷ inside) (byte "\\" ∷ rest))
  pub unclosed : IsTrue (none_begins is_closed_string (quote ∷ inside))
  pub right : IsTrue (is_right_inside inside [])
  pub never : IsTrue (none_longer is_right_inside inside (byte "\\" ∷ rest))
  pub begin : from ≡ place + 1 + width inside

-- one character, at which no lexeme begins
pub record InvalidCharacter (text : List ℕ) (from to : ℕ) : Type 0 where
  pub character : ℕ
  pub rest : List ℕ
  pub here : behind text from ≡ character ∷ rest
  pub nothing : IsTrue (begins_nothing character rest)
  pub end : to ≡ from + width (character ∷ [])

-- U+FFFD, where a lexeme is due
pub record BinaryFile (text : List ℕ) (from to : ℕ) : Type 0 where
  pub rest : List ℕ
  pub here : behind text from ≡ 0xFFFD ∷ rest
  pub end : to ≡ from + width (codes "�")

-- behind the place s stands a regular expression with a flag that is none of the eight, or that stood before
pub record WrongFlag (text : List ℕ) (s from to : ℕ) : Type 0 where
  pub lexeme : Lexeme
  pub lex : NextLexeme all_faults text s lexeme
  pub is : lexeme.kind ≡ RegExp
  pub before : List ℕ
  pub flag : ℕ
  pub behind : List ℕ
  pub splits : flags lex.word ≡ Some (before ++ flag ∷ behind)
  pub wrong : IsTrue (not (one_of (codes "dgimsuvy") flag) || one_of before flag)
  pub end : lexeme.to ≡ to + width behind
  pub begin : to ≡ from + width (flag ∷ [])

-- an HTML-like comment in the trivia behind the place s
pub record HtmlComment (text : List ℕ) (s from : ℕ) : Type 0 where
  pub before : List (List ℕ)
  pub comment : List ℕ
  pub behind : List (List ℕ)
  pub rest : List ℕ
  pub stands : Stands text s (before ++ comment ∷ behind) [] rest
  pub is : IsTrue (is_html_comment comment)
  pub begin : from ≡ s + width (joined before)

-- What stands at the span of a fault that stops, where a lexeme is due at the place i; of other diagnostics nothing does.
abbrev pub Stopping : DiagnosticKind → List ℕ → ℕ → ℕ → ℕ → Type 0
Stopping fault.InvalidCharacter text i from to = (from ≡ i) × InvalidCharacter text i to
Stopping fault.BinaryFile text i from to = (from ≡ i) × BinaryFile text i to
Stopping fault.UnterminatedString text i from to = (from ≡ i) × Unterminated is_open_string is_closed_string text i to
Stopping fault.UnterminatedTemplate text i from to = (from ≡ i) × Unterminated is_open_part is_part text i to
Stopping fault.UnterminatedRegexp text i from to = (from ≡ i) × Unterminated is_open_regular_expression (lexemes_in regular_expression) text i to
Stopping fault.UnterminatedComment text i from to = (from ≡ i) × Unterminated is_open_comment is_comment text i to
Stopping fault.InvalidEscape text i from to = InvalidNameEscape text i from ⊎ InvalidStringEscape text i from
Stopping fault.InvalidNumber text i from to = (from ≡ i) × InvalidNumber text i
Stopping _ text i from to = ⊥

-- What stands at the span of a fault behind the place s, the end of a lexeme or the text's start; of a fault that is none of the lexemes nothing does.
abbrev pub Condition : DiagnosticKind → Goal → List ℕ → ℕ → ℕ → ℕ → Type 0
Condition fault.RegExpFlag goal text s from to = WrongFlag text s from to
Condition fault.HtmlCommentInModule goal text s from to = (passing_of goal ≡ in_module) × HtmlComment text s from
Condition kind goal text s from to = (i : ℕ) × Due text s i × Stopping kind text i from to

-- The fault lies at the span, which isn't empty, and begins and ends between characters.
pub record FaultyBehind (kind : DiagnosticKind) (goal : Goal) (text : List ℕ) (s from to : ℕ) : Type 0 where
  pub ordered : from < to
  pub begins_between : IsCharBoundary text from
  pub ends_between : IsCharBoundary text to
  pub condition : Condition kind goal text s from to

abbrev pub is_invalid_character : DiagnosticKind → Bool
is_invalid_character fault.InvalidCharacter = true
is_invalid_character _ = false

-- the place is the text's start, or the end of a part that begins there; faults that don't stop pass
abbrev pub Reached : List ℕ → ℕ → Type 0
Reached text s = (s ≡ 0) ⊎ ((ls : Lexemes) × Lexes (NextLexeme all_faults text) 0 ls × (end_of ls ≡ s))

-- A fault of a text. No character is invalid at which a hashbang comment begins.
pub record Faulty (kind : DiagnosticKind) (goal : Goal) (text : List ℕ) (from to : ℕ) : Type 0 where
  pub place : ℕ
  pub reached : Reached text place
  pub faulty : FaultyBehind kind goal text place from to
  pub no_hashbang : IsTrue (not (is_invalid_character kind && ((from == 0) && starts (codes "#!") text)))
