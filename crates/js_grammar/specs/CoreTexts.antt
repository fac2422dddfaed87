-- Core texts: those of which every part of the parser can speak exactly. A part of the lexical grammar in which no lexical goal makes a difference.
use Rattle.std.specs.Prelude.{ℕ, ◌≡◌, ◌≤◌, Bool, true, false, not, ◌&&◌, ◌||◌, List, [], ◌∷◌, ◌==◌, nat_lt, codes, bytes_eq, chars, length, IsTrue, is_some}
use Rattle.std.specs.List.{list_all, find}
use Rattle.std.specs.Str.{byte}
use Rattle.js_base.specs.declared.kind.Kind.{Kind}
use Rattle.js_base.specs.declared.kind.Kind.TheVariants.{Ident, This, Null, True, False, New, Typeof, Void, Delete, In, Instanceof, LParen, RParen, LBrack, RBrack, Semicolon, Comma, Colon, Dot, Dot3, Arrow, Tilde, Bang, Question, QuestionDot, Question2, Question2Eq, Plus, Plus2, PlusEq, Minus, Minus2, MinusEq, Star, Star2, StarEq, Star2Eq, Percent, PercentEq, Eq, Eq2, Eq3, Neq, Neq2, LAngle, LtEq, RAngle, GtEq, ShiftLeft, ShiftLeftEq, ShiftRight, ShiftRightEq, ShiftRight3, ShiftRight3Eq, Amp, Amp2, AmpEq, Amp2Eq, Pipe, Pipe2, PipeEq, Pipe2Eq, Caret, CaretEq}
use Rattle.js_base.specs.Kinds.{one_of_kinds}
use Rattle.js_base.specs.Texts.{text_of}
use Rattle.js_base.specs.part_text.Characters.{one_of, is_decimal}
use Rattle.js_grammar.specs.Characters.{is_identifier_part, begins}
use Rattle.js_grammar.specs.Longest.{Class, longest, joined}
use Rattle.js_grammar.specs.Trivia.{after}
use Rattle.js_base.specs.Keywords.{keyword_of}
use Rattle.js_grammar.specs.Names.{is_plain_name}
use Rattle.js_grammar.specs.Strings.{nothing_left}
use Rattle.js_grammar.specs.Lexemes.{may_precede}

-- one space, tab, CR or LF
abbrev pub is_core_blank : List ℕ → Bool
is_core_blank [] = false
is_core_blank (c ∷ cs) = one_of (codes " \t\r\n") c && nothing_left cs

-- a name of ASCII characters, without escapes
abbrev pub is_ascii_name : List ℕ → Bool
is_ascii_name w = is_plain_name w && list_all (λ c. nat_lt c 128) w

-- of the keyword table these words alone; and names
abbrev pub core_words : List Kind
core_words = Ident ∷ This ∷ Null ∷ True ∷ False ∷ New ∷ Typeof ∷ Void ∷ Delete ∷ In ∷ Instanceof ∷ []

-- `0`, or digits of which the first isn't `0`
abbrev pub is_core_number : List ℕ → Bool
is_core_number [] = false
is_core_number (c ∷ cs) = is_decimal c && (list_all is_decimal cs && (not (c == byte "0") || nothing_left cs))

-- behind a quote: up to the equal one at the end, without backslash, CR and LF
abbrev pub closes_core_string : ℕ → List ℕ → Bool
closes_core_string q [] = false
closes_core_string q (c ∷ cs) = elim (c == q) [ true ↦ nothing_left cs | false ↦ not (one_of (codes "\\\r\n") c) && closes_core_string q cs ]

abbrev pub is_core_string : List ℕ → Bool
is_core_string [] = false
is_core_string (q ∷ cs) = one_of (codes "\"'") q && closes_core_string q cs

-- the punctuators without slash, brace and `@`
unfoldable pub core_punctuators : List Kind
core_punctuators = LParen ∷ RParen ∷ LBrack ∷ RBrack ∷ Semicolon ∷ Comma ∷ Colon ∷ Dot ∷ Dot3 ∷ Arrow ∷ Tilde ∷ Bang ∷ Question ∷ QuestionDot ∷ Question2 ∷ Question2Eq ∷ Plus ∷ Plus2 ∷ PlusEq ∷ Minus ∷ Minus2 ∷ MinusEq ∷ Star ∷ Star2 ∷ StarEq ∷ Star2Eq ∷ Percent ∷ PercentEq ∷ Eq ∷ Eq2 ∷ Eq3 ∷ Neq ∷ Neq2 ∷ LAngle ∷ LtEq ∷ RAngle ∷ GtEq ∷ ShiftLeft ∷ ShiftLeftEq ∷ ShiftRight ∷ ShiftRightEq ∷ ShiftRight3 ∷ ShiftRight3Eq ∷ Amp ∷ Amp2 ∷ AmpEq ∷ Amp2Eq ∷ Pipe ∷ Pipe2 ∷ PipeEq ∷ Pipe2Eq ∷ Caret ∷ CaretEq ∷ []

abbrev pub is_core_punctuator : Class
is_core_punctuator w rest = is_some (find (λ k. bytes_eq (text_of k) w && may_precede k rest) core_punctuators)

abbrev pub is_core_piece : Class
is_core_piece w rest = is_core_blank w || (is_ascii_name w || (is_core_number w || (is_core_string w || is_core_punctuator w rest)))

-- a name character or a dot; one at the end
abbrev pub is_glue : ℕ → Bool
is_glue c = is_identifier_part c || (c == byte ".")

abbrev pub ends_in_glue : List ℕ → Bool
ends_in_glue [] = false
ends_in_glue (c ∷ []) = is_glue c
ends_in_glue (c ∷ d ∷ cs) = ends_in_glue (d ∷ cs)

-- A word is one of those above, and no name character and no dot stands directly before or behind a number. `glued`: one stands directly before.
abbrev pub is_core_use : Bool → Class
is_core_use glued w rest =
    elim (is_ascii_name w) [
      | true ↦ one_of_kinds core_words (keyword_of w)
      | false ↦
          elim (is_core_number w) [ true ↦ not glued && not (begins is_glue rest) | false ↦ true ]
    ]

-- one behind the other, each the longest at its place
abbrev pub are_core : Bool → List (List ℕ) → Bool
are_core glued [] = true
are_core glued (p ∷ ps) = longest is_core_piece p (joined ps) && (is_core_use glued p (joined ps) && are_core (ends_in_glue p) ps)

-- the characters stand somewhere among others
abbrev pub starts : List ℕ → List ℕ → Bool
starts a cs = after a (λ rest. true) cs

abbrev pub occurs : List ℕ → List ℕ → Bool
occurs a [] = starts a []
occurs a (c ∷ cs) = starts a (c ∷ cs) || occurs a cs

abbrev pub max_len : ℕ
max_len = 4294967039

-- The text is a core text: not too long, white space and core lexemes alone, and `<!--` and `-->` occur nowhere in it.
pub record CoreSource (text : List ℕ) : Type 0 where
  pub short : length text ≤ max_len
  pub pieces : List (List ℕ)
  pub splits : chars text ≡ joined pieces
  pub core : IsTrue (are_core false pieces)
  pub lacks_open : IsTrue (not (occurs (codes "<!--") (chars text)))
  pub lacks_close : IsTrue (not (occurs (codes "-->") (chars text)))
