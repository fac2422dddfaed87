-- Which characters are a lexeme, and of which kind (ECMA-262, 12: the input elements of each lexical goal; 12.8 for the punctuators).
use Rattle.std.specs.Prelude.{ℕ, Bool, true, false, not, ◌&&◌, ◌||◌, List, [], ◌∷◌, ◌==◌, nat_lt, codes, bytes_eq, Option, Some, None, is_some, option_map, unwrap_or, drop}
use Rattle.std.specs.List.{find}
use Rattle.std.specs.Str.{byte}
use Rattle.js_base.specs.declared.kind.Kind.{Kind}
use Rattle.js_base.specs.declared.kind.Kind.TheVariants.{Ident, PrivateIdentifier, Str, QuestionDot, Slash, HashbangComment, Eof}
use Rattle.js_base.specs.Kinds.{code, same_kind, one_of_kinds}
use Rattle.js_base.specs.Texts.{text_of, words, punctuators}
use Rattle.js_base.specs.part_text.Characters.{one_of, is_decimal}
use Rattle.js_grammar.specs.Characters.{is_identifier_start, begins}
use Rattle.js_grammar.specs.Longest.{Class}
use Rattle.js_grammar.specs.Trivia.{after, within_line}
use Rattle.js_base.specs.part_text.Escapes.{code_units}
use Rattle.js_grammar.specs.Names.{name_of, name_kind, private_kind, has_backslash}
use Rattle.js_grammar.specs.Numbers.{number_kind, is_number, has_separator}
use Rattle.js_base.specs.part_text.Decoding.{string_units}
use Rattle.js_grammar.specs.Strings.{string_kind, string_inside}
use Rattle.js_grammar.specs.Templates.{template_kind, template_tail_kind}
use Rattle.js_grammar.specs.RegularExpressions.{regular_expression_kind}

-- `?.` stands before no digit (12.8), and `/` begins no comment
abbrev pub may_precede : Kind → List ℕ → Bool
may_precede k rest = not (same_kind QuestionDot k && begins is_decimal rest) && not (same_kind Slash k && begins (one_of (codes "*/")) rest)

-- Punctuator, DivPunctuator, RightBracePunctuator, and `@`
abbrev pub punctuator_kind : List ℕ → List ℕ → Option Kind
punctuator_kind w rest = find (λ k. bytes_eq (text_of k) w && may_precede k rest) punctuators

-- what a character begins; `digit`: a digit stands behind it
pub data Opening : Type 0 where
  a_name a_number a_string a_template a_private_name a_punctuator : Opening

abbrev pub opening : ℕ → Bool → Opening
opening c digit =
    elim (is_identifier_start c || (c == byte "\\")) [
      | true ↦ a_name
      | false ↦
          elim (is_decimal c || ((c == byte ".") && digit)) [
            | true ↦ a_number
            | false ↦
                elim (one_of (codes "\"'") c) [
                  | true ↦ a_string
                  | false ↦
                      elim (c == byte "`") [
                        | true ↦ a_template
                        | false ↦
                            elim (c == byte "#") [ true ↦ a_private_name | false ↦ a_punctuator ]
                      ]
                ]
          ]
    ]

abbrev pub kind_of : Opening → List ℕ → List ℕ → Option Kind
kind_of a_name w rest = name_kind w
kind_of a_number w rest = number_kind w
kind_of a_string w rest = string_kind w
kind_of a_template w rest = template_kind w
kind_of a_private_name w rest = private_kind w
kind_of a_punctuator w rest = punctuator_kind w rest

-- The input elements of InputElementDiv but trivia. At the end of the text, nothing is the end.
abbrev pub plain_kind : List ℕ → List ℕ → Option Kind
plain_kind [] [] = Some Eof
plain_kind [] (c ∷ rest) = None
plain_kind (c ∷ cs) rest = kind_of (opening c (begins is_decimal cs)) (c ∷ cs) rest

-- HashbangComment (12.5)
abbrev pub hashbang_kind : List ℕ → Option Kind
hashbang_kind w = elim (after (codes "#!") within_line w) [ true ↦ Some HashbangComment | false ↦ None ]

-- The lexical goals. The plain one, `division`, is InputElementDiv without trivia: CommonToken, DivPunctuator and RightBracePunctuator. Each of the other three holds the one lexeme alone that its goal has beyond that: RegularExpressionLiteral (InputElementRegExp), TemplateSubstitutionTail (InputElementTemplateTail), HashbangComment (InputElementHashbangOrRegExp).
pub data LexicalGoal : Type 0 where
  division regular_expression template_tail hashbang : LexicalGoal

abbrev pub kind_in : LexicalGoal → List ℕ → List ℕ → Option Kind
kind_in division w rest = plain_kind w rest
kind_in regular_expression w rest = regular_expression_kind w
kind_in template_tail w rest = template_tail_kind w
kind_in hashbang w rest = hashbang_kind w

abbrev pub lexemes_in : LexicalGoal → Class
lexemes_in g w rest = is_some (kind_in g w rest)

-- a hashbang begins at the text's start alone
abbrev pub may_begin : LexicalGoal → ℕ → Bool
may_begin hashbang i = i == 0
may_begin _ i = true

-- A name, or a word of the keyword table: the first 36 kinds are the reserved words, and the next 26 the other words (`law_of_words`).
abbrev pub is_word : Kind → Bool
is_word k = same_kind Ident k || nat_lt (code k) 62

-- the mark "escaped", of names and private names
abbrev pub is_escaped : Kind → List ℕ → Bool
is_escaped k w = (is_word k || same_kind PrivateIdentifier k) && has_backslash w

-- The code units of what a word, a private name behind its `#`, or a string stands for; of any other lexeme none.
abbrev pub units_of : Kind → List ℕ → List ℕ
units_of k w =
    elim (is_word k) [
      | true ↦ unwrap_or (option_map code_units (name_of w)) []
      | false ↦
          elim (same_kind PrivateIdentifier k) [
            | true ↦ unwrap_or (option_map code_units (name_of (drop 1 w))) []
            | false ↦
                elim (same_kind Str k) [ true ↦ unwrap_or (string_units (string_inside w)) [] | false ↦ [] ]
          ]
    ]

-- the mark "has a separator", of numbers
abbrev pub is_separated : Kind → List ℕ → Bool
is_separated k w = is_number k && has_separator w
