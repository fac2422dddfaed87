-- What a byte of a text is to the scans.
use Rattle.std.specs.Prelude.{ℕ, ◌≡◌, ◌<◌, ◌+◌, ◌==◌, List, Bool, true, false, not, ◌&&◌, ◌||◌, [], ◌∷◌, nat_lt, codes}
use Rattle.js_base.specs.part_text.Characters.{is_line_terminator, is_decimal, one_of}
use Rattle.js_grammar.specs.Characters.{is_identifier_start}
use Rattle.part_words.specs.Places.{Word}
use Rattle.js_grammar.specs.Trivia.{is_blank}
use Rattle.js_grammar.specs.Lexemes.{Opening, opening, a_name, a_number, a_string, a_template, a_private_name, a_punctuator}
use Rattle.part_words.specs.Names.{is_ascii_part}
use Rattle.part_words.specs.declared.byte_class.ByteClass.{ByteClass}
use Rattle.part_words.specs.declared.byte_class.ByteClass.TheVariants as class

abbrev pub is_letter_class : ByteClass → Bool
is_letter_class class.Letter = true
is_letter_class _ = false

abbrev pub is_name_class : ByteClass → Bool
is_name_class class.Letter = true
is_name_class class.Digit = true
is_name_class _ = false

abbrev pub is_trivia_class : ByteClass → Bool
is_trivia_class class.Blank = true
is_trivia_class class.Control = true
is_trivia_class class.Angle = true
is_trivia_class class.Solidus = true
is_trivia_class class.LineEnd = true
is_trivia_class class.High = true
is_trivia_class _ = false

abbrev pub is_line_class : ByteClass → Bool
is_line_class class.LineEnd = true
is_line_class class.High = true
is_line_class _ = false

abbrev pub is_comment_class : ByteClass → Bool
is_comment_class class.Star = true
is_comment_class class.Solidus = true
is_comment_class class.LineEnd = true
is_comment_class class.High = true
is_comment_class _ = false

abbrev pub is_alone_class : ByteClass → Bool
is_alone_class class.Alone = true
is_alone_class _ = false

abbrev pub is_end_class : ByteClass → Bool
is_end_class class.Letter = true
is_end_class class.Backslash = true
is_end_class class.Quote = true
is_end_class class.Backquote = true
is_end_class class.Hash = true
is_end_class class.Alone = true
is_end_class class.Blank = true
is_end_class class.Control = true
is_end_class class.LineEnd = true
is_end_class _ = false

-- what an ASCII character begins, a dot before a digit or not
abbrev pub opens : ByteClass → Bool → Opening
opens class.Letter digit = a_name
opens class.Backslash digit = a_name
opens class.Digit digit = a_number
opens class.Quote digit = a_string
opens class.Backquote digit = a_template
opens class.Hash digit = a_private_name
opens class.Dot true = a_number
opens class.Dot false = a_punctuator
opens _ digit = a_punctuator

-- a character that is neither white space nor a line terminator, and no comment begins with it
abbrev pub begins_no_trivia : ℕ → Bool
begins_no_trivia c = nat_lt c 128 && (not (is_blank (c ∷ [])) && not ((47 == c) || ((60 == c) || (45 == c))))

-- an ASCII character that ends no line
abbrev pub stays_on_line : ℕ → Bool
stays_on_line c = nat_lt c 128 && not (is_line_terminator c)

-- an ASCII character that ends neither a line nor a block comment
abbrev pub stays_in_comment : ℕ → Bool
stays_in_comment c = stays_on_line c && not ((47 == c) || (c == 42))

-- a punctuator with which no longer one begins
abbrev pub is_lone : ℕ → Bool
is_lone = one_of (codes "(){}[];,:")

-- no punctuator has the character behind its first one, nor does one ask for it there
abbrev pub ends_sign : ℕ → Bool
ends_sign c = nat_lt c 128 && (not (is_decimal c) && not (one_of (codes "=>.?+-*<&|/") c))

pub record IsOf (byte : ℕ) (k : ByteClass) : Type 0 where
  pub letter : is_letter_class k ≡ (nat_lt byte 128 && is_identifier_start byte)
  pub part : is_name_class k ≡ is_ascii_part byte
  pub opening : byte < 128 → (digit : Bool) → opens k digit ≡ opening byte digit
  pub trivia : (is_trivia_class k || begins_no_trivia byte) ≡ true
  pub line : (is_line_class k || stays_on_line byte) ≡ true
  pub comment : (is_comment_class k || stays_in_comment byte) ≡ true
  pub alone : (not (is_alone_class k) || is_lone byte) ≡ true
  pub ends : (not (is_end_class k) || ends_sign byte) ≡ true

-- such a character stands at the place
pub record Stays (p : ℕ → Bool) (text : List ℕ) (i : ℕ) : Type 0 where
  pub character : ℕ
  pub word : Word text i (i + 1) (character ∷ [])
  pub passes : p character ≡ true
