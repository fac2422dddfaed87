-- Small texts, by computing: what the classes of lexemes hold of them, and what they don't.
use Rattle.std.proofs.Common.{◌≡◌, true, false, [], ◌∷◌, ◌++◌, refl, Some, None}
use Rattle.std.specs.Prelude.{codes}
use Rattle.ucd_table.specs.Rows.{value_in}
use Rattle.ucd_category.specs.GeneralCategory.{general_category}
use Rattle.ucd_category.specs.GeneralCategoryRows.{general_category_rows}
use Rattle.js_base.specs.Texts.{words, punctuators}
use Rattle.js_base.specs.declared.kind.Kind.TheVariants.{Ident, Await, If, Decimal, Hex, Float, Octal, DecimalBigInt, PositiveExponential, NegativeExponential, Str, RegExp, QuestionDot, PrivateIdentifier, TemplateHead, TemplateTail, NoSubstitutionTemplate}
use Rattle.js_base.specs.Keywords.{keyword_of}
use Rattle.js_grammar.specs.Longest.{longest, none_begins}
use Rattle.js_grammar.specs.Trivia.{are_trivia, is_trivia_piece, is_irregular}
use Rattle.js_grammar.specs.Names.{name_kind, name_of, private_kind}
use Rattle.js_grammar.specs.Numbers.{number_kind, stops_number, has_separator}
use Rattle.js_base.specs.part_text.Decoding.{string_units, cooked, raw_text}
use Rattle.js_grammar.specs.Strings.{string_kind, string_inside}
use Rattle.js_grammar.specs.Templates.{template_kind, template_tail_kind, template_inside}
use Rattle.js_grammar.specs.RegularExpressions.{regular_expression_kind, flags, are_flags}
use Rattle.js_grammar.specs.Lexemes.{punctuator_kind, lexemes_in, division, is_separated}

-- numbers
hex_separated : number_kind (codes "0x1_f") ≡ Some Hex
hex_separated = refl

hex_separated_mark : has_separator (codes "0x1_f") ≡ true
hex_separated_mark = refl

-- `1_0` has a separator
separated : is_separated Decimal (codes "1_0") ≡ true
separated = refl

-- `10` has none
not_separated : is_separated Decimal (codes "10") ≡ false
not_separated = refl

exponent_behind_dot : number_kind (codes "1.e3") ≡ Some PositiveExponential
exponent_behind_dot = refl

negative_exponent : number_kind (codes ".5e-3") ≡ Some NegativeExponential
negative_exponent = refl

eight : number_kind (codes "08.5") ≡ Some Float
eight = refl

octal_by_zero : number_kind (codes "0777") ≡ Some Octal
octal_by_zero = refl

big : number_kind (codes "1_000n") ≡ Some DecimalBigInt
big = refl

two_separators : number_kind (codes "1__0") ≡ None
two_separators = refl

separator_behind_zero : number_kind (codes "0_1") ≡ None
separator_behind_zero = refl

octal_with_dot : number_kind (codes "07.5") ≡ None
octal_with_dot = refl

big_by_zero : number_kind (codes "01n") ≡ None
big_by_zero = refl

no_binary_digit : number_kind (codes "0b2") ≡ None
no_binary_digit = refl

word_behind : stops_number (codes "in") ≡ false
word_behind = refl

separator_behind : stops_number (codes "_1") ≡ false
separator_behind = refl

-- names
escaped_letter : name_of (codes "\\u0061b") ≡ Some (codes "ab")
escaped_letter = refl

braced_letter : name_kind (codes "\\u{61}wait") ≡ Some Await
unfolding words keyword_of
braced_letter = refl

keyword : name_kind (codes "if") ≡ Some If
unfolding words keyword_of
keyword = refl

longer_than_keyword : name_kind (codes "iff") ≡ Some Ident
unfolding words keyword_of
longer_than_keyword = refl

escaped_digit_first : name_kind (codes "\\u0031a") ≡ None
escaped_digit_first = refl

private_name : private_kind (codes "#a") ≡ Some PrivateIdentifier
private_name = refl

-- strings
pair : string_kind (codes "'\\uD83D\\u{DE00}'") ≡ Some Str
pair = refl

pair_units : string_units (string_inside (codes "'\\uD83D\\u{DE00}'")) ≡ Some (0xD83D ∷ 0xDE00 ∷ [])
pair_units = refl

octal_units : string_units (codes "\\1018\\8") ≡ Some (65 ∷ 56 ∷ 56 ∷ [])
octal_units = refl

continued : string_units (97 ∷ 92 ∷ 13 ∷ 10 ∷ 98 ∷ []) ≡ Some (codes "ab")
continued = refl

-- no line feed stands in a string: `'a`, LF, `'` is none
line_in_string : string_kind (39 ∷ 97 ∷ 10 ∷ 39 ∷ []) ≡ None
line_in_string = refl

-- and no lexeme begins there
no_string_over_lines : none_begins (lexemes_in division) (39 ∷ 97 ∷ 10 ∷ 39 ∷ []) ≡ true
no_string_over_lines = refl

bad_escape : string_kind (codes "'\\xg1'") ≡ None
bad_escape = refl

-- templates
head : template_kind (codes "`a${") ≡ Some TemplateHead
head = refl

tail : template_tail_kind (codes "}$`") ≡ Some TemplateTail
tail = refl

whole : template_kind (codes "`\\`$\\{`") ≡ Some NoSubstitutionTemplate
whole = refl

not_closed : template_kind (codes "`a") ≡ None
not_closed = refl

-- the inside of `` `a${ `` is `a`: the opening and the `${` are no part of it
head_inside : template_inside TemplateHead (codes "`a${") ≡ codes "a"
head_inside = refl

-- the inside of `` }a` `` is `a`: the brace and the backquote are no part of it
tail_inside : template_inside TemplateTail (codes "}a`") ≡ codes "a"
tail_inside = refl

carriage_return : raw_text (97 ∷ 13 ∷ 98 ∷ []) ≡ 97 ∷ 10 ∷ 98 ∷ []
carriage_return = refl

uncooked : cooked (codes "\\u{") ≡ None
uncooked = refl

uncooked_digit : cooked (codes "\\01") ≡ None
uncooked_digit = refl

-- regular expressions
slash_in_brackets : flags (codes "/[/]a/gi") ≡ Some (codes "gi")
slash_in_brackets = refl

slash_in_brackets_kind : regular_expression_kind (codes "/[/]a/gi") ≡ Some RegExp
slash_in_brackets_kind = refl

no_pattern : regular_expression_kind (codes "//") ≡ None
no_pattern = refl

flag_twice : are_flags (codes "gg") ≡ false
flag_twice = refl

-- punctuators
optional_chain : punctuator_kind (codes "?.") (codes "b") ≡ Some QuestionDot
unfolding punctuators words keyword_of
optional_chain = refl

no_optional_chain : punctuator_kind (codes "?.") (codes "5") ≡ None
unfolding punctuators words keyword_of
no_optional_chain = refl

longest_question : longest (lexemes_in division) (codes "?") (codes ".5:b") ≡ true
unfolding punctuators words keyword_of
longest_question = refl

longest_shift : longest (lexemes_in division) (codes ">>>=") (codes " b") ≡ true
unfolding punctuators words keyword_of
longest_shift = refl

-- trivia: `<!--` begins a comment anywhere, `-->` where only trivia stands before it on its line
html_open : are_trivia false (codes "<!--b" ∷ []) [] ≡ true
html_open = refl

html_close_first : are_trivia true (codes " " ∷ codes "-->b" ∷ []) [] ≡ true
html_close_first = refl

html_close_later : none_begins (is_trivia_piece false) (codes "-->b") ≡ true
html_close_later = refl

comment_then_lines : are_trivia false (codes "// a /* b" ∷ (10 ∷ []) ∷ []) (codes "c */") ≡ true
comment_then_lines = refl

block_then_close : are_trivia false ((codes "/*" ++ 10 ∷ codes "*/") ∷ codes "-->" ∷ []) [] ≡ true
block_then_close = refl

-- a no-break space, U+00A0, is irregular white space
no_break_space : is_irregular (0xA0 ∷ []) ≡ true
unfolding value_in general_category general_category_rows
no_break_space = refl

-- so is U+FEFF
byte_order_mark : is_irregular (0xFEFF ∷ []) ≡ true
byte_order_mark = refl

-- a space isn't
space : is_irregular (32 ∷ []) ≡ false
space = refl

-- each single escape, and a character that stands for itself
single_escapes_units : string_units (codes "\\b\\t\\n\\v\\f\\r\\q\\x41") ≡ Some (8 ∷ 9 ∷ 10 ∷ 11 ∷ 12 ∷ 13 ∷ 113 ∷ 65 ∷ [])
single_escapes_units = refl

largest_octal : string_units (codes "\\377\\400") ≡ Some (255 ∷ 32 ∷ 48 ∷ [])
largest_octal = refl

too_large : string_units (codes "\\u{110000}") ≡ None
too_large = refl

largest : string_units (codes "\\u{0010FFFF}") ≡ Some (0xDBFF ∷ 0xDFFF ∷ [])
largest = refl

cooked_lines : cooked (97 ∷ 13 ∷ 10 ∷ 92 ∷ 13 ∷ 10 ∷ 98 ∷ []) ≡ Some (97 ∷ 10 ∷ 98 ∷ [])
cooked_lines = refl

cooked_zero : cooked (codes "\\0a") ≡ Some (0 ∷ 97 ∷ [])
cooked_zero = refl
