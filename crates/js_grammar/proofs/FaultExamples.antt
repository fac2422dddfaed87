-- Small texts with lexical faults.
use Rattle.std.proofs.Common.{◌≡◌, ℕ, true, List, [], ◌∷◌, ◌++◌, refl, arith, inl, inr, sym, subst}
use Rattle.std.specs.Prelude.{codes}
use Rattle.std.specs.Str.{chars, is_utf8}
use Rattle.std.specs.Char.{encode_utf8}
use Rattle.ucd_table.specs.Rows.{value_in}
use Rattle.ucd_category.specs.GeneralCategory.{general_category}
use Rattle.ucd_category.specs.GeneralCategoryRows.{general_category_rows}
use Rattle.std.proofs.lemmas.Str.{IsCharBoundary-start, IsCharBoundary-end, IsUtf8-from_is_utf8}
use Rattle.js_base.specs.declared.kind.Kind.TheVariants.{RegExp}
use Rattle.js_base.specs.Texts.{words, punctuators}
use Rattle.js_base.specs.Keywords.{keyword_of}
use Rattle.js_grammar.specs.Settings.{script, module_goal}
use Rattle.js_grammar.specs.Trivia.{are_trivia}
use Rattle.js_grammar.specs.Lexemes.{regular_expression}
use Rattle.js_grammar.specs.Lexed.{all_faults}
use Rattle.js_grammar.specs.Numbers.{stops_number}
use Rattle.js_grammar.proofs.LongestLemmas.{longest-same}
use Rattle.js_base.specs.declared.diagnostic.DiagnosticKind.TheVariants.{InvalidNumber, InvalidCharacter, BinaryFile, UnterminatedString, UnterminatedTemplate, UnterminatedRegexp, UnterminatedComment, InvalidEscape, RegExpFlag, HtmlCommentInModule}
use Rattle.js_grammar.specs.LexicalFaults.{is_number_word, Due, Condition, Faulty}
use Rattle.js_grammar.proofs.Standing.{stand, lexeme_of}

-- at the start of the text, behind no trivia
due_first : (text : List ℕ) → are_trivia true [] (chars text) ≡ true → Due text 0 0
due_first text t = record { pieces = []; stands = record { within = omega arith; splits = refl; trivia = t }; place = refl }

-- `'a` and a line end
open_string : Condition UnterminatedString script (codes "'a" ++ 10 ∷ []) 0 0 2
unfolding chars
open_string = (0, due_first (codes "'a" ++ 10 ∷ []) refl, (refl, record { word = codes "'a"; rest = 10 ∷ []; here = refl; opened = refl; never = refl; end = refl }))

-- the same, with its span
open_string_faulty : Faulty UnterminatedString script (codes "'a") 0 2
unfolding chars is_utf8 encode_utf8
open_string_faulty = record {
  place = 0;
  reached = inl refl;
  faulty = record {
    ordered = omega arith;
    begins_between = IsCharBoundary-start (codes "'a") (IsUtf8-from_is_utf8 (codes "'a") refl);
    ends_between = IsCharBoundary-end (codes "'a");
    condition = (0, due_first (codes "'a") refl, (refl, record { word = codes "'a"; rest = []; here = refl; opened = refl; never = refl; end = refl }));
  };
  no_hashbang = refl;
}

open_template : Condition UnterminatedTemplate script (codes "`a\\`") 0 0 4
unfolding chars
open_template = (0, due_first (codes "`a\\`") refl, (refl, record { word = codes "`a\\`"; rest = []; here = refl; opened = refl; never = refl; end = refl }))

open_pattern : Condition UnterminatedRegexp script (codes "/[/]") 0 0 4
unfolding chars
open_pattern = (0, due_first (codes "/[/]") refl, (refl, record { word = codes "/[/]"; rest = []; here = refl; opened = refl; never = refl; end = refl }))

open_comment : Condition UnterminatedComment script (codes "/*a*") 0 0 4
unfolding chars
open_comment = (0, due_first (codes "/*a*") refl, (refl, record { word = codes "/*a*"; rest = []; here = refl; opened = refl; never = refl; end = refl }))

-- `'\xg'`: from the backslash on
hex_escape : Condition InvalidEscape script (codes "'\\xg'") 0 1 5
unfolding chars
hex_escape = (0, due_first (codes "'\\xg'") refl, inr (record { quote = 39; inside = []; rest = codes "xg'"; here = refl; opened = refl; unclosed = refl; right = refl; never = refl; begin = refl }))

-- `a\u0020`: a space is no part of a name
name_escape : Condition InvalidEscape script (codes "a\\u0020") 0 1 7
unfolding chars
name_escape = (0, due_first (codes "a\\u0020") refl, inl (record { mark = []; name = codes "a"; rest = codes "u0020"; here = refl; marked = refl; named = refl; never = refl; begin = refl }))

-- `#` alone
no_character : Condition InvalidCharacter script (codes "#") 0 0 1
unfolding chars punctuators
no_character = (0, due_first (codes "#") refl, (refl, record { character = 35; rest = []; here = refl; nothing = refl; end = refl }))

-- ` #!`: behind a space, `#!` begins no hashbang comment
no_hashbang_later : Condition InvalidCharacter script (codes " #!") 0 1 2
unfolding chars punctuators
no_hashbang_later = (
  1,
  record { pieces = codes " " ∷ []; stands = record { within = omega arith; splits = refl; trivia = refl }; place = refl },
  (refl, record { character = 35; rest = codes "!"; here = refl; nothing = refl; end = refl }),
)

-- `#!`: a hashbang comment begins, so no character is invalid
hashbang_begins : (to : ℕ) → Faulty InvalidCharacter script (codes "#!") 0 to → ⊥
hashbang_begins to c = let h = c.no_hashbang in cc

-- U+FFFD
replaced : Condition BinaryFile script (239 ∷ 191 ∷ 189 ∷ []) 0 0 3
unfolding chars value_in general_category general_category_rows
replaced = (0, due_first (239 ∷ 191 ∷ 189 ∷ []) refl, (refl, record { rest = []; here = refl; end = refl }))

-- `/a/gg`: the second flag
flag_twice : Condition RegExpFlag script (codes "/a/gg") 0 4 5
unfolding chars words punctuators stand keyword_of
flag_twice = record {
  lexeme = lexeme_of 0 [] (codes "/a/gg") RegExp;
  lex = stand all_faults (codes "/a/gg") 0 [] regular_expression (codes "/a/gg") [] RegExp (omega arith) refl refl refl;
  is = refl;
  before = codes "g";
  flag = 103;
  behind = [];
  splits = refl;
  wrong = refl;
  end = refl;
  begin = refl;
}

-- `a<!--b` in a module
html_like : Condition HtmlCommentInModule module_goal (codes "a<!--b") 1 1 5
unfolding chars words punctuators keyword_of
html_like = (
  refl,
  record { before = []; comment = codes "<!--b"; behind = []; rest = []; stands = record { within = omega arith; splits = refl; trivia = refl }; is = refl; begin = refl },
)

-- `1__0`: the longest number is `1`, and a name could begin behind it
two_separators : Condition InvalidNumber script (codes "1__0") 0 0 4
unfolding chars
two_separators = (
  0,
  due_first (codes "1__0") refl,
  (
    refl,
    record {
      first = 49;
      others = codes "__0";
      here = refl;
      begun = refl;
      none = λ w rest e l t.
          let same = longest-same is_number_word (codes "1") (codes "__0") w rest e refl l in
          let u : stops_number (codes "__0") ≡ true = subst (λ (v : List ℕ). stops_number v ≡ true) (sym same.back) t in
          cc;
    },
  ),
)
