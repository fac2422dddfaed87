-- What stands between lexemes: white space, line terminators and comments (ECMA-262, 12.2 to 12.4; B.1.1 for the HTML-like ones).
use Rattle.std.specs.Prelude.{ℕ, Bool, true, false, not, ◌&&◌, ◌||◌, List, [], ◌∷◌, ◌++◌, codes, ◌==◌}
use Rattle.std.specs.List.{list_all, list_any}
use Rattle.std.specs.Str.{byte}
use Rattle.js_base.specs.part_text.Characters.{is_line_terminator}
use Rattle.js_grammar.specs.Characters.{is_white_space, has_line_terminator}
use Rattle.js_grammar.specs.Longest.{Class, longest, none_begins, joined}

-- the characters are a beginning and, behind it, others that pass
abbrev pub after : List ℕ → (List ℕ → Bool) → List ℕ → Bool
after [] p cs = p cs
after (a ∷ as') p [] = false
after (a ∷ as') p (c ∷ cs) = (a == c) && after as' p cs

-- SingleLineCommentChars: none is a line terminator
abbrev pub within_line : List ℕ → Bool
within_line = list_all (λ c. not (is_line_terminator c))

-- behind the opening of a MultiLineComment (12.4): the first `*/` ends the characters; `star` tells that a `*` stands directly before
abbrev pub closes_comment : Bool → List ℕ → Bool
closes_comment star [] = false
closes_comment star (c ∷ cs) = elim (star && (c == byte "/")) [ true ↦ list_all (λ d. false) cs | false ↦ closes_comment (c == byte "*") cs ]

abbrev pub is_single_line_comment : List ℕ → Bool
is_single_line_comment = after (codes "//") within_line

abbrev pub is_multi_line_comment : List ℕ → Bool
is_multi_line_comment = after (codes "/*") (closes_comment false)

abbrev pub is_html_open : List ℕ → Bool
is_html_open = after (codes "<!--") within_line

abbrev pub is_html_close : List ℕ → Bool
is_html_close = after (codes "-->") within_line

abbrev pub is_html_comment : List ℕ → Bool
is_html_comment w = is_html_open w || is_html_close w

-- one character that is white space or a line terminator
abbrev pub is_blank : List ℕ → Bool
is_blank [] = false
is_blank (c ∷ []) = is_white_space c || is_line_terminator c
is_blank (c ∷ d ∷ cs) = false

-- A piece of trivia. `first`: only trivia stands before it on its line, or in the text; there alone `-->` begins a comment.
abbrev pub is_trivia_piece : Bool → Class
is_trivia_piece first w rest = is_blank w || (is_single_line_comment w || (is_multi_line_comment w || (is_html_open w || (first && is_html_close w))))

-- the pieces stand in front of rest, each as long as possible, and at rest no further one begins
abbrev pub are_trivia : Bool → List (List ℕ) → List ℕ → Bool
are_trivia first [] rest = none_begins (is_trivia_piece first) rest
are_trivia first (p ∷ ps) rest = longest (is_trivia_piece first) p (joined ps ++ rest) && are_trivia (first || has_line_terminator p) ps rest

-- no piece is an HTML-like comment
abbrev pub lack_html_comments : List (List ℕ) → Bool
lack_html_comments = list_all (λ p. not (is_html_comment p))

-- a white space or line terminator other than space, tab, CR and LF
abbrev pub is_irregular : List ℕ → Bool
is_irregular w = is_blank w && list_all (λ c. not (list_any (λ d. d == c) (codes " \t\r\n"))) w
