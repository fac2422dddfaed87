-- What it is that lexemes are those of a text (ECMA-262, 12). Places are byte places.
use Rattle.std.specs.Prelude.{ℕ, ◌+◌, ◌≡◌, ◌≤◌, Bool, true, not, ◌&&◌, ◌||◌, List, ◌++◌, ◌==◌, chars, drop, length, IsTrue, Some}
use Rattle.js_base.specs.declared.kind.Kind.{Kind}
use Rattle.js_base.specs.declared.kind.Kind.TheVariants.{RegExp, Eof}
use Rattle.js_base.specs.Kinds.{same_kind}
use Rattle.js_grammar.specs.Grammar.{Lexeme, Lexemes, last, next}
use Rattle.js_grammar.specs.Settings.{Goal, module_goal}
use Rattle.js_grammar.specs.Characters.{width, has_line_terminator}
use Rattle.js_grammar.specs.Longest.{longest, joined}
use Rattle.js_grammar.specs.Trivia.{are_trivia, lack_html_comments}
use Rattle.js_grammar.specs.Numbers.{is_number, stops_number}
use Rattle.js_grammar.specs.RegularExpressions.{flags, flags_pass}
use Rattle.js_grammar.specs.Lexemes.{LexicalGoal, kind_in, lexemes_in, may_begin, is_escaped, units_of}

-- Which faults pass. In a module an HTML-like comment is one (B.1.1), and everywhere a wrong flag. Marks of diagnostics pass both.
pub data Passing : Type 0 where
  in_script in_module all_faults : Passing

abbrev pub passing_of : Goal → Passing
passing_of module_goal = in_module
passing_of _ = in_script

abbrev pub comments_pass : Passing → List (List ℕ) → Bool
comments_pass in_module ps = lack_html_comments ps
comments_pass _ ps = true

abbrev pub flags_right : Passing → Kind → List ℕ → Bool
flags_right all_faults k w = true
flags_right _ k w = not (same_kind RegExp k) || flags_pass (flags w)

-- Behind the place s stand these pieces of trivia, then these characters, then the rest of the text.
pub record Stands (text : List ℕ) (s : ℕ) (pieces : List (List ℕ)) (word rest : List ℕ) : Type 0 where
  pub within : s ≤ length text
  pub splits : chars (drop s text) ≡ joined pieces ++ (word ++ rest)
  pub trivia : IsTrue (are_trivia (s == 0) pieces (word ++ rest))

-- the characters are the longest lexeme of a lexical goal at the place i, and its kind is k
pub record IsLexeme (goal : LexicalGoal) (i : ℕ) (word rest : List ℕ) (k : Kind) : Type 0 where
  pub longest : IsTrue (longest (lexemes_in goal) word rest)
  pub kind : kind_in goal word rest ≡ Some k
  pub begins : IsTrue (may_begin goal i)
  pub apart : IsTrue (not (is_number k) || stops_number rest)

-- y may be the next lexeme behind the place s, the end of the one before.
pub record NextLexeme (passing : Passing) (text : List ℕ) (s : ℕ) (y : Lexeme) : Type 0 where
  pub trivia : List (List ℕ)
  pub goal : LexicalGoal
  pub word : List ℕ
  pub rest : List ℕ
  pub stands : Stands text s trivia word rest
  pub lexeme : IsLexeme goal y.from word rest y.kind
  pub comments : IsTrue (comments_pass passing trivia)
  pub flags : IsTrue (flags_right passing y.kind word)
  pub from : y.from ≡ s + width (joined trivia)
  pub to : y.to ≡ y.from + width word
  pub newline : y.newline ≡ has_line_terminator (joined trivia)
  pub escaped : y.escaped ≡ is_escaped y.kind word
  pub units : y.units ≡ units_of y.kind word

-- behind the place s stands the lexeme y of a lexical goal
pub record LexemeBehind (goal : LexicalGoal) (text : List ℕ) (s : ℕ) (y : Lexeme) : Type 0 where
  pub lex : NextLexeme all_faults text s y
  pub of_goal : lex.goal ≡ goal

-- Lexemes one behind the other, from a place on. The last may be any, so that a fault further on changes nothing.
abbrev pub Lexes : (ℕ → Lexeme → Type 0) → ℕ → Lexemes → Type 0
Lexes lex s (last x) = lex s x
Lexes lex s (next x ls) = lex s x × Lexes lex x.to ls

-- the end of the last lexeme
abbrev pub end_of : Lexemes → ℕ
end_of (last x) = x.to
end_of (next x ls) = end_of ls

-- one part and, from its end on, another
abbrev pub join : Lexemes → Lexemes → Lexemes
join (last x) ms = next x ms
join (next x ls) ms = next x (join ls ms)

-- the end of the text is the last lexeme, and no other is
abbrev pub ends_once : Lexemes → Bool
ends_once (last x) = same_kind Eof x.kind
ends_once (next x ls) = not (same_kind Eof x.kind) && ends_once ls

-- the lexemes of a whole text at a goal
pub record Lexed (goal : Goal) (text : List ℕ) (ls : Lexemes) : Type 0 where
  pub lexes : Lexes (NextLexeme (passing_of goal) text) 0 ls
  pub ends : IsTrue (ends_once ls)
