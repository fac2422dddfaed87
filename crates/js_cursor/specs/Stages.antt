-- What a parser keeps on its way over the lexemes of a text, each once and in order: comments, white space and faults (ECMA-262, 12). Tokens aside.
use Rattle.std.specs.Prelude.{ℕ, ◌+◌, ◌≡◌, true, List, [], ◌++◌}
use Rattle.js_base.specs.declared.diagnostic.Diagnostic.{Diagnostic}
use Rattle.js_base.specs.declared.span.Span.{Span}
use Rattle.js_base.specs.declared.token.Token.{Token}
use Rattle.js_tree.specs.js_grammar.Characters.{width}
use Rattle.js_tree.specs.js_grammar.Grammar.{Lexeme}
use Rattle.js_tree.specs.js_grammar.Lexed.{NextLexeme, Stands, all_faults}
use Rattle.js_tree.specs.js_grammar.Lexemes.{LexicalGoal, division, regular_expression, hashbang}
use Rattle.js_tree.specs.js_grammar.LexicalFaults.{behind}
use Rattle.js_tree.specs.js_grammar.Longest.{joined}
use Rattle.js_tree.specs.js_grammar.Settings.{Goal}
use Rattle.js_lex.specs.Comments.{each_at, comment_at, irregular_at, html_fault_at}
use Rattle.js_lex.specs.Reading.{cut, in_a_module, FlagsStand, LexemeBehind, Outcome, Tells}
use Rattle.js_lex.specs.declared.comment.Comment.{Comment}
use Rattle.js_cursor.specs.Parsers.{Parser}
use Rattle.js_cursor.specs.Tokens.{may_be_read_again}

-- Where a parser is: the end of the lexeme that was passed last, the token of what stands behind, and what was kept so far.
pub record Stage : Type 0 where
  pub place : ℕ
  pub token : Token
  pub comments : List Comment
  pub blanks : List Span
  pub faults : List Diagnostic

abbrev pub stage : Parser → Stage
stage p = record { place = p.prev_token_end; token = p.token; comments = p.lexer.kept.comments; blanks = p.lexer.kept.irregular_whitespaces; faults = p.lexer.kept.errors }

-- Behind a place the plain lexical goal gives this token. The trivia before it has these comments and this white space; the faults are, in a module, each HTML-like comment (B.1.1), and then what stops, where no lexeme of the goal stands there.
pub record ComesWith (source : Goal) (text : List ℕ) (place : ℕ) (t : Token) (comments : List Comment) (blanks : List Span) (faults : List Diagnostic) : Type 0 where
  pub trivia : List (List ℕ)
  pub stands : Stands text place trivia [] (behind text t.span.start)
  pub start : t.span.start ≡ place + width (joined trivia)
  pub stopping : List Diagnostic
  pub outcome : Outcome division cut source text place t [] stopping
  pub comments_are : comments ≡ each_at (comment_at t.span.start) place trivia
  pub blanks_are : blanks ≡ each_at irregular_at place trivia
  pub faults_are : faults ≡ each_at (html_fault_at (in_a_module source)) place trivia ++ stopping

-- the faults of a lexeme itself: of a regular expression each wrong flag (12.9.5)
abbrev pub OwnFaults : LexicalGoal → List ℕ → Token → List Diagnostic → Type 0
OwnFaults regular_expression text t own = (pattern_end : ℕ) × FlagsStand text pattern_end t own
OwnFaults _ text t own = own ≡ []

-- A sign was read again, by another lexical goal or as the whole of a punctuator that begins with `>`: this token is given in its place. The faults are those of the lexeme that stands there, or what stops, where none of the goal does.
pub record ReadsAs (g : LexicalGoal) (source : Goal) (text : List ℕ) (place : ℕ) (sign t : Token) (faults : List Diagnostic) : Type 0 where
  pub may_be : may_be_read_again sign.kind ≡ true
  pub start : t.span.start ≡ sign.span.start
  pub own : List Diagnostic
  pub own_faults : OwnFaults g text t own
  pub outcome : Outcome g (λ z. z) source text place t own faults

-- One lexeme further: what comes with the next token is kept.
abbrev pub further : Stage → Lexeme → Token → List Comment → List Span → List Diagnostic → Stage
further s x t comments blanks faults = record { place = x.to; token = t; comments = s.comments ++ comments; blanks = s.blanks ++ blanks; faults = s.faults ++ faults }

-- Lexemes lead from one stage to another, each one told by the token before it is passed.
pub data Leads (source : Goal) (text : List ℕ) (old : Stage) : Stage → Type 0 where
  stays : Leads source text old old
  passes : {s : Stage} {x : Lexeme} {t : Token} {comments : List Comment} {blanks : List Span} {faults : List Diagnostic} → Leads source text old s → NextLexeme all_faults text s.place x → Tells x s.token → ComesWith source text x.to t comments blanks faults → Leads source text old (further s x t comments blanks faults)
  reads_again : {s : Stage} {t : Token} {faults : List Diagnostic} (g : LexicalGoal) → Leads source text old s → ReadsAs g source text s.place s.token t faults → Leads source text old (record s { token = t; faults = s.faults ++ faults })

-- where a text begins: at its start, or behind a hashbang comment, where one stands (12.5)
pub data Begins (source : Goal) (text : List ℕ) : Stage → Type 0 where
  at_start : {t : Token} {comments : List Comment} {blanks : List Span} {faults : List Diagnostic} → ((x : Lexeme) → LexemeBehind hashbang text 0 x → ⊥) → ComesWith source text 0 t comments blanks faults → Begins source text (record { place = 0; token = t; comments = comments; blanks = blanks; faults = faults })
  behind_hashbang : {x : Lexeme} {t : Token} {comments : List Comment} {blanks : List Span} {faults : List Diagnostic} → LexemeBehind hashbang text 0 x → ComesWith source text x.to t comments blanks faults → Begins source text (record { place = x.to; token = t; comments = comments; blanks = blanks; faults = faults })

-- The parser is at a stage of its text.
pub record CameTo (source : Goal) (text : List ℕ) (s : Stage) : Type 0 where
  pub first : Stage
  pub begins : Begins source text first
  pub leads : Leads source text first s
