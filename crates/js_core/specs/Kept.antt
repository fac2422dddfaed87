-- What is kept of a text beside its tree: the comments, the white space and the tokens of its lexemes.
use Rattle.std.specs.Prelude.{ℕ, ◌≡◌, Bool, true, false, List, [], ◌∷◌, ◌++◌}
use Rattle.js_base.specs.declared.span.Span.{Span}
use Rattle.js_base.specs.declared.token.Token.{Token}
use Rattle.js_grammar.specs.Trees.{Tree}
use Rattle.js_grammar.specs.Grammar.{Lexeme, Lexemes, last, next}
use Rattle.js_grammar.specs.Lexed.{Lexes}
use Rattle.js_grammar.specs.Options.{Options}
use Rattle.js_grammar.specs.Settings.{Goal}
use Rattle.parse_shared.specs.js_lex.Comments.{each_at, comment_at, irregular_at}
use Rattle.parse_shared.specs.js_lex.Reading.{Tells}
use Rattle.parse_shared.specs.js_lex.declared.comment.Comment.{Comment}
use Rattle.parse_shared.specs.js_lex.declared.output.LexerOutput.{LexerOutput}
use Rattle.parse_shared.specs.laws_shared.Lexemes.{Faultless}
use Rattle.js_core.specs.Readings.{AreRead, from_text_start, behind_a_hashbang, ReadingBy, Reading}

-- what the trivia before each lexeme gives, one behind the other
abbrev pub each_of : {A : Type 0} → (Lexeme → ℕ → List (List ℕ) → List A) → (text : List ℕ) (goal : Goal) (s : ℕ) (ls : Lexemes) → Lexes (Faultless goal text) s ls → List A
each_of f text goal s (last x) l = f x s l.0.trivia
each_of f text goal s (next x ls) l = f x s l.0.0.trivia ++ each_of f text goal x.to ls l.1

-- the same of the lexemes of a reading: before a hashbang comment nothing stands
abbrev pub each_read : {A : Type 0} → (Lexeme → ℕ → List (List ℕ) → List A) → (text : List ℕ) (goal : Goal) (ls : Lexemes) → AreRead text goal ls → List A
each_read f text goal ls (from_text_start l) = each_of f text goal 0 ls l
each_read f text goal ls (behind_a_hashbang b) = each_of f text goal b.comment.to b.others b.lexed

-- comments, each attached to the lexeme behind it
abbrev pub comments_before : Lexeme → ℕ → List (List ℕ) → List Comment
comments_before x s pieces = each_at (comment_at x.from) s pieces

-- white space and line terminators other than space, tab, CR and LF
abbrev pub blanks_before : Lexeme → ℕ → List (List ℕ) → List Span
blanks_before x s pieces = each_at irregular_at s pieces

-- the tokens tell the lexemes, one by one, but the end
abbrev pub TellsEach : Lexemes → List Token → Type 0
TellsEach (last x) ts = ts ≡ []
TellsEach (next x ls) [] = ⊥
TellsEach (next x ls) (t ∷ ts) = Tells x t × TellsEach ls ts

-- of the lexemes of a reading: a hashbang comment has no token
abbrev pub TellsRead : (text : List ℕ) (goal : Goal) (ls : Lexemes) → AreRead text goal ls → List Token → Type 0
TellsRead text goal ls (from_text_start l) ts = TellsEach ls ts
TellsRead text goal ls (behind_a_hashbang b) ts = TellsEach b.others ts

-- What was kept is of the lexemes of this reading: their comments and white space; and their tokens, where these were asked for.
pub record IsKeptOf {cover : Bool} {text : List ℕ} {goal : Goal} {o : Options} {t : Tree} (r : ReadingBy cover text goal o t) (asks : Bool) (out : LexerOutput) : Type 0 where
  pub comments : out.comments ≡ each_read comments_before text goal r.lexemes r.lexed
  pub blanks : out.irregular_whitespaces ≡ each_read blanks_before text goal r.lexemes r.lexed
  pub tokens : asks ≡ true → TellsRead text goal r.lexemes r.lexed out.tokens

-- Tokens are kept only where they were asked for. Where nothing was found, what was kept is of the lexemes of each reading.
pub record KeepsRight (text : List ℕ) (goal : Goal) (o : Options) (asks : Bool) (out : LexerOutput) : Type 0 where
  pub unasked : asks ≡ false → out.tokens ≡ []
  pub kept : out.errors ≡ [] → (t : Tree) (r : Reading text goal o t) → IsKeptOf r.strict asks out
