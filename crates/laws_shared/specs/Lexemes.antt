-- The lexemes that the parse functions read: all but a hashbang comment. Nothing is derived over another one.
use Rattle.std.specs.Prelude.{ℕ, ◌-◌, ◌≡◌, Bool, true, false, not, cond, ◌&&◌, List, [], ◌∷◌, ◌++◌, length, take, IsTrue}
use Rattle.js_base.specs.declared.diagnostic.Diagnostic.{Diagnostic}
use Rattle.js_base.specs.declared.kind.Kind.{Kind}
use Rattle.js_base.specs.declared.kind.Kind.TheVariants.{Ident, Yield, Await, RegExp, TemplateMiddle, TemplateTail, Slash, SlashEq, RCurly}
use Rattle.js_base.specs.Kinds.{same_kind, one_of_kinds}
use Rattle.js_base.specs.KindSets.{binding_identifier_kinds}
use Rattle.js_grammar.specs.Grammar.{Lexeme, Lexemes, next}
use Rattle.js_grammar.specs.Lexed.{NextLexeme, Lexes, all_faults}
use Rattle.js_grammar.specs.Lexemes.{LexicalGoal, division, regular_expression, template_tail}
pub use Rattle.js_grammar.specs.ReadLexemes.{unread_kinds, is_read_kind, is_read, Faultless}
use Rattle.js_grammar.specs.Settings.{Goal}
use Rattle.js_base.specs.declared.span.Span.{Span}
use Rattle.js_base.specs.declared.token.Token.{Token}
use Rattle.js_cursor.specs.js_lex.declared.comment.Comment.{Comment}
use Rattle.js_cursor.specs.js_lex.declared.output.LexerOutput.{LexerOutput}
use Rattle.js_cursor.specs.js_lex.Comments.{each_at, comment_at, irregular_at}
use Rattle.js_cursor.specs.js_lex.Reading.{Tells, is_kept, kept_token}
use Rattle.js_cursor.specs.js_lex.States.{State}
use Rattle.js_cursor.specs.Parsers.{Parser}
use Rattle.js_cursor.specs.Places.{goal}

-- Whether it is a name by the parameters Yield and Await (ECMA-262, 13.1): a name or a word that isn't reserved, but for `yield` under Yield and `await` under Await.
abbrev pub may_name : Bool → Bool → Kind → Bool
may_name yields awaits Yield = not yields
may_name yields awaits Await = not awaits
may_name yields awaits k = one_of_kinds binding_identifier_kinds k

-- The signs that may stand where a regular expression begins: which of them it is depends on the lexical goal (ECMA-262, 12).
abbrev pub slashes : List Kind
slashes = Slash ∷ SlashEq ∷ []

-- the parts of a template that begin with `}`
abbrev pub template_tails : List Kind
template_tails = TemplateMiddle ∷ TemplateTail ∷ []

-- what other lexical goals than the plain one give
abbrev pub other_goals : List Kind
other_goals = RegExp ∷ template_tails

-- the lexical goal of a kind that is read
abbrev pub goal_for : Kind → LexicalGoal
goal_for k = cond (same_kind RegExp k) regular_expression (cond (one_of_kinds template_tails k) template_tail division)

-- the signs, by the plain lexical goal, with which a lexeme of another one begins
abbrev pub signs_of : Kind → List Kind
signs_of k = cond (same_kind RegExp k) slashes (cond (one_of_kinds template_tails k) (RCurly ∷ []) [])

-- all of these signs
abbrev pub signs : List Kind
signs = RCurly ∷ slashes

-- Whether a lexeme of this kind has an escape, and is no plain name: a word of the keyword table, which is no keyword then (ECMA-262, 12.7.2).
abbrev pub escaped_word : Kind → Bool → Bool
escaped_word k e = e && not (same_kind Ident k)

-- Which keyword a token is: with an escape it is a name and none.
abbrev pub keyword_kind : Token → Kind
keyword_kind t = cond t.escaped Ident t.kind

-- y may be the next lexeme behind the place s, and is one of those
abbrev pub Lex : List ℕ → ℕ → Lexeme → Type 0
Lex text s y = NextLexeme all_faults text s y × IsTrue (is_read y)

-- It is read by the plain lexical goal.
abbrev pub is_plain : Lexeme → Bool
is_plain y = is_read y && not (one_of_kinds other_goals y.kind)

abbrev pub Plain : List ℕ → ℕ → Lexeme → Type 0
Plain text s y = NextLexeme all_faults text s y × IsTrue (is_plain y)

-- the lexeme of the plain lexical goal that stands there has no fault
abbrev pub IsRight : Goal → List ℕ → ℕ → Type 0
IsRight source text place = (y : Lexeme) → Lex text place y → one_of_kinds other_goals y.kind ≡ false → Faultless source text place y

-- These faults were kept for what stands behind the place, as it is read by the plain lexical goal: none, where the lexeme that stands there has none; some, where it has one, or where none stands. A lexeme of another goal has those too, and may have others.
pub record KeptFor (source : Goal) (text : List ℕ) (place : ℕ) (faults : List Diagnostic) : Type 0 where
  pub none : faults ≡ [] → IsRight source text place
  pub some : (faults ≡ [] → ⊥) → (y : Lexeme) → Faultless source text place y → ⊥

-- These comments and this white space were kept for the place: those of the trivia before the lexeme that stands there.
abbrev pub TriviaKept : List ℕ → ℕ → List Comment → List Span → Type 0
TriviaKept text place comments blanks = (y : Lexeme) (l : NextLexeme all_faults text place y) → (comments ≡ each_at (comment_at y.from) place l.trivia) × (blanks ≡ each_at irregular_at place l.trivia)

-- The tokens that a lexer kept before the current one.
abbrev pub kept_before : State → Token → List Token
kept_before l t = take (length l.kept.tokens - cond (l.keeps_tokens && is_kept t.kind) 1 0) l.kept.tokens

-- the current token was kept last, where any are kept
abbrev pub KeptLast : State → Token → Type 0
KeptLast l t = l.kept.tokens ≡ kept_before l t ++ kept_token l.keeps_tokens t

-- A place in a text that is read for a goal, whether tokens are kept, and what was kept on the way there: the tokens of the lexemes before it; comments, white space and faults of what stands behind it too.
pub record Spot : Type 0 where
  pub source : Goal
  pub keeps_tokens : Bool
  pub place : ℕ
  pub kept : LexerOutput

abbrev pub spot : Parser → Spot
spot p = record { source = goal p; keeps_tokens = p.lexer.keeps_tokens; place = p.prev_token_end; kept = record p.lexer.kept { tokens = kept_before p.lexer p.token } }

-- What is kept as one lexeme is passed: its token; and of what stands behind it comments, white space and faults.
pub record News : Type 0 where
  pub token : Token
  pub comments : List Comment
  pub blanks : List Span
  pub faults : List Diagnostic

abbrev pub onward : Spot → Lexeme → News → Spot
onward s x n = record {
  source = s.source;
  keeps_tokens = s.keeps_tokens;
  place = x.to;
  kept = record {
    comments = s.kept.comments ++ n.comments;
    irregular_whitespaces = s.kept.irregular_whitespaces ++ n.blanks;
    tokens = s.kept.tokens ++ kept_token s.keeps_tokens n.token;
    errors = s.kept.errors ++ n.faults;
  };
}

-- The lexeme stands there, by whichever lexical goal, the token tells it, and the rest is what is kept for what stands behind it.
pub record IsNew (text : List ℕ) (s : Spot) (x : Lexeme) (n : News) : Type 0 where
  pub stood : NextLexeme all_faults text s.place x
  pub tells : Tells x n.token
  pub counts : is_kept n.token.kind ≡ true
  pub faults : KeptFor s.source text x.to n.faults
  pub trivia : TriviaKept text x.to n.comments n.blanks

-- with faults that were kept since
abbrev pub with_faults : Spot → List Diagnostic → Spot
with_faults s ds = record s { kept = record s.kept { errors = s.kept.errors ++ ds } }

-- A lexeme of another goal was read where one of its signs stood, and these faults were kept then: none, where it has none but those of what stands before it; some, where a flag of a regular expression is wrong (12.9.5).
pub record IsReread (text : List ℕ) (s : Spot) (x : Lexeme) (faults : List Diagnostic) : Type 0 where
  pub is : one_of_kinds other_goals x.kind ≡ true
  pub none : faults ≡ [] → IsRight s.source text s.place → Faultless s.source text s.place x
  pub some : (faults ≡ [] → ⊥) → Faultless s.source text s.place x → ⊥

-- Lexemes, one behind the other, lead from one place to another, with what was kept for each: `pass` puts them before those from there on. A lexeme of another goal is read again in place, and its own faults are kept then. Where not all of the lexemes are read, more faults may have been kept for a place: no part of a template ends there, or no regular expression does.
pub data Walked (text : List ℕ) (s : Spot) : Spot → (Lexemes → Lexemes) → Type 0 where
  nowhere : Walked text s s (λ ls. ls)
  one_more : {s' : Spot} {pass : Lexemes → Lexemes} {x : Lexeme} {n : News} → Walked text s s' pass → IsNew text s' x n → one_of_kinds other_goals x.kind ≡ false → Walked text s (onward s' x n) (λ ls. pass (next x ls))
  read_again : {s' : Spot} {pass : Lexemes → Lexemes} {x : Lexeme} {n : News} → Walked text s s' pass → (ds : List Diagnostic) → IsReread text s' x ds → IsNew text s' x n → Walked text s (onward (with_faults s' ds) x n) (λ ls. pass (next x ls))
  more_faults : {s' : Spot} {pass : Lexemes → Lexemes} → Walked text s s' pass → (ds : List Diagnostic) → ((ls : Lexemes) → Lexes (Lex text) s.place (pass ls) → ⊥) → Walked text s (with_faults s' ds) pass
