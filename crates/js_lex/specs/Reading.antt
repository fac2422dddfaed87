-- What a call of a lexer that reads answers, and what it keeps (ECMA-262, chapter 12).
use Rattle.std.specs.Prelude.{ℕ, ◌+◌, ◌≡◌, ◌⊎◌, Bool, true, false, not, ◌&&◌, ◌||◌, List, [], ◌∷◌, ◌++◌, codes, chars, slice_range, Some, None, IsCharBoundary, IsUtf8}
use Rattle.std.specs.List.{All}
use Rattle.js_base.specs.declared.kind.Kind.{Kind}
use Rattle.js_base.specs.declared.kind.Kind.TheVariants.{RAngle, GtEq, ShiftRight, ShiftRightEq, ShiftRight3, ShiftRight3Eq, HashbangComment, Eof, Undetermined}
use Rattle.js_base.specs.declared.token.Token.{Token}
use Rattle.js_base.specs.declared.diagnostic.Diagnostic.{Diagnostic}
use Rattle.js_base.specs.declared.diagnostic.DiagnosticKind.TheVariants.{RegExpFlag}
use Rattle.js_base.specs.Kinds.{same_kind, one_of_kinds}
use Rattle.js_base.specs.Spans.{LiesIn}
use Rattle.js_base.specs.part_text.Characters.{one_of}
use Rattle.js_base.specs.part_memory.Lists.{replaced}
use Rattle.part_words.specs.js_grammar.Grammar.{Lexeme}
use Rattle.part_words.specs.js_grammar.Settings.{Goal}
use Rattle.part_words.specs.js_grammar.Characters.{width, has_line_terminator}
use Rattle.part_words.specs.js_grammar.Longest.{joined}
use Rattle.part_words.specs.js_grammar.Lexemes.{LexicalGoal, division, hashbang, is_separated}
use Rattle.part_words.specs.js_grammar.Lexed.{Stands, in_module, passing_of}
use Rattle.part_words.specs.js_grammar.RegularExpressions.{flags}
use Rattle.part_words.specs.js_grammar.LexicalFaults.{behind, Due, Stopping, FaultyBehind}
use Rattle.js_lex.specs.Comments.{comment_at, irregular_at, html_fault_at, each_at}
use Rattle.js_lex.specs.Kept.{Grows}
use Rattle.part_words.specs.Places.{Word}
use Rattle.part_words.specs.Faults.{fault_kind, Reaches}
use Rattle.part_words.specs.Scans.{NoLexeme}
use Rattle.js_lex.specs.States.{State, SameText}
pub use Rattle.part_words.specs.js_grammar.Lexed.{LexemeBehind}

-- ---- a token and the lexeme that it tells

-- a punctuator that begins with `>`
abbrev pub is_right_angle : Kind → Bool
is_right_angle = one_of_kinds (RAngle ∷ GtEq ∷ ShiftRight ∷ ShiftRightEq ∷ ShiftRight3 ∷ ShiftRight3Eq ∷ [])

-- Of a punctuator that begins with `>` the plain goal gives this sign alone.
abbrev pub cut : Lexeme → Lexeme
cut y = elim (is_right_angle y.kind) [ true ↦ record { kind = RAngle; from = y.from; to = y.from + 1; newline = y.newline; escaped = y.escaped; units = y.units } | false ↦ y ]

-- the token tells kind, span and marks of a lexeme
pub record Tells (y : Lexeme) (t : Token) : Type 0 where
  pub kind : t.kind ≡ y.kind
  pub start : t.span.start ≡ y.from
  pub end : t.span.end ≡ y.to
  pub newline : t.is_on_new_line ≡ y.newline
  pub escaped : t.escaped ≡ y.escaped

-- behind the place s stands a lexeme of the goal, which the token tells, with its mark "has a separator"
pub record GivesLexeme (goal : LexicalGoal) (shown : Lexeme → Lexeme) (text : List ℕ) (s : ℕ) (t : Token) : Type 0 where
  pub lexeme : Lexeme
  pub stands : LexemeBehind goal text s lexeme
  pub tells : Tells (shown lexeme) t
  pub separated : t.has_separator ≡ is_separated lexeme.kind stands.lex.word

-- None does. The fault is one that stops: it has what its kind says where the lexeme was due, which is where the token begins; which fault it is, and how far it goes, is settled. The token ends where it does.
pub record GivesNone (goal : LexicalGoal) (source : Goal) (text : List ℕ) (s : ℕ) (t : Token) (d : Diagnostic) : Type 0 where
  pub none : (y : Lexeme) → LexemeBehind goal text s y → ⊥
  pub due : Due text s t.span.start
  pub stops : Stopping d.kind text t.span.start d.span.start d.span.end
  pub told : d.kind ≡ fault_kind (behind text t.span.start)
  pub reaches : Reaches d.kind text d.span.start d.span.end
  pub faulty : FaultyBehind d.kind source text s d.span.start d.span.end
  pub end : t.span.end ≡ d.span.end
  pub escaped : t.escaped ≡ false
  pub separated : t.has_separator ≡ false
  pub no_first : d.first ≡ None
  pub no_second : d.second ≡ None

-- Which of the two holds is told by the kind; these faults are kept, where `going_on` are those of the lexeme itself.
abbrev pub Outcome : LexicalGoal → (Lexeme → Lexeme) → Goal → List ℕ → ℕ → Token → List Diagnostic → List Diagnostic → Type 0
Outcome goal shown source text s t going_on faults = elim (same_kind Undetermined t.kind) [ true ↦ (d : Diagnostic) × (faults ≡ d ∷ []) × GivesNone goal source text s t d | false ↦ (faults ≡ going_on) × GivesLexeme goal shown text s t ]

-- ---- what is kept

abbrev pub in_a_module : Goal → Bool
in_a_module g = elim (passing_of g) [ in_module ↦ true | _ ↦ false ]

-- a hashbang, the end of the text and what is no lexeme aren't kept
abbrev pub is_kept : Kind → Bool
is_kept k = not (one_of_kinds (HashbangComment ∷ Eof ∷ Undetermined ∷ []) k)

abbrev pub kept_token : Bool → Token → List Token
kept_token keeps t = elim (keeps && is_kept t.kind) [ true ↦ t ∷ [] | false ↦ [] ]

-- a token that is read once more is put in place of the one kept last
abbrev pub relexed : Bool → List Token → Token → List Token
relexed keeps ts t = elim (keeps && is_kept t.kind) [ true ↦ replaced ts t | false ↦ ts ]

-- ---- the calls

-- The next token: trivia is passed, as much as stands there, and the lexeme of the goal behind it is given, or none. Each HTML-like comment that is kept as a fault in a module is one behind the old place.
pub record GivesNext (goal : LexicalGoal) (old new : State) (t : Token) : Type 0 where
  pub same : SameText old new
  pub utf8 : IsUtf8 old.text
  pub between : IsCharBoundary old.text old.place
  pub pieces : List (List ℕ)
  pub stands : Stands old.text old.place pieces [] (behind old.text t.span.start)
  pub start : t.span.start ≡ old.place + width (joined pieces)
  pub newline : t.is_on_new_line ≡ has_line_terminator (joined pieces)
  pub place : new.place ≡ t.span.end
  pub lies : LiesIn t.span old.text
  pub faults : List Diagnostic
  pub outcome : Outcome goal cut old.goal old.text old.place t [] faults
  pub grows : Grows old.kept new.kept (each_at (comment_at t.span.start) old.place pieces) (each_at irregular_at old.place pieces) (kept_token old.keeps_tokens t) (each_at (html_fault_at (in_a_module old.goal)) old.place pieces ++ faults)
  pub marked : All (λ d. FaultyBehind d.kind old.goal old.text old.place d.span.start d.span.end) (each_at (html_fault_at (in_a_module old.goal)) old.place pieces)

-- the token that stands behind a place of a text, as the next one there
pub record GivesBehind (text : List ℕ) (place : ℕ) (t : Token) : Type 0 where
  pub before : State
  pub after : State
  pub text_is : before.text ≡ text
  pub place_is : before.place ≡ place
  pub next : GivesNext division before after t

-- The first token: a hashbang comment, behind which nothing is kept, where one stands at the text's start; else the next token.
pub record GivesHashbang (old new : State) (t : Token) : Type 0 where
  pub same : SameText old new
  pub lies : LiesIn t.span old.text
  pub gives : GivesLexeme hashbang (λ y. y) old.text 0 t
  pub place : new.place ≡ t.span.end
  pub kept : new.kept ≡ old.kept

abbrev pub GivesFirst : State → State → Token → Type 0
GivesFirst old new t = GivesHashbang old new t ⊎ (NoLexeme hashbang old.text 0 × GivesNext division old new t)

-- ---- to read a token again, by another lexical goal

-- The lexer gave the token last, as the lexeme of the plain goal that stands behind a place between characters.
pub record WasGiven (old : State) (t : Token) : Type 0 where
  pub place : old.place ≡ t.span.end
  pub lies : LiesIn t.span old.text
  pub before : ℕ
  pub between : IsCharBoundary old.text before
  pub lexeme : Lexeme
  pub stands : LexemeBehind division old.text before lexeme
  pub tells : Tells (cut lexeme) t

-- In place of a token another one is given that begins where it does: the lexeme of the goal that stands behind the same trivia, or none.
pub record GivesAgain (goal : LexicalGoal) (old new : State) (given t : Token) (going_on faults : List Diagnostic) : Type 0 where
  pub same : SameText old new
  pub start : t.span.start ≡ given.span.start
  pub newline : t.is_on_new_line ≡ given.is_on_new_line
  pub place : new.place ≡ t.span.end
  pub lies : LiesIn t.span old.text
  pub outcome : (s : ℕ) (y : Lexeme) → IsCharBoundary old.text s → LexemeBehind division old.text s y → Tells (cut y) given → Outcome goal (λ z. z) old.goal old.text s t going_on faults
  -- each fault that goes on is one behind the same place
  pub marked : (s : ℕ) (y : Lexeme) → IsCharBoundary old.text s → LexemeBehind division old.text s y → Tells (cut y) given → All (λ d. FaultyBehind d.kind old.goal old.text s d.span.start d.span.end) going_on
  pub comments : new.kept.comments ≡ old.kept.comments
  pub blanks : new.kept.irregular_whitespaces ≡ old.kept.irregular_whitespaces
  pub tokens : new.kept.tokens ≡ relexed old.keeps_tokens old.kept.tokens t
  pub errors : new.kept.errors ≡ old.kept.errors ++ faults

-- ---- flags of a regular expression

-- whether a flag is none of the eight, or stood before
abbrev pub is_wrong_flag : List ℕ → ℕ → Bool
is_wrong_flag before flag = not (one_of (codes "dgimsuvy") flag) || one_of before flag

-- the faults that flags are, of which the first stands at a place, behind others
abbrev pub flag_faults : ℕ → List ℕ → List ℕ → List Diagnostic
flag_faults i before [] = []
flag_faults i before (f ∷ fs) = elim (is_wrong_flag before f) [ true ↦ record { kind = RegExpFlag; span = record { start = i; end = i + width (f ∷ []) }; first = None; second = None } ∷ flag_faults (i + width (f ∷ [])) (before ++ f ∷ []) fs | false ↦ flag_faults (i + width (f ∷ [])) (before ++ f ∷ []) fs ]

-- A regular expression, and the place at which its pattern ends: behind it stand the flags, each wrong one is a fault. Where none stands, the place is the token's end.
abbrev pub FlagsStand : List ℕ → ℕ → Token → List Diagnostic → Type 0
FlagsStand text pattern_end t going_on = elim (same_kind Undetermined t.kind) [ true ↦ pattern_end ≡ t.span.end | false ↦ (fs : List ℕ) × Word text pattern_end t.span.end fs × (flags (chars (slice_range text t.span.start t.span.end)) ≡ Some fs) × (going_on ≡ flag_faults pattern_end [] fs) ]
