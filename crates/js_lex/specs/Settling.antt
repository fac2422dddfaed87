-- The token that is made of what a scan answers, and what is kept of it.
use Rattle.std.specs.Prelude.{ℕ, ◌+◌, ◌≡◌, ◌<◌, ◌≤◌, Bool, true, false, List, [], ◌∷◌, Option, Some, None, Result, Ok, Err, IsCharBoundary}
use Rattle.js_base.specs.declared.kind.Kind.TheVariants.{RAngle, Undetermined}
use Rattle.js_base.specs.declared.token.Token.{Token}
use Rattle.js_base.specs.declared.diagnostic.Diagnostic.{Diagnostic}
use Rattle.part_words.specs.declared.scan.Scanned.{Scanned}
use Rattle.part_words.specs.declared.scan.Fault.{Fault}
use Rattle.js_lex.specs.declared.output.LexerOutput.{LexerOutput}
use Rattle.js_lex.specs.Kept.{Grows}
use Rattle.js_lex.specs.Reading.{is_right_angle, kept_token, relexed, flag_faults, GivesNext}
use Rattle.part_words.specs.js_grammar.Settings.{Goal}
use Rattle.part_words.specs.js_grammar.Lexemes.{division}
use Rattle.part_words.specs.Places.{Word}
use Rattle.part_words.specs.Scans.{IsScanned}
use Rattle.js_lex.specs.TriviaPassed.{NoTrivia}
use Rattle.part_scan.specs.declared.regular_expression.RegularExpression.{RegularExpression}

-- of a punctuator that begins with `>`, the sign alone
abbrev pub shown : ℕ → Scanned → Scanned
shown start s = elim (is_right_angle s.kind) [ true ↦ record { kind = RAngle; end = start + 1; escaped = s.escaped; has_separator = s.has_separator } | false ↦ s ]

abbrev pub token_of : Scanned → ℕ → Bool → Token
token_of s start newline = record { kind = s.kind; span = record { start = start; end = s.end }; is_on_new_line = newline; escaped = s.escaped; has_separator = s.has_separator }

abbrev pub undetermined_of : Fault → ℕ → Bool → Token
undetermined_of f start newline = record { kind = Undetermined; span = record { start = start; end = f.end }; is_on_new_line = newline; escaped = false; has_separator = false }

abbrev pub diagnostic_of : Fault → Diagnostic
diagnostic_of f = record { kind = f.kind; span = record { start = f.start; end = f.end }; first = None; second = None }

-- the places lie in a text of which a place fits
abbrev pub Fits : ℕ → ℕ → Result Scanned Fault → Type 0
Fits most start (Ok s) = (start ≤ s.end) × (s.end ≤ most)
Fits most start (Err f) = (start ≤ f.start) × (f.start < f.end) × (f.end ≤ most)

-- the token, the tokens and the faults that are kept
abbrev pub Settled : Bool → ℕ → Bool → Result Scanned Fault → LexerOutput → LexerOutput → Token → Type 0
Settled keeps start newline (Ok s) old new t = (t ≡ token_of s start newline) × Grows old new [] [] (kept_token keeps t) []
Settled keeps start newline (Err f) old new t = (t ≡ undetermined_of f start newline) × Grows old new [] [] [] (diagnostic_of f ∷ [])

abbrev pub shown_scan : ℕ → Result Scanned Fault → Result Scanned Fault
shown_scan start (Ok s) = Ok (shown start s)
shown_scan start (Err f) = Err f

-- the same, of a token that is read again: in place of the one kept last
abbrev pub SettledAgain : Bool → Token → Result Scanned Fault → LexerOutput → LexerOutput → Token → Type 0
SettledAgain keeps given (Ok s) old new t = (t ≡ token_of s given.span.start given.is_on_new_line) × (new ≡ record { comments = old.comments; irregular_whitespaces = old.irregular_whitespaces; tokens = relexed keeps old.tokens t; errors = old.errors })
SettledAgain keeps given (Err f) old new t = (t ≡ undetermined_of f given.span.start given.is_on_new_line) × Grows old new [] [] [] (diagnostic_of f ∷ [])

-- behind the pattern of a regular expression its flags stand
abbrev pub HasFlags : List ℕ → Option RegularExpression → Type 0
HasFlags text None = Unit {0}
HasFlags text (Some r) = IsCharBoundary text r.pattern_end × ((fs : List ℕ) × Word text r.pattern_end r.end fs)

-- what is kept of them: the fault that each wrong one is
abbrev pub FlagsKept : List ℕ → Option RegularExpression → LexerOutput → LexerOutput → Type 0
FlagsKept text None old new = new ≡ old
FlagsKept text (Some r) old new = (fs : List ℕ) → Word text r.pattern_end r.end fs → Grows old new [] [] [] (flag_faults r.pattern_end [] fs)

-- behind them what a scan answers is settled
pub record SettledBehind (text : List ℕ) (keeps : Bool) (given : Token) (scan : Result Scanned Fault) (flags : Option RegularExpression) (old new : LexerOutput) (t : Token) : Type 0 where
  pub mid : LexerOutput
  pub flags_kept : FlagsKept text flags old mid
  pub settled : SettledAgain keeps given scan mid new t

-- what was scanned ends between characters, and a fault begins so
abbrev pub ScanEnds : List ℕ → Result Scanned Fault → Type 0
ScanEnds text (Ok s) = IsCharBoundary text s.end
ScanEnds text (Err f) = IsCharBoundary text f.start × IsCharBoundary text f.end

-- the token that follows a place, of which nothing is kept where no tokens are
abbrev pub GivesAtOnce : List ℕ → ℕ → Token → Type 0
GivesAtOnce text s t = (goal : Goal) (kept : LexerOutput) → GivesNext division (record { text = text; goal = goal; keeps_tokens = false; place = s; kept = kept }) (record { text = text; goal = goal; keeps_tokens = false; place = t.span.end; kept = kept }) t

-- the token tells the lexeme at the place i, where no trivia begins
pub record TellsLexeme (text : List ℕ) (i : ℕ) (newline : Bool) (t : Token) : Type 0 where
  pub scanned : Scanned
  pub is : IsScanned division text i scanned
  pub no_trivia : NoTrivia text i
  pub token : t ≡ token_of (shown i scanned) i newline
