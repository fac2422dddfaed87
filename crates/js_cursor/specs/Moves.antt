-- What the moves over lexemes do (ECMA-262, chapter 12; 12.10 for omitted semicolons).
use Rattle.std.specs.Prelude.{ℕ, ◌+◌, ◌≡◌, ◌≤◌, ◌⊎◌, Bool, true, false, ◌||◌, List, [], ◌∷◌, ◌++◌, Option, Some, None, Result, Ok, Err}
use Rattle.js_base.specs.declared.diagnostic.Diagnostic.{Diagnostic}
use Rattle.js_base.specs.declared.diagnostic.DiagnosticKind.{DiagnosticKind}
use Rattle.js_base.specs.declared.kind.Kind.{Kind}
use Rattle.js_base.specs.declared.kind.Kind.TheVariants.{Eof, Undetermined, Semicolon, RCurly, Comma}
use Rattle.js_base.specs.declared.span.Span.{Span}
use Rattle.js_base.specs.declared.token.Token.{Token}
use Rattle.js_base.specs.Kinds.{same_kind}
use Rattle.js_tree.specs.js_grammar.Grammar.{Lexeme}
use Rattle.js_tree.specs.js_grammar.Lexemes.{LexicalGoal, division, regular_expression, template_tail}
use Rattle.js_tree.specs.js_grammar.Lexed.{NextLexeme, all_faults}
use Rattle.js_lex.specs.Reading.{Tells, GivesNext, GivesAgain, FlagsStand}
use Rattle.js_lex.specs.States.{State, SameText, goal_of}
use Rattle.js_cursor.specs.declared.stop.Stop.{Stop}
use Rattle.js_cursor.specs.declared.stop.Stop.TheVariants.{Fatal, NoMemory}
use Rattle.js_cursor.specs.declared.stop.ListStep.{ListStep}
use Rattle.js_cursor.specs.declared.stop.ListStep.TheVariants.{Element, End, EndAfterComma}
use Rattle.js_base.specs.declared.diagnostic.DiagnosticKind.TheVariants.{UnexpectedToken, ExpectToken, ExpectClosingOrSeparator, MergeConflictMarker}
use Rattle.js_cursor.specs.Notes.{NotesFailed, NotesOperand}
use Rattle.js_cursor.specs.Parsers.{Parser}
use Rattle.js_tree.specs.js_grammar.Marks.{LexemeAt, any_lexeme, opens, StandsAt, begins_some_marker, seven_from}
use Rattle.js_cursor.specs.Markers.{lexeme_of, Related}
use Rattle.js_cursor.specs.Places.{IsAt, goal}
use Rattle.js_cursor.specs.Tokens.{may_be_read_again}
use Rattle.js_cursor.specs.Stages.{ReadsAs}

-- All but the place and the lexer stays.
pub record Stays (old new : Parser) : Type 0 where
  pub text : new.text ≡ old.text
  pub source_type : new.source_type ≡ old.source_type
  pub options : new.options ≡ old.options
  pub same : SameText old.lexer new.lexer
  pub nodes : new.nodes ≡ old.nodes
  pub visits : new.visits ≡ old.visits
  pub state : new.state ≡ old.state
  pub ctx : new.ctx ≡ old.ctx
  pub errors : new.errors ≡ old.errors
  pub depth : new.depth ≡ old.depth

-- The current token tells the whole of a lexeme.
pub record IsWholeToken (p : Parser) : Type 0 where
  pub lexeme : Lexeme
  pub stood : NextLexeme all_faults p.text p.prev_token_end lexeme
  pub tells : Tells lexeme p.token

-- The current lexeme, told whole, was passed; the next one is current, as the lexer gives it.
pub record Passed (old new : Parser) : Type 0 where
  pub lexeme : Lexeme
  pub stood : NextLexeme all_faults old.text old.prev_token_end lexeme
  pub tells : Tells lexeme old.token
  pub moved : new.prev_token_end ≡ lexeme.to
  pub last : old.lexer.place ≡ lexeme.to
  pub next : GivesNext division old.lexer new.lexer new.token
  pub stays : Stays old new
  pub at : IsAt new

-- The current lexeme was read again for a goal, in its place.
pub record ReadAgain (goal : LexicalGoal) (old new : Parser) : Type 0 where
  pub going_on : List Diagnostic
  pub faults : List Diagnostic
  pub again : GivesAgain goal old.lexer new.lexer old.token new.token going_on faults
  pub may_be : may_be_read_again old.token.kind ≡ true
  pub reads_as : ReadsAs goal (goal_of old.source_type) old.text old.prev_token_end old.token new.token faults
  pub place : new.prev_token_end ≡ old.prev_token_end
  pub stays : Stays old new
  pub at : IsAt new

-- a regular expression was read, whose pattern ends there (12.9.5)
pub record IsRegularExpression (end : ℕ) (old new : Parser) : Type 0 where
  pub read : ReadAgain regular_expression old new
  pub flags : FlagsStand old.text end new.token read.going_on

-- a `}` was read again as the beginning of a template part, which has no faults of its own (12.9.6)
pub record IsTemplatePart (old new : Parser) : Type 0 where
  pub read : ReadAgain template_tail old new
  pub quiet : read.going_on ≡ []

-- what the lexer would give next, and nothing else
pub record Peeks (p : Parser) (t : Token) : Type 0 where
  pub after : State
  pub next : GivesNext division p.lexer after t
  pub only : (other : State) (u : Token) → GivesNext division p.lexer other u → u ≡ t

-- a sign that begins with `>` is told whole now, and no fault came with it
abbrev pub Completed : Parser → Parser → Type 0
Completed old new = ((old.cut ≡ false) × (new ≡ old)) ⊎ ((old.cut ≡ true) × ReadAgain division old new × (new.cut ≡ false) × (new.lexer.kept.errors ≡ old.lexer.kept.errors))

-- It is, and stands as it did.
pub record Told (old new : Parser) : Type 0 where
  pub completed : Completed old new
  pub at : IsAt new
  pub whole : (new.token.kind ≡ Undetermined → ⊥) → IsWholeToken new

-- the end of the text, or what begins no lexeme
abbrev pub is_last : Kind → Bool
is_last k = same_kind Eof k || same_kind Undetermined k

-- One lexeme on: the whole of it was passed; at the end of the text, and where no lexeme stands, all stays.
abbrev pub MovesOn : Parser → Parser → Type 0
MovesOn old new = (mid : Parser) × Completed old mid × (((is_last mid.token.kind ≡ true) × (new ≡ mid) × IsAt new) ⊎ ((is_last mid.token.kind ≡ false) × Passed mid new))

-- the current lexeme is of this kind, and no word with an escape
abbrev pub IsKind : Kind → Parser → Type 0
IsKind k p = (p.token.kind ≡ k) × (p.token.escaped ≡ false)

-- What a call answers that takes a lexeme of a kind where one stands: it was passed, or all stays.
abbrev pub Eats : Kind → Parser → Parser → Bool → Type 0
Eats k old new true = IsKind k old × MovesOn old new
Eats k old new false = (IsKind k old → ⊥) × (new ≡ old)

-- A diagnostic was kept, and nothing else changed.
pub record KeepsDiagnostic (d : Diagnostic) (old new : Parser) : Type 0 where
  pub is : new ≡ record old { errors = old.errors ++ d ∷ [] }
  pub at : IsAt new

-- A call gave up: a diagnostic was kept as the last one. Of want of memory nothing is said.
abbrev pub GivesUp : (Diagnostic → Type 0) → Parser → Parser → Stop → Type 0
GivesUp P old new Fatal = (d : Diagnostic) × P d × KeepsDiagnostic d old new
GivesUp P old new NoMemory = Unit {0}

-- Memory was refused, and no more is said.
abbrev pub OnlyMemory : Stop → Type 0
OnlyMemory Fatal = ⊥
OnlyMemory NoMemory = Unit {0}

-- The span of what stands here: of the current lexeme; and where none stands, of the fault, which was kept last.
pub data StandsHere (p : Parser) (s : Span) : Type 0 where
  at_lexeme : (p.token.kind ≡ Undetermined → ⊥) → s ≡ p.token.span → StandsHere p s
  at_fault : (before : List Diagnostic) (fault : Diagnostic) → p.token.kind ≡ Undetermined → p.lexer.kept.errors ≡ before ++ fault ∷ [] → s ≡ fault.span → StandsHere p s

-- a diagnostic of this kind of what stands here
pub record IsHere (k : DiagnosticKind) (p : Parser) (first : Option Span) (d : Diagnostic) : Type 0 where
  pub kind : d.kind ≡ k
  pub span : StandsHere p d.span
  pub is_first : d.first ≡ first
  pub no_second : d.second ≡ None

-- A merge conflict marker begins with the current token: seven signs, and the markers behind it, where they stand.
pub record IsMarker (p : Parser) (d : Diagnostic) : Type 0 where
  pub kind : d.kind ≡ MergeConflictMarker
  pub span : d.span ≡ seven_from p.token.span.start
  pub begins : begins_some_marker p.text (lexeme_of p.token) ≡ true
  pub related : Related p.text p.token.span.end d.first d.second

-- What is told of what can't stand here: the fault, where no lexeme does; a merge conflict marker, where one begins; else the lexeme.
pub data IsUnexpected (p : Parser) (d : Diagnostic) : Type 0 where
  a_fault : (before : List Diagnostic) → p.token.kind ≡ Undetermined → p.lexer.kept.errors ≡ before ++ d ∷ [] → IsUnexpected p d
  a_marker : (p.token.kind ≡ Undetermined → ⊥) → IsMarker p d → IsUnexpected p d
  a_lexeme : (p.token.kind ≡ Undetermined → ⊥) → begins_some_marker p.text (lexeme_of p.token) ≡ false → IsHere UnexpectedToken p None d → IsUnexpected p d

-- so many levels deeper, and as many less deep; nothing else changes
pub record Enters (levels : ℕ) (old new : Parser) : Type 0 where
  pub is : new ≡ record old { depth = old.depth + levels }
  pub at : IsAt new

pub record Leaves (levels : ℕ) (old new : Parser) : Type 0 where
  pub depth : new.depth + levels ≡ old.depth
  pub is : new ≡ record old { depth = new.depth }
  pub at : IsAt new

-- It was noted that no head of an arrow function stands at a place, under the parameters that are in force; nothing else changes.
pub record NotesArrow (place : ℕ) (old new : Parser) : Type 0 where
  pub is : new ≡ record old { state = new.state }
  pub noted : NotesFailed old.ctx place old.state new.state
  pub at : IsAt new

-- It was noted that no operand stands at a place.
pub record NotesNoOperand (place : ℕ) (old new : Parser) : Type 0 where
  pub is : new ≡ record old { state = new.state }
  pub noted : NotesOperand old.ctx place old.state new.state
  pub at : IsAt new

-- This kind of diagnostic, with this related place, may be told of whatever lexeme stands behind the place of p.
abbrev pub MayTell : DiagnosticKind → Parser → Option Span → Type 0
MayTell k p first = (s : Span) → LexemeAt any_lexeme (goal p) p.text s → p.prev_token_end ≤ s.start → StandsAt k (goal p) p.text s first None

-- a bracket was opened there, before the current lexeme
pub record Opened (p : Parser) (opening : Span) : Type 0 where
  pub bracket : LexemeAt opens (goal p) p.text opening
  pub before : opening.end ≤ p.prev_token_end

-- A lexeme of a kind is due: it was passed; or it doesn't stand here, and that was kept.
abbrev pub Expects : (Parser → Type 0) → DiagnosticKind → Option Span → Parser → Parser → Result (Unit {0}) Stop → Type 0
Expects Is k first old new (Ok x) = Is old × MovesOn old new
Expects Is k first old new (Err e) = (e ≡ Fatal → Is old → ⊥) × GivesUp (IsHere k old first) old new e

-- a semicolon, or a lexeme before which one may be left out wherever it stands (12.10)
abbrev pub ends_statement : Kind → Bool
ends_statement k = same_kind Semicolon k || (same_kind RCurly k || same_kind Eof k)

-- a statement may end here: a semicolon stands here, or may be left out
abbrev pub MayEnd : Parser → Type 0
MayEnd p = (ends_statement p.token.kind ≡ true) ⊎ (p.token.is_on_new_line ≡ true)

-- A semicolon was passed, or left out.
abbrev pub Ends : Parser → Parser → Type 0
Ends old new = ((old.token.kind ≡ Semicolon) × MovesOn old new) ⊎ ((old.token.kind ≡ Semicolon → ⊥) × MayEnd old × (new ≡ old))

abbrev pub EndsOr : Parser → Parser → Result (Unit {0}) Stop → Type 0
EndsOr old new (Ok x) = Ends old new
EndsOr old new (Err e) = (e ≡ Fatal → MayEnd old → ⊥) × GivesUp (IsHere ExpectToken old None) old new e

-- What a step in a list between brackets answers: an item comes, or the closing bracket stands here, behind a comma or not.
abbrev pub Steps : Kind → Span → Bool → Parser → Parser → Result ListStep Stop → Type 0
Steps close opening first old new (Ok (EndAfterComma at)) = (first ≡ false) × (old.token.kind ≡ Comma) × (at ≡ old.token.span.start) × MovesOn old new × (new.token.kind ≡ close)
Steps close opening first old new (Ok End) = (old.token.kind ≡ close) × (new ≡ old)
Steps close opening first old new (Ok Element) = (old.token.kind ≡ close → ⊥) × (((first ≡ true) × (new ≡ old)) ⊎ ((first ≡ false) × (old.token.kind ≡ Comma) × MovesOn old new × (new.token.kind ≡ close → ⊥)))
Steps close opening first old new (Err e) = (e ≡ Fatal → (first ≡ false) × (old.token.kind ≡ close → ⊥) × (old.token.kind ≡ Comma → ⊥)) × GivesUp (IsHere ExpectClosingOrSeparator old (Some opening)) old new e
