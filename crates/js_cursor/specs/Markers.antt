-- Markers of a merge conflict, as they are looked for lexeme by lexeme.
use Rattle.std.specs.Prelude.{ℕ, ◌≡◌, ◌⊎◌, true, false, List, [], length, Option, Some, None}
use Rattle.js_base.specs.declared.kind.Kind.TheVariants.{Undetermined, Eof}
use Rattle.js_base.specs.declared.span.Span.{Span}
use Rattle.js_base.specs.declared.token.Token.{Token}
use Rattle.js_base.specs.Spans.{LiesIn}
use Rattle.js_tree.specs.js_grammar.Grammar.{Lexeme, Lexemes}
use Rattle.js_tree.specs.js_grammar.Lexed.{Lexes, end_of}
use Rattle.js_tree.specs.js_grammar.Marks.{Plain, NoPlain, Markers, Unrelated, begins_marker, middle_marker, closing_marker, seven_from}
use Rattle.js_lex.specs.Kept.{Extends}
use Rattle.js_lex.specs.Reading.{Tells}
use Rattle.js_lex.specs.States.{State, SameText}
use Rattle.js_cursor.specs.declared.marker.Partners.{Partners}

-- what a token tells of a lexeme
abbrev pub lexeme_of : Token → Lexeme
lexeme_of t = record { kind = t.kind; from = t.span.start; to = t.span.end; newline = t.is_on_new_line; escaped = t.escaped; units = [] }

-- where the token begins with these signs, their span
abbrev pub marker_of : List ℕ → List ℕ → Token → Option Span
marker_of signs text t = elim (begins_marker signs text (lexeme_of t)) [ true ↦ Some (seven_from t.span.start) | false ↦ None ]

abbrev pub or_else : Option Span → Option Span → Option Span
or_else (Some s) o = Some s
or_else None o = o

-- the marker of `=`, unless the one of `>` came before
abbrev pub middle_with : Option Span → Option Span → Option Span → Option Span
middle_with (Some c) middle o = middle
middle_with None middle o = or_else middle o

-- The next lexeme of the plain goal, told whole, or none; what was kept before is still there.
pub record GivesPlain (old new : State) (t : Token) : Type 0 where
  pub same : SameText old new
  pub extends : Extends old.kept new.kept
  pub place : new.place ≡ t.span.end
  pub lies : LiesIn t.span old.text
  pub lexeme : ((t.kind ≡ Undetermined) × NoPlain old.text old.place) ⊎ ((t.kind ≡ Undetermined → ⊥) × (x : Lexeme) × Plain old.text old.place x × Tells x t × (x.kind ≡ Eof → x.to ≡ length old.text))

-- The markers among the lexemes of the plain goal from one place to another.
pub data Seen (text : List ℕ) (from to : ℕ) (first second : Option Span) : Type 0 where
  nothing : to ≡ from → first ≡ None → second ≡ None → Seen text from to first second
  some : (ls : Lexemes) → Lexes (Plain text) from ls → end_of ls ≡ to → first ≡ middle_marker text ls → second ≡ closing_marker text ls → Seen text from to first second

-- The markers behind a place.
abbrev pub Related : List ℕ → ℕ → Option Span → Option Span → Type 0
Related text s first second = Markers text s first second ⊎ (NoPlain text s × Unrelated first second)

-- All lexemes of the plain goal were looked at.
pub record Scanned (old new : State) (p : Partners) : Type 0 where
  pub same : SameText old new
  pub extends : Extends old.kept new.kept
  pub related : Related old.text old.place p.middle p.closing
