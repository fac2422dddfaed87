-- The marks of what is told of a lexeme, where it stands and where it was passed last.
use Rattle.std.proofs.Common.{ℕ, ◌≡◌, List, None, refl, sym, subst}
use Rattle.js_base.specs.declared.diagnostic.Diagnostic.{Diagnostic}
use Rattle.js_base.specs.declared.diagnostic.DiagnosticKind.{DiagnosticKind}
use Rattle.js_base.specs.declared.kind.Kind.TheVariants.{Undetermined}
use Rattle.js_base.specs.declared.source_type.SourceType.{SourceType}
use Rattle.js_base.specs.declared.span.Span.{Span}
use Rattle.js_grammar.specs.Marks.{EdgeOf, Mark, StandsAt, the_end, the_start}
use Rattle.laws_shared.specs.js_lex.States.{goal_of}
use Rattle.laws_shared.specs.js_cursor.Moves.{at_lexeme}
use Rattle.laws_shared.specs.js_cursor.Parsers.{Parser}
use Rattle.laws_shared.specs.js_cursor.Places.{IsAt, goal}
use Rattle.laws_shared.proofs.js_cursor.Standing.{mark_here}
use Rattle.laws_shared.specs.States.{Same}
use Rattle.laws_shared.specs.Told.{unrelated_at}

-- a kind of which no more is asked than that a lexeme begins and one ends there
abbrev pub Plain : DiagnosticKind → Type 0
Plain k = (p : Parser) (s : Span) → EdgeOf (goal p) p.text s.start → EdgeOf (goal p) p.text s.end → StandsAt k (goal p) p.text s None None

-- of the lexeme that stands here
pub token_marked : (p : Parser) (k : DiagnosticKind) → IsAt p → (p.token.kind ≡ Undetermined → ⊥) → Plain k → Mark (goal p) p.text (unrelated_at k p.token.span)
token_marked p k a n h = mark_here k p.token.span None a (at_lexeme n refl) (λ s l i. h p s (the_start l.of_text l.is.0) (the_end l.of_text l.is.1))

-- and later on
pub marked_later : {p q : Parser} {d : Diagnostic} → Same p q → Mark (goal p) p.text d → Mark (goal q) q.text d
marked_later {p} {q} {d} s m = subst (λ (t : List ℕ). Mark (goal q) t d) (sym s.follows.text) (subst (λ (v : SourceType). Mark (goal_of v) p.text d) (sym s.follows.source_type) m)
