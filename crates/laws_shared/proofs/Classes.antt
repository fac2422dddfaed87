-- Of which classes it is what is told.
use Rattle.std.proofs.Common.{ℕ, ◌≡◌, true, List, [], ◌∷◌, ◌++◌, Option, Some, refl, ap, ◌∙◌}
use Rattle.std.specs.List.{All}
use Rattle.std.proofs.lemmas.List.Elements.{All-pop, All-push, All-same}
use Rattle.js_base.specs.declared.diagnostic.Diagnostic.{Diagnostic}
use Rattle.js_base.specs.declared.diagnostic.DiagnosticKind.{DiagnosticKind}
use Rattle.js_base.specs.declared.span.Span.{Span}
use Rattle.js_base.specs.Diagnostics.{class_of}
pub use Rattle.js_grammar.proofs.FaultClasses.{lexical_by}
use Rattle.js_cursor.specs.Moves.{GivesUp, IsHere, IsUnexpected, KeepsDiagnostic, a_fault, a_marker, a_lexeme}
use Rattle.js_cursor.specs.Parsers.{Parser}
use Rattle.js_cursor.specs.Places.{IsAt, IsFault, goal}
use Rattle.js_cursor.specs.declared.stop.Stop.{Stop}
use Rattle.js_cursor.specs.declared.stop.Stop.TheVariants.{Fatal, NoMemory}
use Rattle.laws_shared.specs.Classes.{IsEarly, EndsParse, ends_parse}

-- what is told of what can't stand at a place ends a parse
pub unexpected_ends : {p : Parser} → IsAt p → (d : Diagnostic) → IsUnexpected p d → EndsParse d
unexpected_ends {p} a d (a_fault before n e) =
    let f = (All-pop (IsFault (goal p) p.text) p.lexer.kept.errors before (Some d) e a.faulty).1 in
    ap ends_parse (lexical_by d.kind f.faulty)
unexpected_ends a d (a_marker n m) = ap (λ (k : DiagnosticKind). ends_parse (class_of k)) m.kind
unexpected_ends a d (a_lexeme n b h) = ap (λ (k : DiagnosticKind). ends_parse (class_of k)) h.kind

-- and so does what is told of what stands there by a kind of such a class
pub here_ends : {p : Parser} (k : DiagnosticKind) {first : Option Span} → ends_parse (class_of k) ≡ true → (d : Diagnostic) → IsHere k p first d → EndsParse d
here_ends k c d h = ap (λ (v : DiagnosticKind). ends_parse (class_of v)) h.kind ∙ c

-- of a call that gave up less may be said
pub gives_up_by : {P Q : Diagnostic → Type 0} (p q : Parser) (e : Stop) → GivesUp P p q e → ((d : Diagnostic) → P d → Q d) → GivesUp Q p q e
gives_up_by p q Fatal g w = (g.0, w g.0 g.1, g.2)
gives_up_by p q NoMemory g w = g

-- one more behind which reading goes on
pub one_early : (d : Diagnostic) (ds : List Diagnostic) → IsEarly d → All IsEarly ds → All IsEarly (ds ++ d ∷ [])
one_early d ds e h = All-push IsEarly ds d h e

pub kept_early : {d : Diagnostic} {p q : Parser} → KeepsDiagnostic d p q → IsEarly d → All IsEarly p.errors → All IsEarly q.errors
kept_early {d} {p} {q} k e h = All-same IsEarly q.errors (p.errors ++ d ∷ []) (ap (λ (r : Parser). r.errors) k.is) (one_early d p.errors e h)
