-- Where a parse function gives up: what is told, and that it has its mark.
use Rattle.std.proofs.Common.{◌≡◌, List, ℕ, None, refl, sym, subst, ◌∙◌}
use Rattle.js_base.specs.declared.diagnostic.Diagnostic.{Diagnostic}
use Rattle.js_base.specs.declared.diagnostic.DiagnosticKind.{DiagnosticKind}
use Rattle.js_base.specs.declared.diagnostic.DiagnosticKind.TheVariants.{TypeAnnotationInTs}
use Rattle.js_base.specs.declared.kind.Kind.TheVariants.{Colon}
use Rattle.js_base.specs.declared.span.Span.{Span}
use Rattle.js_base.specs.Texts.{words}
use Rattle.js_grammar.specs.Marks.{Mark, StandsAt}
use Rattle.js_grammar.specs.Productions.{Flags}
use Rattle.laws_shared.specs.js_cursor.Moves.{GivesUp, IsUnexpected}
use Rattle.laws_shared.specs.js_cursor.Parsers.{Parser}
use Rattle.laws_shared.specs.js_cursor.Places.{IsAt, goal}
use Rattle.laws_shared.specs.js_cursor.declared.stop.Stop.{Stop}
use Rattle.laws_shared.specs.Classes.{EndsParse}
use Rattle.laws_shared.specs.States.{At}
use Rattle.laws_shared.specs.Told.{unrelated_at}
use Rattle.laws_shared.proofs.Classes.{gives_up_by, unexpected_ends}
use Rattle.laws_shared.proofs.Signs.{plain_sign}
use Rattle.laws_shared.proofs.Told.{lexeme_marked}

-- a diagnostic of a class that ends a parse
pub told_ends : (p q : Parser) (e : Stop) {d d' : Diagnostic} → d' ≡ d → EndsParse d → GivesUp (λ v. v ≡ d') p q e → GivesUp EndsParse p q e
told_ends p q e i h g = gives_up_by p q e g (λ v u. subst EndsParse (sym (u ∙ i)) h)

-- what can't stand here
pub any_ends : (p q : Parser) (e : Stop) → IsAt p → GivesUp (IsUnexpected p) p q e → GivesUp EndsParse p q e
any_ends p q e a g = gives_up_by p q e g (λ d u. unexpected_ends a d u)

-- the same diagnostic at the same place
pub marked_at : (p : Parser) (k : DiagnosticKind) {s t : Span} → s ≡ t → Mark (goal p) p.text (unrelated_at k t) → Mark (goal p) p.text (unrelated_at k s)
marked_at p k e m = subst (λ (v : Span). Mark (goal p) p.text (unrelated_at k v)) (sym e) m

pub ends_at : (k : DiagnosticKind) {s t : Span} → s ≡ t → EndsParse (unrelated_at k t) → EndsParse (unrelated_at k s)
ends_at k e h = subst (λ (v : Span). EndsParse (unrelated_at k v)) (sym e) h

-- what is told of the lexeme that stands here, by what its kind says of that
pub here_marked : (p : Parser) (k : DiagnosticKind) → IsAt p → StandsAt k (goal p) p.text p.token.span None None → Mark (goal p) p.text (unrelated_at k p.token.span)
here_marked p k a h = record {
  ordered = a.lies.ordered;
  within = a.lies.ends_whole.0;
  begins_between = a.lies.starts_whole;
  ends_between = a.lies.ends_whole;
  stands = h;
}

-- of a colon
pub annotation_marked : {text : List ℕ} {f : Flags} {p : Parser} → At text f p → p.token.kind ≡ Colon → Mark (goal p) p.text (unrelated_at TypeAnnotationInTs p.token.span)
unfolding words
annotation_marked {p = p} a k = here_marked p TypeAnnotationInTs a.at (lexeme_marked a (k, plain_sign Colon a k refl refl refl) refl refl, (refl, refl))
