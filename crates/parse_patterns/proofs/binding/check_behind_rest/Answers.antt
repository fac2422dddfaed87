use Rattle.std.proofs.Common.{◌≡◌, ◌∙◌, refl, sym, ap}
use Rattle.std.proofs.lemmas.Bool.{false≢true}
use Rattle.js_base.specs.declared.kind.Kind.TheVariants.{Comma}
use Rattle.laws_patterns.proofs.BehindRests.{comma_marked, comma_stops, comma_told, mark_later, no_comma_here}
use Rattle.parse_shared.proofs.laws_shared.Signs.{whole_sign}
use Rattle.parse_patterns.proofs.binding.check_behind_rest.Goals as goal
use Rattle.js_base.specs.declared.diagnostic.Diagnostic.{Diagnostic}
use Rattle.js_base.specs.Diagnostics.{class_of}

pub returns-then-not-at : goal.returns-then-not-at
returns-then-not-at g c = λ text f a ids. no_comma_here c.args.close ids a (λ k. false≢true (sym c.if-not-at.true ∙ c.at.ensures.1 k))

pub advance-requires-clause-whole : goal.advance-requires-clause-whole
advance-requires-clause-whole g c = whole_sign Comma c.requires.at (c.at.ensures.0 c.if-not-at.false) refl refl

pub set_fatal_error-requires-clause-at : goal.set_fatal_error-requires-clause-at
set_fatal_error-requires-clause-at g c = (c.in_ok-advance.ensures _ _ c.requires.at).at.at

pub set_fatal_error-requires-clause-mark : goal.set_fatal_error-requires-clause-mark
set_fatal_error-requires-clause-mark g c = mark_later (c.in_ok-advance.ensures _ _ c.requires.at).same c.requires.mark

pub returns-then-not-at-2 : goal.returns-then-not-at-2
returns-then-not-at-2 g c = λ text f a. comma_stops c.args.close a (c.at.ensures.0 c.if-not-at.false) c.requires.closes (c.in_ok-advance.ensures text f a) _ _ _ c.requires.ends (λ k. false≢true (sym c.if-not-at-2.true ∙ c.at-2.ensures.1 k)) c.set_fatal_error.ensures

pub error-requires-clause-at : goal.error-requires-clause-at
error-requires-clause-at g c = (c.in_ok-advance.ensures _ _ c.requires.at).at.at

pub error-requires-clause-mark : goal.error-requires-clause-mark
error-requires-clause-mark g c = comma_marked c.args.close c.requires.at (c.at.ensures.0 c.if-not-at.false) c.requires.closes (c.in_ok-advance.ensures _ _ c.requires.at) _ c.diagnostic_at.ensures (let e : c.span-comma.result ≡ c.args.p.now.token.span = search in e) (c.at-2.ensures.0 c.if-not-at-2.false)

pub returns : goal.returns
returns g c = λ text f a ids. comma_told c.args.close a (c.at.ensures.0 c.if-not-at.false) c.requires.closes (c.in_ok-advance.ensures text f a) ids c.in_ok-error.ensures (ap (λ (d : Diagnostic). class_of d.kind) c.diagnostic_at.ensures)
