use Rattle.std.proofs.Common.{arith, refl, sym, ◌∙◌}
use Rattle.std.proofs.lemmas.Bool.{false≢true}
use Rattle.std.proofs.lemmas.Result.{err_from_is_err_and}
use Rattle.js_base.specs.declared.kind.Kind.TheVariants.{Comma}
use Rattle.parse_shared.proofs.laws_shared.Signs.{whole_sign}
use Rattle.parse_shared.proofs.laws_shared.Moving.{standing}
use Rattle.laws_patterns.proofs.ParameterLists.{comma_taken, last_taken, parameter_stops}
use Rattle.parse_patterns.proofs.parameters.parse_parameter_and_comma.Goals as goal

pub returns-in_err-parameter : goal.returns-in_err-parameter
returns-in_err-parameter g c =
    let p = err_from_is_err_and c.from_residual.result c.from_residual.ensures.1 in
    rw (p.1, p.2) (λ text f a. parameter_stops a c.requires.parameter _ _ (c.in_err-parameter.ensures text f a))

pub returns-then-not-at : goal.returns-then-not-at
returns-then-not-at g c = (λ e. absurd (false≢true e), λ text f a. last_taken a c.requires.parameter (c.in_ok-parameter.ensures text f a) c.in_ok-push.ensures.items (λ k. false≢true (sym c.if-not-at.true ∙ c.at.ensures.1 k)))

pub advance-requires-clause-at : goal.advance-requires-clause-at
advance-requires-clause-at g c = standing (c.in_ok-parameter.ensures _ _ c.requires.at).at

pub advance-requires-clause-whole : goal.advance-requires-clause-whole
advance-requires-clause-whole g c = whole_sign Comma (c.in_ok-parameter.ensures _ _ c.requires.at).at (c.at.ensures.0 c.if-not-at.false) refl refl

pub returns : goal.returns
returns g c =
    let x = c.in_ok-parameter.ensures _ _ c.requires.at in
    let m = c.in_ok-advance.ensures _ _ x.at in
    (λ e. let i = x.further in let j = c.requires.at.behind in let u = x.at.behind in let v = m.further in omega arith, λ text f a. let y = c.in_ok-parameter.ensures text f a in comma_taken a c.requires.parameter y c.in_ok-push.ensures.items (c.at.ensures.0 c.if-not-at.false) (c.in_ok-advance.ensures text f y.at))
