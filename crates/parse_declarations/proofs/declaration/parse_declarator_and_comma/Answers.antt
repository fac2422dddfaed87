use Rattle.std.proofs.Common.{inl, inr, refl, sym, ◌∙◌}
use Rattle.std.proofs.lemmas.Bool.{false≢true}
use Rattle.std.proofs.lemmas.Result.{err_from_is_err_and}
use Rattle.js_base.specs.declared.kind.Kind.TheVariants.{Comma}
use Rattle.parse_shared.proofs.laws_shared.Moving.{standing}
use Rattle.parse_shared.proofs.laws_shared.Signs.{whole_sign}
use Rattle.parse_declarations.proofs.declaration.parse_declarator_and_comma.Goals as goal

pub returns-in_err-declarator : goal.returns-in_err-declarator
returns-in_err-declarator g c = let p = err_from_is_err_and c.from_residual.result c.from_residual.ensures.1 in rw (p.1, p.2) c.in_err-declarator.ensures

pub returns-then-not-at : goal.returns-then-not-at
returns-then-not-at g c = λ text f a. record { mid = _; id = _; one = c.in_ok-declarator.ensures text f a; pushed = c.in_ok-push.ensures.items; behind = inr (refl, (λ k. false≢true (sym c.if-not-at.true ∙ c.at.ensures.1 k)), refl) }

pub advance-requires-clause-at : goal.advance-requires-clause-at
advance-requires-clause-at g c = standing (c.in_ok-declarator.ensures _ _ c.requires.at).at

pub advance-requires-clause-whole : goal.advance-requires-clause-whole
advance-requires-clause-whole g c = whole_sign Comma (c.in_ok-declarator.ensures _ _ c.requires.at).at (c.at.ensures.0 c.if-not-at.false) refl refl

pub returns : goal.returns
returns g c = λ text f a. record { mid = _; id = _; one = c.in_ok-declarator.ensures text f a; pushed = c.in_ok-push.ensures.items; behind = inl (refl, c.at.ensures.0 c.if-not-at.false, c.in_ok-advance.ensures text f (c.in_ok-declarator.ensures text f a).at) }
