use Rattle.std.proofs.Common.{◌≡◌, ap, refl, sym, ◌∙◌}
use Rattle.std.proofs.lemmas.Bool.{false≢true}
use Rattle.js_base.specs.Diagnostics.{class_of}
use Rattle.js_base.specs.declared.diagnostic.Diagnostic.{Diagnostic}
use Rattle.js_base.specs.declared.kind.Kind.TheVariants.{Colon}
use Rattle.parse_shared.specs.laws_shared.Classes.{ends_parse}
use Rattle.parse_shared.proofs.laws_shared.Classes.{gives_up_by, unexpected_ends}
use Rattle.parse_shared.proofs.laws_shared.Signs.{whole_sign}
use Rattle.laws_operators.proofs.Conditionals.{alternative_marked}
use Rattle.parse_operators.proofs.assignment.expect_conditional_alternative.Goals as goal

pub set_fatal_error-requires-clause-mark : goal.set_fatal_error-requires-clause-mark
set_fatal_error-requires-clause-mark t c = alternative_marked c.requires.at.at c.requires.asked _ (let e : c.span.result ≡ c.args.p.now.token.span = search in e) (λ k. false≢true (sym c.if-at-2.false ∙ c.at-2.ensures.1 k))

pub advance-requires-clause-whole : goal.advance-requires-clause-whole
advance-requires-clause-whole t c = whole_sign Colon c.requires.at (c.at.ensures.0 c.if-at.true) refl refl

pub returns-then-at-2 : goal.returns-then-at-2
returns-then-at-2 t c = ((λ e k. false≢true (sym c.if-at.false ∙ c.at.ensures.1 k)), gives_up_by _ _ c.set_unexpected.result c.set_unexpected.ensures (λ d h. unexpected_ends c.requires.at.at d h))

pub set_fatal_error-requires-clause-at : goal.set_fatal_error-requires-clause-at
set_fatal_error-requires-clause-at t c = c.requires.at.at

pub returns : goal.returns
returns t c = ((λ e k. false≢true (sym c.if-at.false ∙ c.at.ensures.1 k)), gives_up_by _ _ c.set_fatal_error.result c.set_fatal_error.ensures (λ d e. ap (λ (x : Diagnostic). ends_parse (class_of x.kind)) e))
