use Rattle.std.proofs.Common.{◌∙◌, ap, false, sym, true}
use Rattle.std.proofs.lemmas.Bool.{false≢true}
use Rattle.js_base.specs.declared.kind.Kind.TheVariants.{LCurly}
use Rattle.js_base.specs.Kinds.{same_kind}
use Rattle.laws_operators.proofs.Arrows.{no_brace}
use Rattle.parse_arrows.proofs.arrow.parse_arrow_body.Goals as goal

pub returns-then-at : goal.returns-then-at
returns-then-at t c = (true, ap (same_kind LCurly) (c.at.ensures.0 c.if-at.true), c.body_in_arrow.ensures)

pub returns : goal.returns
returns t c = (false, no_brace _ (λ k. false≢true (sym c.if-at.false ∙ c.at.ensures.1 k)), c.assignment_in_arrow.ensures)
