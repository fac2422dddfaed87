use Rattle.parse_shared.proofs.laws_shared.Giving.{gives_up_here}
use Rattle.std.proofs.Common.{sym, ◌∙◌}
use Rattle.std.proofs.lemmas.Bool.{false≢true}
use Rattle.js_core.proofs.NoParameters.{no_parameters_here}
use Rattle.js_core.proofs.parse.parse_parameters.Goals as goal

pub returns-then-not-at : goal.returns-then-not-at
returns-then-not-at t c = λ text f a. gives_up_here _ _ c.set_unexpected.result a c.set_unexpected.ensures (no_parameters_here a (λ k. false≢true (sym c.if-not-at.true ∙ c.at.ensures.1 k)))
