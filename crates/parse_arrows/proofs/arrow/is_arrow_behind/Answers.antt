use Rattle.std.proofs.Common.{sym, ◌∙◌}
use Rattle.laws_operators.proofs.Arrows.{arrow_peeked, arrow_told}
use Rattle.parse_arrows.proofs.arrow.is_arrow_behind.Goals as goal

pub returns-in-Arrow : goal.returns-in-Arrow
returns-in-Arrow g c = (c.in_ok-next.ensures.same, λ text f a. arrow_told a c.in_ok-next.ensures.answer (sym c.kind.ensures ∙ c.in-Arrow.is))

pub returns-in_default : goal.returns-in_default
returns-in_default g c = (c.in_ok-next.ensures.same, λ text f a y l k. c.in_default.not-Arrow (c.kind.ensures ∙ arrow_peeked a c.in_ok-next.ensures.answer y l k))
