use Rattle.std.proofs.Common.{Some, sym, ap, ◌∙◌}
use Rattle.laws_operators.proofs.Lookaheads.{looks_arrow, looks_no_arrow}
use Rattle.laws_operators.proofs.NotedClosings.{more_unmoved}
use Rattle.parse_arrows.proofs.lookahead.look_behind_closing.Goals as goal

pub returns-in-Some-true : goal.returns-in-Some-true
returns-in-Some-true g c = looks_arrow c.requires.open (more_unmoved c.requires.at c.in_ok-look_through.ensures) c.prev_token_end-place.ensures (sym c.arrow_behind.ensures ∙ (c.in-Some-true.is ∙ ap Some c.in-Some-true.field-0-test))

pub returns-in-Some-false : goal.returns-in-Some-false
returns-in-Some-false g c = looks_no_arrow c.requires.open (more_unmoved c.requires.at c.in_ok-look_through.ensures) c.prev_token_end-place.ensures (sym c.arrow_behind.ensures ∙ (c.in-Some-false.is ∙ ap Some c.in-Some-false.field-0-test))

pub returns-in-None : goal.returns-in-None
returns-in-None g c = more_unmoved c.requires.at c.in_ok-look_through.ensures
