use Rattle.std.proofs.Common.{ap, ◌∙◌}
use Rattle.js_cursor.proofs.Later.{opened_at}
use Rattle.test_units.proofs.cursor.step.Goals as goal

pub delimited_step-requires-clause-opened : goal.delimited_step-requires-clause-opened
delimited_step-requires-clause-opened c = opened_at (c.span-opening.ensures ∙ ap (λ t. t.span) c.cur_token.ensures) c.requires (c.at.ensures.0 c.if-not-at.false) c.in-Ok.ensures
