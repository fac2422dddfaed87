use Rattle.std.proofs.Common.{sym, inr, ◌∙◌}
use Rattle.std.proofs.lemmas.Bool.{false≢true}
use Rattle.js_cursor.proofs.parser.ParserImpl.delimited_step.Goals as goal

pub returns-else-at-2 : goal.returns-else-at-2
returns-else-at-2 g c = (λ e. false≢true (sym c.if-at.false ∙ c.at.ensures.1 e), inr (c.if-first.false, c.at-2.ensures.0 c.if-not-at.false, c.in_ok-bump_any.ensures, λ e. false≢true (sym c.if-at-2.false ∙ c.at-3.ensures.1 e)))
