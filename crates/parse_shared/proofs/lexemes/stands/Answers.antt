use Rattle.std.proofs.Common.{◌∙◌, sym}
use Rattle.std.proofs.lemmas.Bool.{false≢true}
use Rattle.parse_shared.proofs.lexemes.stands.Goals as goal

pub returns-else-at : goal.returns-else-at
returns-else-at g c = rw (c.if-at.false) (λ e n. absurd (false≢true (sym c.if-at.false ∙ c.at.ensures.1 e)))
