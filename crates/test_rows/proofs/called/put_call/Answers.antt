use Rattle.std.proofs.Common.{sym, ◌∙◌}
use Rattle.std.proofs.lemmas.Bool.{false≢true}
use Rattle.parse_shared.proofs.laws_shared.Beginning.{begins}
use Rattle.test_rows.proofs.called.put_call.Goals as goal

pub call-found-requires-clause-at : goal.call-found-requires-clause-at
call-found-requires-clause-at c = begins c.requires.1 (λ e. false≢true (sym c.if-at.false ∙ c.at.ensures.1 e))
