use Rattle.laws_operators.proofs.NotedClosings.{attempting_seen}
use Rattle.parse_arrows.proofs.notes.set_attempting.Goals as goal

pub returns : goal.returns
returns g c = attempting_seen c.p.view_is _ c.set_attempting.ensures
