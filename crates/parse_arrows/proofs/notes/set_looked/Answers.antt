use Rattle.laws_operators.proofs.NotedClosings.{looked_seen}
use Rattle.parse_arrows.proofs.notes.set_looked.Goals as goal

pub returns : goal.returns
returns g c = looked_seen c.p.view_is _ c.set_looked.ensures
