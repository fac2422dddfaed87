use Rattle.laws_operators.proofs.NotedClosings.{one_seen_so}
use Rattle.parse_arrows.proofs.notes.note_closing.Goals as goal

pub returns : goal.returns
returns g c = one_seen_so c.args.place c.args.is_arrow c.note_closing.result c.p.view_is _ c.note_closing.ensures.ok
