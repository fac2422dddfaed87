use Rattle.laws_operators.proofs.NotedClosings.{found_closing}
use Rattle.parse_arrows.proofs.closing.is_arrow_behind_one.Goals as goal

pub returns : goal.returns
returns g c = found_closing _ _ _ c.is_arrow_noted.result c.in_ok-look_for_closings.ensures c.is_arrow_noted.ensures
