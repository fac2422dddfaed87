use Rattle.laws_shared.proofs.MadeNodes.{private_seen}
use Rattle.parse_shared.proofs.nodes.make_private_name.Goals as goal

pub returns : goal.returns
returns g c = private_seen c.p.view_is c.leaf.new.self c.args.token c.span.ensures c.no_flags.result _ c.leaf.result c.no_flags.ensures c.in_ok-name.ensures c.leaf.ensures
