use Rattle.laws_shared.proofs.MadeNodes.{name_seen}
use Rattle.parse_shared.proofs.nodes.make_spelled_name.Goals as goal

pub returns : goal.returns
returns g c = name_seen c.p.view_is c.leaf.new.self c.args.kind c.args.token c.span.ensures c.no_flags.result _ c.leaf.result c.no_flags.ensures c.requires.kind c.in_ok-name.ensures c.leaf.ensures
