use Rattle.laws_shared.proofs.MadeNodes.{made_seen}
use Rattle.parse_shared.proofs.nodes.make_list.Goals as goal

pub returns : goal.returns
returns g c = made_seen c.p.view_is c.node.new.self c.args.kind c.args.span c.args.op c.no_flags.result c.args.children.items c.node.result c.no_flags.ensures c.requires c.node.ensures
