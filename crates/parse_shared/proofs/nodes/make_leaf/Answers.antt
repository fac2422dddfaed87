use Rattle.std.proofs.Common.{[]}
use Rattle.laws_shared.proofs.MadeNodes.{made_seen}
use Rattle.parse_shared.proofs.nodes.make_leaf.Goals as goal

pub returns : goal.returns
returns g c = made_seen c.p.view_is c.leaf.new.self c.args.kind c.args.span c.args.op c.no_flags.result [] c.leaf.result c.no_flags.ensures c.requires c.leaf.ensures
