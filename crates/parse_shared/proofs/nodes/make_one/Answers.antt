use Rattle.std.proofs.Common.{Some, [], ◌∷◌}
use Rattle.laws_shared.proofs.MadeNodes.{made_seen}
use Rattle.parse_shared.proofs.nodes.make_one.Goals as goal

pub returns : goal.returns
returns g c = made_seen c.p.view_is c.node_of_one.new.self c.args.kind c.args.span c.args.op c.no_flags.result (Some c.args.child ∷ []) c.node_of_one.result c.no_flags.ensures c.requires c.node_of_one.ensures
