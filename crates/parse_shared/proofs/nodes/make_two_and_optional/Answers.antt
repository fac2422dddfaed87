use Rattle.std.proofs.Common.{Some, [], ◌∷◌}
use Rattle.laws_shared.specs.js_tree.declared.op.Op.TheVariants as op
use Rattle.laws_shared.proofs.MadeNodes.{made_seen}
use Rattle.parse_shared.proofs.nodes.make_two_and_optional.Goals as goal

pub returns : goal.returns
returns g c = made_seen c.p.view_is c.node_of_three.new.self c.args.kind c.args.span op.None c.no_flags.result (Some c.args.first ∷ Some c.args.second ∷ c.args.third ∷ []) c.node_of_three.result c.no_flags.ensures c.requires c.node_of_three.ensures
