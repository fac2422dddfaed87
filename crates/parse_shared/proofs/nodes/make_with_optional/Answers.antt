use Rattle.std.proofs.Common.{Some, [], ◌∷◌}
use Rattle.laws_shared.specs.js_tree.declared.op.Op.TheVariants as op
use Rattle.laws_shared.proofs.MadeNodes.{made_seen}
use Rattle.parse_shared.proofs.nodes.make_with_optional.Goals as goal

pub returns : goal.returns
returns g c = made_seen c.p.view_is c.node_of_two.new.self c.args.kind c.args.span op.None c.no_flags.result (Some c.args.first ∷ c.args.second ∷ []) c.node_of_two.result c.no_flags.ensures c.requires c.node_of_two.ensures
