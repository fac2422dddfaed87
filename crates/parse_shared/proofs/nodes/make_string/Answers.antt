use Rattle.std.specs.Prelude.{None}
use Rattle.laws_shared.specs.js_tree.declared.kind.NodeKind.TheVariants as node
use Rattle.laws_shared.specs.js_tree.declared.op.Op.TheVariants as op
use Rattle.laws_shared.proofs.MadeNodes.{texted_seen}
use Rattle.parse_shared.proofs.nodes.make_string.Goals as goal

pub returns : goal.returns
returns g c = texted_seen c.p.view_is c.leaf.new.self node.StringLiteral c.args.span op.None c.no_flags.result None c.leaf.result c.no_flags.ensures c.requires c.leaf.ensures
