use Rattle.std.proofs.Common.{sym, ◌∙◌}
use Rattle.parse_shared.specs.js_tree.declared.kind.NodeKind.TheVariants as node
use Rattle.parse_shared.specs.js_tree.Nodes.{node_at}
use Rattle.parse_targets.proofs.ConvertedNodes.{relabels}
use Rattle.parse_targets.proofs.PropertyNodes.{shorthand_none, shorthand_made}
use Rattle.parse_targets.proofs.array_target.convert_shorthand.Goals as goal

pub returns-in_default : goal.returns-in_default
returns-in_default c = shorthand_none {id = c.args.id} (sym c.in_default.is ∙ c.child_at.ensures)

pub returns : goal.returns
returns c =
    let x = c.in_ok-node.ensures in
    shorthand_made {id = c.args.id} (sym c.in-Some.is ∙ c.child_at.ensures) c.child_at-initialiser.ensures (record { node = x.node; made = x.made; label_is = x.label_is ∙ relabels node.AssignmentTargetPropertyIdentifier (node_at c.args.ast.now c.args.id) c.span-span.ensures; children = x.children; plain = x.plain })
