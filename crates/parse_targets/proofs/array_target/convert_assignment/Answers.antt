use Rattle.std.proofs.Common.{◌++◌, ap, ◌∙◌}
use Rattle.parse_shared.specs.js_tree.declared.kind.NodeKind.TheVariants as node
use Rattle.parse_shared.specs.js_tree.declared.op.Op.{Op}
use Rattle.parse_shared.specs.js_tree.Labels.{op_of}
use Rattle.parse_shared.specs.js_tree.Nodes.{node_at}
use Rattle.parse_targets.specs.Targets.{Noted, operator_places}
use Rattle.parse_targets.proofs.ConvertedNodes.{assignment_made, relabels}
use Rattle.parse_targets.proofs.array_target.convert_assignment.Goals as goal

pub returns : goal.returns
returns c =
    let x = c.in_ok-node.ensures in
    assignment_made {id = c.args.id} (record { node = x.node; made = x.made; label_is = x.label_is ∙ relabels node.AssignmentTargetWithDefault (node_at c.args.ast.now c.args.id) c.span-span.ensures; children = x.children ∙ (c.in_ok-children.ensures.items ∙ c.children.ensures); plain = x.plain }) c.span-span.ensures
    (c.in_ok-note_operator.ensures ∙ ap (λ (o : Op). let v : Noted = record { places = c.args.notes.now.places.items ++ operator_places (op_of o) c.span-span.result; misplaced = c.args.notes.now.misplaced } in v) c.op.ensures)
