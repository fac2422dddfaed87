use Rattle.std.proofs.Common.{refl, [], ◌∷◌, Some}
use Rattle.laws_classes.specs.laws_primary.js_tree.Labels.{kind_of, op_of, number_of}
use Rattle.laws_classes.specs.laws_primary.js_tree.declared.kind.NodeKind.TheVariants as node
use Rattle.laws_classes.specs.laws_primary.js_tree.declared.op.Op.TheVariants as op
use Rattle.laws_classes.proofs.laws_primary.MadeAs.{made_as}
use Rattle.parse_classes.proofs.method.make_method.Goals as goal

pub returns : goal.returns
returns g c = made_as c.p.view_is c.node_of_two.new.self node.MethodDefinition c.end_span-span.result (op.Method c.args.kind) c.args.flags (Some c.args.key ∷ Some c.args.function ∷ []) _ c.node_of_two.result
    (λ i. record { kind = kind_of node.MethodDefinition; op = op_of (op.Method c.args.kind); flags = number_of c.args.flags; span = record { from = c.end_span-span.ensures.start i; to = c.end_span-span.ensures.end i } })
    refl c.node_of_two.ensures
