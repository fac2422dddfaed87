use Rattle.std.proofs.Common.{refl, [], ◌∷◌, Some}
use Rattle.laws_primary.specs.js_tree.Labels.{kind_of, op_of}
use Rattle.laws_primary.specs.js_tree.declared.kind.NodeKind.TheVariants as node
use Rattle.laws_primary.specs.js_tree.declared.op.Op.TheVariants as op
use Rattle.laws_primary.specs.js_tree.declared.op.PropertyKind.TheVariants as property
use Rattle.laws_primary.proofs.MadeAs.{made_as}
use Rattle.parse_primary.proofs.object.make_initialised.Goals as goal

pub returns : goal.returns
returns g c = made_as c.p.view_is c.node_of_three.new.self node.ObjectProperty c.end_span-span.result (op.Property property.Init) c.shorthand_flags-flags.result (Some c.args.key ∷ Some c.args.value ∷ Some c.args.initialiser ∷ []) _ c.node_of_three.result
    (λ i. record { kind = kind_of node.ObjectProperty; op = op_of (op.Property property.Init); flags = c.shorthand_flags-flags.ensures i; span = record { from = c.end_span-span.ensures.start i; to = c.end_span-span.ensures.end i } })
    refl c.node_of_three.ensures
