use Rattle.std.proofs.Common.{[], ◌∷◌, Some}
use Rattle.laws_classes.specs.laws_primary.js_tree.Labels.{op_of, number_of}
use Rattle.laws_classes.specs.laws_primary.js_tree.declared.op.Op.TheVariants as op
use Rattle.laws_classes.proofs.laws_primary.MadeAs.{made_as}
use Rattle.parse_classes.proofs.field.make_field.Goals as goal

pub returns : goal.returns
returns g c = made_as c.p.view_is c.node_of_two.new.self c.field_node.result c.end_span-span.result op.None c.args.flags (Some c.args.key ∷ c.args.value ∷ []) _ c.node_of_two.result
    (λ i. record { kind = c.field_node.ensures.kind i; op = op_of op.None; flags = number_of c.args.flags; span = record { from = c.end_span-span.ensures.start i; to = c.end_span-span.ensures.end i } })
    c.field_node.ensures.plain c.node_of_two.ensures
