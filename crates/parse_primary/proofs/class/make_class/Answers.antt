use Rattle.std.proofs.Common.{[], ◌∷◌, Some}
use Rattle.laws_primary.specs.js_tree.Labels.{op_of}
use Rattle.laws_primary.specs.js_tree.declared.op.Op.TheVariants as op
use Rattle.laws_primary.proofs.MadeAs.{made_as}
use Rattle.parse_primary.proofs.class.make_class.Goals as goal

pub returns : goal.returns
returns g c = made_as c.p.view_is c.node_of_three.new.self c.class_node.result c.end_span-span.result op.None c.no_flags.result (c.args.name ∷ c.args.heritage ∷ Some c.args.body ∷ []) _ c.node_of_three.result
    (λ i. record { kind = c.class_node.ensures.kind i; op = op_of op.None; flags = c.no_flags.ensures i; span = record { from = c.end_span-span.ensures.start i; to = c.end_span-span.ensures.end i } })
    c.class_node.ensures.plain c.node_of_three.ensures
