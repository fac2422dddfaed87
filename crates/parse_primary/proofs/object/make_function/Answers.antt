use Rattle.std.proofs.Common.{refl, [], ◌∷◌, Some, None}
use Rattle.laws_primary.specs.js_tree.Labels.{kind_of, op_of}
use Rattle.laws_primary.specs.js_tree.declared.kind.NodeKind.TheVariants as node
use Rattle.laws_primary.specs.js_tree.declared.op.Op.TheVariants as op
use Rattle.laws_primary.proofs.MadeAs.{made_as}
use Rattle.parse_primary.proofs.object.make_function.Goals as goal

pub returns : goal.returns
returns g c = made_as c.p.view_is c.node_of_three.new.self node.FunctionExpression c.end_span-span.result op.None c.function_flags-flags.result (None ∷ Some c.args.parameters ∷ Some c.args.body ∷ []) _ c.node_of_three.result
    (λ i. record { kind = kind_of node.FunctionExpression; op = op_of op.None; flags = c.function_flags-flags.ensures i; span = record { from = c.end_span-span.ensures.start i; to = c.end_span-span.ensures.end i } })
    refl c.node_of_three.ensures
