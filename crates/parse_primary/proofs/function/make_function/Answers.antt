use Rattle.std.proofs.Common.{[], ◌∷◌, Some}
use Rattle.laws_primary.specs.js_tree.Labels.{kind_of, op_of}
use Rattle.laws_primary.specs.js_tree.declared.op.Op.TheVariants as op
use Rattle.laws_primary.proofs.MadeAs.{made_as}
use Rattle.parse_primary.proofs.function.make_function.Goals as goal

pub returns : goal.returns
returns g c = made_as c.p.view_is c.node_of_three.new.self c.args.kind c.args.span op.None c.function_flags-flags.result (c.args.parts.name ∷ Some c.args.parts.parameters ∷ Some c.args.parts.body ∷ []) _ c.node_of_three.result
    (λ i. record { kind = kind_of c.args.kind; op = op_of op.None; flags = c.function_flags-flags.ensures i; span = record { from = c.args.span.start; to = c.args.span.end } })
    c.requires c.node_of_three.ensures
