use Rattle.parse_shared.specs.js_tree.Labels.{kind_of, op_of}
use Rattle.parse_shared.specs.js_tree.declared.op.Op.TheVariants as op
use Rattle.parse_primary.proofs.laws_primary.MadeAs.{made_as}
use Rattle.parse_control.proofs.for_statement.make_for.Goals as goal

pub returns : goal.returns
returns g c = made_as c.p.view_is c.node.new.self c.args.kind c.args.span op.None c.await_flags-flags.result c.args.children.items _ c.node.result
    (λ i. record { kind = kind_of c.args.kind; op = op_of op.None; flags = c.await_flags-flags.ensures i; span = record { from = c.args.span.start; to = c.args.span.end } })
    c.requires c.node.ensures
