use Rattle.std.proofs.Common.{[], ◌∷◌, Some}
use Rattle.parse_shared.specs.js_tree.Labels.{kind_of, op_of}
use Rattle.parse_shared.specs.js_tree.declared.op.Op.TheVariants as op
use Rattle.parse_primary.proofs.laws_primary.MadeAs.{made_as}
use Rattle.parse_members.proofs.left_hand_side.make_member.Goals as goal

pub returns : goal.returns
returns g c = made_as c.p.view_is c.node_of_two.new.self c.args.kind c.end_span-span.result op.None c.link_flags-flags.result (Some c.args.left ∷ Some c.args.right ∷ []) _ c.node_of_two.result
    (λ i. record { kind = kind_of c.args.kind; op = op_of op.None; flags = c.link_flags-flags.ensures i; span = record { from = c.end_span-span.ensures.start i; to = c.end_span-span.ensures.end i } })
    c.requires.kind c.node_of_two.ensures
