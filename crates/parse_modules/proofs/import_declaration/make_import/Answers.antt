use Rattle.std.proofs.Common.{◌≡◌, ◌∷◌, ◌++◌, [], List, Option, Some, ap, refl, subst, ◌∙◌}
use Rattle.std.specs.Prelude.{IfOk, Result}
use Rattle.js_base.specs.declared.NoMemory.{NoMemory}
use Rattle.js_grammar.specs.Trees.{Label}
use Rattle.laws_modules.specs.laws_primary.js_cursor.Parsers.{Parser}
use Rattle.laws_modules.specs.laws_primary.js_tree.Labels.{kind_of, op_of}
use Rattle.laws_modules.specs.laws_primary.js_tree.declared.id.NodeId.{NodeId}
use Rattle.laws_modules.specs.laws_primary.js_tree.declared.kind.NodeKind.TheVariants as node
use Rattle.laws_modules.specs.laws_primary.js_tree.declared.op.Op.TheVariants as op
use Rattle.laws_modules.proofs.laws_primary.MadeAs.{made_as}
use Rattle.parse_modules.specs.Prelude.{MadeHere}
use Rattle.parse_modules.proofs.import_declaration.make_import.Goals as goal

-- with children that are the same
seen_so : (p q : Parser) (l : Label) (ids js : List (Option NodeId)) (r : Result NodeId NoMemory) → ids ≡ js → IfOk r (λ id. MadeHere l ids p q id) → IfOk r (λ id. MadeHere l js p q id)
seen_so p q l ids js r e m = subst (λ (is : List (Option NodeId)). IfOk r (λ id. MadeHere l is p q id)) e m

pub returns : goal.returns
returns g c =
    let i = c.in_ok-extend_from_slice.ensures.items ∙ (ap (λ (is : List (Option NodeId)). c.push-2.new.self.items ++ is) c.as_slice.ensures.value ∙ ap (λ (is : List (Option NodeId)). is ++ c.args.specifiers.items) (c.in_ok-push-2.ensures.items ∙ ap (λ (is : List (Option NodeId)). is ++ c.args.source.attributes ∷ []) (c.in_ok-push.ensures.items ∙ ap (λ (is : List (Option NodeId)). is ++ Some c.args.source.specifier ∷ []) c.new-children.ensures.items))) in
    seen_so c.args.p.now _ _ _ _ c.node.result i
    (made_as c.p.view_is c.node.new.self node.ImportDeclaration c.end_span-span.result op.None c.import_flags-flags.result _ _ c.node.result
    (λ i. record { kind = kind_of node.ImportDeclaration; op = op_of op.None; flags = c.import_flags-flags.ensures i; span = record { from = c.end_span-span.ensures.start i; to = c.end_span-span.ensures.end i } })
    refl c.node.ensures)
