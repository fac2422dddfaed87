use Rattle.std.proofs.Common.{◌≡◌, true, List, Some, None, ap, subst, sym, ◌∙◌}
use Rattle.std.specs.Prelude.{get_or}
use Rattle.js_tree.specs.Labels.{kind_of}
use Rattle.js_tree.specs.Nodes.{Node, node_at}
use Rattle.js_tree.specs.declared.kind.NodeKind.{NodeKind}
use Rattle.js_tree.specs.declared.kind.NodeKind.TheVariants as made
use Rattle.js_cursor.specs.Parsers.{Parser}
use Rattle.parse_targets.specs.Targets.{is_object}
use Rattle.test_rows.proofs.FirstProperty.{property_read}
use Rattle.test_rows.proofs.covered.cover_first_property.Goals as goal

pub cover-requires-clause-read : goal.cover-requires-clause-read
cover-requires-clause-read c =
    let v = ap (λ (q : Parser). q.nodes) c.p.view_is in
    property_read c.requires.read
    (subst (λ (ns : List Node). is_object (kind_of (node_at ns c.args.id).kind) ≡ true) v (ap (λ (k : NodeKind). is_object (kind_of k)) (sym c.kind.ensures) ∙ (sym c.is_object.ensures ∙ c.if-not-is_object.false)))
    (subst (λ (ns : List Node). Some c.in-Some.first ≡ get_or (node_at ns c.args.id).children 0 None) v (sym c.in-Some.is ∙ c.child_at.ensures))
    (subst (λ (ns : List Node). (node_at ns c.in-Some.first).kind ≡ made.ObjectProperty) v (sym c.kind-2.ensures ∙ c.in-ObjectProperty.is))
