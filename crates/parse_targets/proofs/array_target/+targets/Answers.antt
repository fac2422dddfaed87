use Rattle.std.proofs.Common.{◌≡◌, List, [], ◌∷◌, ◌++◌, ◌+◌, drop, length, nat_eq, Bool, Option, Some, None, true, false, ap, sym, subst, refl, arith, ◌∙◌, ℕ}
use Rattle.std.proofs.lemmas.Option.{slice_get_read}
use Rattle.std.proofs.lemmas.Result.{IfOk-weaker}
use Rattle.js_base.specs.declared.span.Span.{Span}
use Rattle.std.specs.Option.{option_map}
use Rattle.parse_shared.specs.js_tree.declared.id.NodeId.{NodeId}
use Rattle.parse_shared.specs.js_tree.declared.kind.NodeKind.{NodeKind}
use Rattle.parse_shared.specs.js_tree.declared.kind.NodeKind.TheVariants as node
use Rattle.parse_shared.specs.js_tree.declared.flags.NodeFlags.{NodeFlags}
use Rattle.parse_shared.specs.js_tree.declared.op.Op.TheVariants as op
use Rattle.parse_shared.specs.js_tree.Labels.{kind_of, label_of}
use Rattle.parse_shared.specs.js_tree.Nodes.{Node, label, node_at}
use Rattle.parse_targets.specs.Targets.{is_elision, is_spread, is_assignment, is_object, is_literal, literal_places, relabelled, Noted, noted_in}
use Rattle.parse_targets.specs.declared.widening.Widening.TheVariants.{Rest}
use Rattle.parse_targets.proofs.ConvertedNodes.{ElementAnswer, ElementLoop, ElementsAnswer, RestAnswer, TargetAnswer, literal_none, literal_some, argument_below, argument_less, argument_stood, child_less, child_stood, element_hole, element_item, elements_keep, elements_none, elements_some, item_assigned, item_property, no_elision, no_property, no_spread_element, no_assignment, item_spread, item_target, last_child, loop_begins, loop_ends, loop_hole, loop_next, loop_refuses, next_child', no_more, relabels, rest_made, rest_not_last, rest_unconverted, rest_without, target_literal, target_simple}
use Rattle.parse_targets.proofs.PropertyNodes.{property_shorthand, property_without, property_refused, property_made, value_less, value_stood}
use Rattle.parse_targets.proofs.array_target.+targets.Goals as goal
use Rattle.js_grammar.specs.CoverInitialisers.{is_property}

pub convert_literal-returns-in_default : goal.convert_literal-returns-in_default
convert_literal-returns-in_default t c =
    let o = c.is_object-in_object.ensures ∙ ap (λ k. is_object (kind_of k)) c.kind.ensures in
    literal_none {id = c.args.id} c.is_object-in_object.result o (subst (λ (ids : Option (List (Option NodeId))). ElementsAnswer c.is_object-in_object.result c.args.ast.now c.convert_elements.new.ast c.args.id (noted_in c.args.notes.now) (noted_in c.convert_elements.new.notes) ids) (ap (option_map (λ v. v.items)) c.in_default.is) c.in_ok-elements.ensures)

pub convert_literal-span-span-requires : goal.convert_literal-span-span-requires
convert_literal-span-span-requires t c = (elements_keep c.requires (subst (λ (ids : Option (List (Option NodeId))). ElementsAnswer c.is_object-in_object.result c.args.ast.now c.convert_elements.new.ast c.args.id (noted_in c.args.notes.now) (noted_in c.convert_elements.new.notes) ids) (ap (option_map (λ v. v.items)) c.in-Some.is) c.in_ok-elements.ensures)).0

pub convert_literal-returns : goal.convert_literal-returns
convert_literal-returns t c =
    let o = c.is_object-in_object.ensures ∙ ap (λ k. is_object (kind_of k)) c.kind.ensures in
    let v = subst (λ (ids : Option (List (Option NodeId))). ElementsAnswer c.is_object-in_object.result c.args.ast.now c.convert_elements.new.ast c.args.id (noted_in c.args.notes.now) (noted_in c.convert_elements.new.notes) ids) (ap (option_map (λ v. v.items)) c.in-Some.is) c.in_ok-elements.ensures in
    literal_some {id = c.args.id} c.is_object-in_object.result o v c.in_ok-node.ensures (relabels c.pattern_kind.result (node_at c.args.ast.now c.args.id) (c.span-span.ensures ∙ ap (λ (n : Node). n.span) (elements_keep c.requires v).1) ∙ ap (λ k. relabelled k (label (node_at c.args.ast.now c.args.id))) c.pattern_kind.ensures)

pub convert_element-returns-in-Elision : goal.convert_element-returns-in-Elision
convert_element-returns-in-Elision t c = element_hole c.args.in_object {id = c.args.id} c.args.is_last (ap (λ k. is_elision (kind_of k)) (sym c.kind.ensures ∙ c.in-Elision.is))

pub convert_element-returns : goal.convert_element-returns
convert_element-returns t c = element_item c.args.in_object {id = c.args.id} c.args.is_last c.in_ok-found.found c.some_slot.result (ap (λ k. is_elision (kind_of k)) (sym c.kind.ensures) ∙ no_elision c.kind.result c.in_default.not-Elision) c.some_slot.ensures c.in_ok-found.ensures

pub convert_elements-elements-init : goal.convert_elements-elements-init
convert_elements-elements-init t c = record { within = omega arith; children = c.in_ok-children.ensures.items ∙ c.children.ensures; elements = loop_begins {id = c.args.id} (c.in_ok-children.ensures.items ∙ c.children.ensures) c.new-elements.ensures.items }

pub convert_elements-returns-in_default : goal.convert_elements-returns-in_default
convert_elements-returns-in_default t c =
    let ids = c.in_ok-children.children.items in
    let n = c.len.ensures ∙ (c.in_ok-children.ensures.len ∙ sym (ap length c.in_ok-children.ensures.items)) in
    let q = next_child' ids c.elements.next c.index.result.now (slice_get_read ids c.len.result c.elements.next c.index.result.now n c.elements-test.true c.index.ensures) in
    elements_none {id = c.args.id} (loop_hole {id = c.args.id} (c.elements.invariant).elements (q ∙ ap (λ (y : Option NodeId). y ∷ drop (c.elements.next + 1) ids) c.in_default.is))

pub convert_elements-convert_element-requires : goal.convert_elements-convert_element-requires
convert_elements-convert_element-requires t c =
    let ids = c.in_ok-children.children.items in
    let n = c.len.ensures ∙ (c.in_ok-children.ensures.len ∙ sym (ap length c.in_ok-children.ensures.items)) in
    let q = next_child' ids c.elements.next c.index.result.now (slice_get_read ids c.len.result c.elements.next c.index.result.now n c.elements-test.true c.index.ensures) in
    let w = q ∙ ap (λ (y : Option NodeId). y ∷ drop (c.elements.next + 1) ids) c.in-Some.is in
    (let l = child_less {id = c.args.id} (c.elements.invariant).elements w c.requires in let e = c.decreases in omega arith, child_stood {id = c.args.id} (c.elements.invariant).elements w c.requires)

pub convert_elements-returns-in_default-2 : goal.convert_elements-returns-in_default-2
convert_elements-returns-in_default-2 t c =
    let ids = c.in_ok-children.children.items in
    let n = c.len.ensures ∙ (c.in_ok-children.ensures.len ∙ sym (ap length c.in_ok-children.ensures.items)) in
    let m = c.len-in-elements.ensures ∙ (c.in_ok-children.ensures.len ∙ sym (ap length c.in_ok-children.ensures.items)) in
    let q = next_child' ids c.elements.next c.index.result.now (slice_get_read ids c.len.result c.elements.next c.index.result.now n c.elements-test.true c.index.ensures) in
    let w = q ∙ ap (λ (y : Option NodeId). y ∷ drop (c.elements.next + 1) ids) c.in-Some.is in
    let b = nat_eq (c.elements.next + 1) c.len-in-elements.result in
    let k = c.elements-test.true in
    let v = subst (λ (r : Option (Option NodeId)). ElementAnswer c.args.in_object c.elements.ast c.convert_element.new.ast c.in-Some.child b (noted_in c.elements.notes) (noted_in c.convert_element.new.notes) r) c.in_default-2.is c.in_ok-element.ensures in
    elements_none {id = c.args.id} (loop_refuses {id = c.args.id} {c = c.in-Some.child} (c.elements.invariant).elements w b (last_child ids (c.elements.next + 1) b (omega arith) (ap (λ (z : ℕ). nat_eq (c.elements.next + 1) z) m)) v)

pub convert_elements-elements-preserved : goal.convert_elements-elements-preserved
convert_elements-elements-preserved t c =
    let ids = c.in_ok-children.children.items in
    let n = c.len.ensures ∙ (c.in_ok-children.ensures.len ∙ sym (ap length c.in_ok-children.ensures.items)) in
    let m = c.len-in-elements.ensures ∙ (c.in_ok-children.ensures.len ∙ sym (ap length c.in_ok-children.ensures.items)) in
    let q = next_child' ids c.elements.next c.index.result.now (slice_get_read ids c.len.result c.elements.next c.index.result.now n c.elements-test.true c.index.ensures) in
    let w = q ∙ ap (λ (y : Option NodeId). y ∷ drop (c.elements.next + 1) ids) c.in-Some.is in
    let b = nat_eq (c.elements.next + 1) c.len-in-elements.result in
    let k = c.elements-test.true in
    let v = subst (λ (r : Option (Option NodeId)). ElementAnswer c.args.in_object c.elements.ast c.convert_element.new.ast c.in-Some.child b (noted_in c.elements.notes) (noted_in c.convert_element.new.notes) r) c.in-Some-2.is c.in_ok-element.ensures in
    record {
      within = omega arith;
      children = (c.elements.invariant).children;
      elements = subst (λ (js : List (Option NodeId)). ElementLoop c.args.in_object c.args.ast.now c.convert_element.new.ast c.args.id (noted_in c.args.notes.now) (noted_in c.convert_element.new.notes) ids js (c.elements.next + 1)) (sym c.in_ok-push.ensures.items) (loop_next {id = c.args.id} {c = c.in-Some.child} (c.elements.invariant).elements w b {slot = c.in-Some-2.element} (last_child ids (c.elements.next + 1) b (omega arith) (ap (λ (z : ℕ). nat_eq (c.elements.next + 1) z) m)) v);
    }

pub convert_elements-returns : goal.convert_elements-returns
convert_elements-returns t c =
    let n = c.len.ensures ∙ (c.in_ok-children.ensures.len ∙ sym (ap length c.in_ok-children.ensures.items)) in
    let k = c.elements-test.false in
    elements_some {id = c.args.id} (loop_ends {id = c.args.id} (c.elements.invariant).elements (no_more c.in_ok-children.children.items c.elements.next (omega arith)))

pub convert_item-returns-in-SpreadElement : goal.convert_item-returns-in-SpreadElement
convert_item-returns-in-SpreadElement t c = IfOk-weaker c.convert_rest.result _ _ (λ found v. item_spread c.args.in_object {id = c.args.id} c.args.is_last found (ap (λ k. is_spread (kind_of k)) (sym c.kind.ensures ∙ c.in-SpreadElement.is)) v) c.convert_rest.ensures

pub convert_item-returns-in-AssignmentExpression : goal.convert_item-returns-in-AssignmentExpression
convert_item-returns-in-AssignmentExpression t c = IfOk-weaker c.convert_assignment.result _ _ (λ found v. item_assigned c.args.in_object {id = c.args.id} c.args.is_last found (ap (λ k. is_assignment (kind_of k)) (sym c.kind.ensures ∙ c.in-AssignmentExpression.is)) v) c.convert_assignment.ensures

pub convert_item-returns-in-ObjectProperty : goal.convert_item-returns-in-ObjectProperty
convert_item-returns-in-ObjectProperty t c = IfOk-weaker c.convert_property.result _ _ (λ found v. item_property c.args.in_object {id = c.args.id} c.args.is_last found (ap (λ k. is_property (kind_of k)) (sym c.kind.ensures ∙ c.in-ObjectProperty.is)) v) c.convert_property.ensures

pub convert_item-returns-in_default : goal.convert_item-returns-in_default
convert_item-returns-in_default t c = IfOk-weaker c.convert_target.result _ _ (λ found v. item_target c.args.in_object {id = c.args.id} c.args.is_last found (ap (λ k. is_spread (kind_of k)) (sym c.kind.ensures) ∙ no_spread_element c.kind.result c.in_default.not-SpreadElement) (ap (λ k. is_assignment (kind_of k)) (sym c.kind.ensures) ∙ no_assignment c.kind.result c.in_default.not-AssignmentExpression) (ap (λ k. is_property (kind_of k)) (sym c.kind.ensures) ∙ no_property c.kind.result c.in_default.not-ObjectProperty) v) c.convert_target.ensures

pub convert_rest-returns-then-not-is_last : goal.convert_rest-returns-then-not-is_last
convert_rest-returns-then-not-is_last t c = subst (λ (b : Bool). RestAnswer c.args.in_object c.args.ast.now c.args.ast.now c.args.id (noted_in c.args.notes.now) (record { places = c.args.notes.now.places.items; misplaced = Some c.span-span.result }) b None) (sym c.if-not-is_last.true) (rest_not_last {id = c.args.id} c.args.in_object c.span-span.ensures refl)

pub convert_rest-returns-in_default : goal.convert_rest-returns-in_default
convert_rest-returns-in_default t c = subst (λ (b : Bool). RestAnswer c.args.in_object c.args.ast.now c.args.ast.now c.args.id (noted_in c.args.notes.now) (noted_in c.args.notes.now) b None) (sym c.if-not-is_last.false) (rest_without {id = c.args.id} c.args.in_object c.in_default.ensures)

pub convert_rest-convert_target-requires : goal.convert_rest-convert_target-requires
convert_rest-convert_target-requires t c = (let l = argument_less {id = c.args.id} {c = c.in-Some.argument} c.in-Some.ensures c.requires in let e = c.decreases in omega arith, argument_stood {id = c.args.id} {c = c.in-Some.argument} c.in-Some.ensures c.requires)

pub convert_rest-returns-in_default-2 : goal.convert_rest-returns-in_default-2
convert_rest-returns-in_default-2 t c =
    let v = subst (λ (r : Option NodeId). TargetAnswer c.args.ast.now c.convert_target.new.ast c.in-Some.argument (noted_in c.args.notes.now) (noted_in c.convert_target.new.notes) r) c.in_default-2.is c.in_ok-found.ensures in
    subst (λ (b : Bool). RestAnswer c.args.in_object c.args.ast.now c.convert_target.new.ast c.args.id (noted_in c.args.notes.now) (noted_in c.convert_target.new.notes) b None) (sym c.if-not-is_last.false) (rest_unconverted {id = c.args.id} {c = c.in-Some.argument} c.in-Some.ensures v c.args.in_object)

pub convert_rest-kind-kind-requires : goal.convert_rest-kind-kind-requires
convert_rest-kind-kind-requires t c = argument_below {id = c.args.id} {c = c.in-Some.argument} c.in-Some.ensures c.requires

pub convert_rest-span-written-requires : goal.convert_rest-span-written-requires
convert_rest-span-written-requires t c = argument_below {id = c.args.id} {c = c.in-Some.argument} c.in-Some.ensures c.requires

pub convert_rest-returns : goal.convert_rest-returns
convert_rest-returns t c =
    let v = subst (λ (r : Option NodeId). TargetAnswer c.args.ast.now c.convert_target.new.ast c.in-Some.argument (noted_in c.args.notes.now) (noted_in c.convert_target.new.notes) r) c.in-Some-2.is c.in_ok-found.ensures in
    let m = noted_in c.convert_target.new.notes in
    let n = noted_in c.note_argument.new.notes in
    let w : Noted = record { places = c.push.new.self.items; misplaced = c.note_argument.new.notes.misplaced } in
    let told : n ≡ record { places = m.places ++ literal_places c.args.in_object (kind_of (node_at c.args.ast.now c.in-Some.argument).kind) (node_at c.args.ast.now c.in-Some.argument).span; misplaced = m.misplaced } = c.in_ok-note_argument.ensures ∙ (ap (λ (k : NodeKind). let x : Noted = record { places = m.places ++ literal_places c.args.in_object (kind_of k) c.span-written.result; misplaced = m.misplaced } in x) c.kind-kind.ensures ∙ ap (λ (p : Span). let x : Noted = record { places = m.places ++ literal_places c.args.in_object (kind_of (node_at c.args.ast.now c.in-Some.argument).kind) p; misplaced = m.misplaced } in x) c.span-written.ensures) in
    subst (λ (b : Bool). RestAnswer c.args.in_object c.args.ast.now c.make_rest.new.ast c.args.id (noted_in c.args.notes.now) w b (Some c.in_ok-node.node)) (sym c.if-not-is_last.false) (rest_made {id = c.args.id} {c = c.in-Some.argument} c.in-Some.ensures {mid = m} {notes = w} c.args.in_object v c.in_ok-node.ensures (relabels node.AssignmentTargetRest (node_at c.args.ast.now c.args.id) c.span-span.ensures) c.span-span.ensures (c.in_ok-push.ensures.items ∙ ap (λ (x : Noted). x.places ++ Rest c.span-span.result ∷ []) told) (ap (λ (x : Noted). x.misplaced) told))

pub convert_property-returns-then-flags : goal.convert_property-returns-then-flags
convert_property-returns-then-flags t c = IfOk-weaker c.convert_shorthand.result _ _ (λ found v. property_shorthand {id = c.args.id} found c.flags-flags.ensures c.if-flags.true v) c.convert_shorthand.ensures

pub convert_property-returns-in_default : goal.convert_property-returns-in_default
convert_property-returns-in_default t c = property_without {id = c.args.id} c.flags-flags.ensures c.if-flags.false c.in_default.ensures

pub convert_property-convert_element-requires : goal.convert_property-convert_element-requires
convert_property-convert_element-requires t c = (let l = value_less {id = c.args.id} c.in-Some.name c.in-Some.value c.in-Some.ensures c.requires in let e = c.decreases in omega arith, value_stood {id = c.args.id} c.in-Some.name c.in-Some.value c.in-Some.ensures c.requires)

pub convert_property-returns-in_default-2 : goal.convert_property-returns-in_default-2
convert_property-returns-in_default-2 t c = property_refused {id = c.args.id} c.in-Some.name c.in-Some.value c.in-Some.ensures c.flags-flags.ensures c.if-flags.false (subst (λ (r : Option (Option NodeId)). ElementAnswer false c.args.ast.now c.convert_element.new.ast c.in-Some.value true (noted_in c.args.notes.now) (noted_in c.convert_element.new.notes) r) c.in_default-2.is c.in_ok-target.ensures)

pub convert_property-returns : goal.convert_property-returns
convert_property-returns t c =
    let v = subst (λ (r : Option (Option NodeId)). ElementAnswer false c.args.ast.now c.convert_element.new.ast c.in-Some.value true (noted_in c.args.notes.now) (noted_in c.convert_element.new.notes) r) c.in-Some-2.is c.in_ok-target.ensures in
    let n = node_at c.args.ast.now c.args.id in
    let q = ap (λ (p : Span). label_of node.AssignmentTargetPropertyProperty op.None c.flags-flags.result p) c.span-span.ensures ∙ ap (λ (f : NodeFlags). label_of node.AssignmentTargetPropertyProperty op.None f n.span) c.flags-flags.ensures in
    property_made {id = c.args.id} c.in-Some.name c.in-Some.value c.in-Some.ensures c.flags-flags.ensures c.if-flags.false v c.in_ok-node.ensures q

pub convert_target-returns-then-is_literal : goal.convert_target-returns-then-is_literal
convert_target-returns-then-is_literal t c = IfOk-weaker c.convert_literal.result _ _ (λ found v. target_literal {id = c.args.id} found (ap (λ k. is_literal (kind_of k)) (sym c.kind.ensures) ∙ (sym c.is_literal.ensures ∙ c.if-is_literal.true)) v) c.convert_literal.ensures

pub convert_target-returns : goal.convert_target-returns
convert_target-returns t c = target_simple {id = c.args.id} c.simple_target.result (ap (λ k. is_literal (kind_of k)) (sym c.kind.ensures) ∙ (sym c.is_literal.ensures ∙ c.if-is_literal.false)) c.simple_target.ensures.node
