use Rattle.std.proofs.Common.{List, Option, None, length, sym, ap, subst, ◌∙◌}
use Rattle.parse_shared.specs.laws_shared.States.{At, flags_of}
use Rattle.parse_shared.proofs.laws_shared.Moving.{beside_nodes, standing}
use Rattle.parse_shared.specs.js_tree.declared.id.NodeId.{NodeId}
use Rattle.parse_shared.specs.js_cursor.Parsers.{Parser}
use Rattle.parse_targets.specs.declared.widening.Widening.{Widening}
use Rattle.parse_targets.specs.Taken.{TargetTaken}
use Rattle.parse_targets.specs.Targets.{is_object, noted_in, unnoted}
use Rattle.parse_targets.proofs.ConvertedNodes.{LiteralAnswer}
use Rattle.parse_targets.proofs.TargetsTaken.{array_refusal, refused_marked, places_fit, places_spotted, taken_kept, taken_told}
use Rattle.parse_targets.proofs.array_target.literal_target.Goals.{then-kept_so_far-kept+in_ok-tell_places, else-kept_so_far-kept}
use Rattle.parse_targets.proofs.array_target.literal_target.Goals as goal

pub refuse_literal-requires-clause-marked : goal.refuse_literal-requires-clause-marked
refuse_literal-requires-clause-marked g c = λ n.
    let r = c.requires.read in
    let v = subst (λ (found : Option NodeId). LiteralAnswer c.args.p.now.nodes c.convert.new.p.nodes c.args.id unnoted (noted_in c.convert.new.notes) found) c.in_default.is (subst (λ (xs : List Widening). LiteralAnswer c.args.p.now.nodes c.convert.new.p.nodes c.args.id (record { places = xs; misplaced = None }) (noted_in c.convert.new.notes) c.in_ok-target.field-0) c.new.ensures.items c.in_ok-target.ensures.found) in
    refused_marked r.begins r.read c.requires.whole c.requires.sign r.literal c.in_ok-target.ensures.stays v c.args.start r.start_is (n ∙ r.kept_is)

pub returns-in_default : goal.returns-in_default
returns-in_default g c = λ text f first a s k x h.
    let v = subst (λ (found : Option NodeId). LiteralAnswer c.args.p.now.nodes c.convert.new.p.nodes c.args.id unnoted (noted_in c.convert.new.notes) found) c.in_default.is (subst (λ (xs : List Widening). LiteralAnswer c.args.p.now.nodes c.convert.new.p.nodes c.args.id (record { places = xs; misplaced = None }) (noted_in c.convert.new.notes) c.in_ok-target.field-0) c.new.ensures.items c.in_ok-target.ensures.found) in
    array_refusal a x c.requires.whole c.requires.sign h c.in_ok-target.ensures.stays v c.refuse_literal.new.p c.refuse_literal.result c.refuse_literal.ensures

pub tell_places-requires-clause-fits : goal.tell_places-requires-clause-fits
tell_places-requires-clause-fits g c =
    let r = c.requires.read in
    let v = subst (λ (found : Option NodeId). LiteralAnswer c.args.p.now.nodes c.convert.new.p.nodes c.args.id unnoted (noted_in c.convert.new.notes) found) c.in-Some.is (subst (λ (xs : List Widening). LiteralAnswer c.args.p.now.nodes c.convert.new.p.nodes c.args.id (record { places = xs; misplaced = None }) (noted_in c.convert.new.notes) c.in_ok-target.field-0) c.new.ensures.items c.in_ok-target.ensures.found) in
    places_fit r.begins r.read c.requires.whole c.requires.sign r.literal c.in_ok-target.ensures.stays v (sym (ap (λ (z : Parser). length z.errors) c.in_ok-target.ensures.stays) ∙ (sym c.kept_so_far.ensures ∙ (c.if-kept_so_far-kept.true ∙ r.kept_is)))

pub tell_places-requires-clause-spotted : goal.tell_places-requires-clause-spotted
tell_places-requires-clause-spotted g c =
    let r = c.requires.read in
    let v = subst (λ (found : Option NodeId). LiteralAnswer c.args.p.now.nodes c.convert.new.p.nodes c.args.id unnoted (noted_in c.convert.new.notes) found) c.in-Some.is (subst (λ (xs : List Widening). LiteralAnswer c.args.p.now.nodes c.convert.new.p.nodes c.args.id (record { places = xs; misplaced = None }) (noted_in c.convert.new.notes) c.in_ok-target.field-0) c.new.ensures.items c.in_ok-target.ensures.found) in
    places_spotted r.begins r.read c.requires.whole c.requires.sign r.literal c.in_ok-target.ensures.stays v (sym (ap (λ (z : Parser). length z.errors) c.in_ok-target.ensures.stays) ∙ (sym c.kept_so_far.ensures ∙ (c.if-kept_so_far-kept.true ∙ r.kept_is)))

pub returns : goal.returns
returns g c = λ text f first a s k x h.
    let v = subst (λ (found : Option NodeId). LiteralAnswer c.args.p.now.nodes c.convert.new.p.nodes c.args.id unnoted (noted_in c.convert.new.notes) found) c.in-Some.is (subst (λ (xs : List Widening). LiteralAnswer c.args.p.now.nodes c.convert.new.p.nodes c.args.id (record { places = xs; misplaced = None }) (noted_in c.convert.new.notes) c.in_ok-target.field-0) c.new.ensures.items c.in_ok-target.ensures.found) in
    elim c.if-kept_so_far-kept.branch [
      | then-kept_so_far-kept+in_ok-tell_places w ↦ subst (λ (z : Parser). TargetTaken (is_object x.answer.label.kind) text f first c.args.p.now z c.in-Some.target) (sym w.p-is) (taken_told a x c.requires.whole c.requires.sign h c.in_ok-target.ensures.stays v w.in_ok-tell_places.ensures)
      | else-kept_so_far-kept w ↦ subst (λ (z : Parser). TargetTaken (is_object x.answer.label.kind) text f first c.args.p.now z c.in-Some.target) (sym w.p-is) (taken_kept a x c.requires.whole c.requires.sign h c.in_ok-target.ensures.stays v (λ e. w.if-kept_so_far-kept.false (c.kept_so_far.ensures ∙ (e ∙ sym k))))
    ]

pub refuse_literal-requires-clause-at : goal.refuse_literal-requires-clause-at
refuse_literal-requires-clause-at g c = standing (subst (λ (z : Parser). At c.args.p.now.text (flags_of c.args.p.now) z) (sym c.in_ok-target.ensures.stays) (beside_nodes c.convert.new.p.nodes c.requires.at))

pub tell_places-requires-clause-at : goal.tell_places-requires-clause-at
tell_places-requires-clause-at g c = standing (subst (λ (z : Parser). At c.args.p.now.text (flags_of c.args.p.now) z) (sym c.in_ok-target.ensures.stays) (beside_nodes c.convert.new.p.nodes c.requires.at))
