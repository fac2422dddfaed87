use Rattle.std.proofs.Common.{[], ◌∷◌, Some, arith, ap}
use Rattle.std.proofs.lemmas.Result.{err_from_is_err_and}
use Rattle.js_base.specs.declared.kind.Kind.TheVariants.{RAngle}
use Rattle.js_base.specs.Kinds.{same_kind}
use Rattle.laws_classes.specs.Elements.{element_flags}
use Rattle.laws_classes.specs.Fields.{node_of_field}
use Rattle.laws_classes.specs.laws_primary.laws_shared.Moves.{unpassable}
use Rattle.laws_classes.proofs.laws_primary.laws_shared.Here.{uncut}
use Rattle.laws_classes.proofs.laws_primary.laws_shared.Moving.{standing}
use Rattle.laws_classes.proofs.laws_primary.laws_shared.Nesting.{nested_room, nests_later}
use Rattle.laws_classes.proofs.Fields.{field_element, field_end, field_made, value_stops_first, value_stops_last, value_taken}
use Rattle.parse_classes.proofs.field.parse_initialised_field.Goals as goal

pub advance-requires-clause-whole : goal.advance-requires-clause-whole
advance-requires-clause-whole g c = (uncut c.requires.at (ap (same_kind RAngle) c.requires.sign), ap unpassable c.requires.sign)

pub assignment_in_field-requires-clause-at : goal.assignment_in_field-requires-clause-at
assignment_in_field-requires-clause-at g c = standing (c.in_ok-advance.ensures _ _ c.requires.at).at

pub assignment_in_field-requires-clause-nests : goal.assignment_in_field-requires-clause-nests
assignment_in_field-requires-clause-nests g c = nests_later c.requires.nests (let r = nested_room c.requires.at (c.in_ok-advance.ensures _ _ c.requires.at) in omega arith)

pub returns-in_err-value : goal.returns-in_err-value
returns-in_err-value g c = λ text f s h g0 first p a e d.
    let z = err_from_is_err_and c.from_residual-in_err-value.result c.from_residual-in_err-value.ensures.1 in
    let m = c.in_ok-advance.ensures text f d.named.whole.at in
    rw (z.1, z.2) (value_stops_first a (node_of_field c.args.kind) (element_flags c.args.head.is_static c.args.name.computed) d c.requires.sign m _ _ (c.in_err-value.ensures text f m.at))

pub end_field-requires : goal.end_field-requires
end_field-requires g c = standing (c.in_ok-value.ensures _ _ (c.in_ok-advance.ensures _ _ c.requires.at).at).answer.at

pub returns-in_err-end_field : goal.returns-in_err-end_field
returns-in_err-end_field g c = λ text f s h g0 first p a e d.
    let z = err_from_is_err_and c.from_residual-in_err-end_field.result c.from_residual-in_err-end_field.ensures.1 in
    let m = c.in_ok-advance.ensures text f d.named.whole.at in
    rw (z.1, z.2) (value_stops_last a (node_of_field c.args.kind) (element_flags c.args.head.is_static c.args.name.computed) d c.requires.sign m (c.in_ok-value.ensures text f m.at) _ _ c.in_err-end_field.ensures)

pub make_field-requires : goal.make_field-requires
make_field-requires g c =
    let m = c.in_ok-advance.ensures _ _ c.requires.at in
    let y = (c.in_ok-value.ensures _ _ m.at).answer in
    let z = field_end y.at c.in_ok-end_field.ensures in
    let i = m.further in let j = m.at.behind in let k = y.further in let l = z.further in let b = c.requires.before in let d = c.requires.at.behind in omega arith

pub returns : goal.returns
returns g c = λ text f s h g0 first p a e d.
    let m = c.in_ok-advance.ensures text f d.named.whole.at in
    value_taken a (node_of_field c.args.kind) (element_flags c.args.head.is_static c.args.name.computed) d c.requires.sign m (c.in_ok-value.ensures text f m.at) (field_element c.args.kind) c.in_ok-end_field.ensures (field_made first {ids = Some c.args.name.key ∷ Some c.in_ok-value.value ∷ []} {n = element_flags c.args.head.is_static c.args.name.computed} c.args.kind e c.element_flags-flags.ensures c.in_ok-node.ensures)
