use Rattle.std.proofs.Common.{ap, arith}
use Rattle.std.proofs.lemmas.Result.{err_from_is_err_and}
use Rattle.js_base.specs.declared.kind.Kind.TheVariants.{RAngle}
use Rattle.js_base.specs.Kinds.{same_kind}
use Rattle.js_grammar.specs.Trees.{init}
use Rattle.js_grammar.specs.Productions.{computed_flag, flag}
use Rattle.laws_primary.specs.laws_shared.Moves.{unpassable}
use Rattle.laws_primary.proofs.laws_shared.Here.{uncut}
use Rattle.laws_primary.proofs.laws_shared.Moving.{standing}
use Rattle.laws_primary.proofs.laws_shared.Nesting.{nested_room, nests_later}
use Rattle.laws_primary.proofs.Methods.{value_made, value_stops, value_taken}
use Rattle.parse_primary.proofs.object.parse_value.Goals as goal

pub advance-requires-clause-whole : goal.advance-requires-clause-whole
advance-requires-clause-whole g c = (uncut c.requires.at (ap (same_kind RAngle) c.requires.colon), ap unpassable c.requires.colon)

pub assignment_with_in-requires-clause-at : goal.assignment_with_in-requires-clause-at
assignment_with_in-requires-clause-at g c = standing (c.in_ok-advance.ensures _ _ c.requires.at).at

pub assignment_with_in-requires-clause-nests : goal.assignment_with_in-requires-clause-nests
assignment_with_in-requires-clause-nests g c = nests_later c.requires.nests (let r = nested_room c.requires.at (c.in_ok-advance.ensures _ _ c.requires.at) in omega arith)

pub returns-in_err-value : goal.returns-in_err-value
returns-in_err-value g c = λ text f first i a e x.
    let p = err_from_is_err_and c.from_residual-in_err-value.result c.from_residual-in_err-value.ensures.1 in
    let m = c.in_ok-advance.ensures text f x.at in
    rw (p.1, p.2) (value_stops a init (flag c.args.name.computed computed_flag) x c.requires.colon m _ _ (c.in_err-value.ensures text f m.at))

pub make_property-requires : goal.make_property-requires
make_property-requires g c =
    let m = c.in_ok-advance.ensures _ _ c.requires.at in
    let y = (c.in_ok-value.ensures _ _ m.at).answer in
    let i = m.further in let j = m.at.behind in let k = y.further in let b = c.requires.before in let d = c.requires.at.behind in omega arith

pub returns : goal.returns
returns g c = λ text f first i a e x.
    let m = c.in_ok-advance.ensures text f x.at in
    let y = c.in_ok-value.ensures text f m.at in
    value_taken a init (flag c.args.name.computed computed_flag) x c.requires.colon m y (value_made first c.args.name.computed e c.property_flags-flags.ensures c.in_ok-node.ensures)
