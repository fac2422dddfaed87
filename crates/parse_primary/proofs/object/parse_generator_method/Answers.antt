use Rattle.std.proofs.Common.{ap, arith}
use Rattle.std.proofs.lemmas.Result.{err_from_is_err_and}
use Rattle.js_base.specs.declared.kind.Kind.TheVariants.{RAngle}
use Rattle.js_base.specs.Kinds.{same_kind}
use Rattle.js_grammar.specs.Productions.{at, Property}
use Rattle.laws_primary.specs.laws_shared.Moves.{unpassable}
use Rattle.laws_primary.proofs.laws_shared.Here.{uncut}
use Rattle.laws_primary.proofs.laws_shared.Moving.{standing, stops_behind}
use Rattle.laws_primary.proofs.laws_shared.Nesting.{later_room, nested_room, nests_later}
use Rattle.laws_primary.proofs.laws_shared.Verdicts.{grown_then}
use Rattle.laws_primary.proofs.PropertyForms.{no_starred_name, starred_only, starred_part}
use Rattle.laws_primary.proofs.Wholes.{item_by}
use Rattle.parse_primary.proofs.object.parse_generator_method.Goals as goal

pub advance-requires-clause-whole : goal.advance-requires-clause-whole
advance-requires-clause-whole g c = (uncut c.requires.at (ap (same_kind RAngle) c.requires.sign.0), ap unpassable c.requires.sign.0)

pub parse_property_name-requires-clause-at : goal.parse_property_name-requires-clause-at
parse_property_name-requires-clause-at g c = standing (c.in_ok-advance.ensures _ _ c.requires.at).at

pub parse_property_name-requires-clause-nests : goal.parse_property_name-requires-clause-nests
parse_property_name-requires-clause-nests g c = nests_later c.requires.nests (let r = nested_room c.requires.at (c.in_ok-advance.ensures _ _ c.requires.at) in omega arith)

pub returns-in_err-name : goal.returns-in_err-name
returns-in_err-name g c = λ text f a.
    let p = err_from_is_err_and c.from_residual-in_err-name.result c.from_residual-in_err-name.ensures.1 in
    let m = c.in_ok-advance.ensures text f a in
    rw (p.1, p.2) (stops_behind _ _ m.same (λ g. grown_then m.kept g) (λ n. no_starred_name a c.requires.sign.0 c.requires.sign.1 m n) (c.in_err-name.ensures text f m.at))

pub parse_method-requires-clause-at : goal.parse_method-requires-clause-at
parse_method-requires-clause-at g c = standing (c.in_ok-name.ensures _ _ (c.in_ok-advance.ensures _ _ c.requires.at).at).at

pub parse_method-requires-clause-nests : goal.parse_method-requires-clause-nests
parse_method-requires-clause-nests g c = nests_later c.requires.nests (
    let m = c.in_ok-advance.ensures _ _ c.requires.at in
    let x = c.in_ok-name.ensures _ _ m.at in
    let r = later_room (let i = x.further in let j = m.at.behind in omega arith) x.same in
    let s = nested_room c.requires.at m in omega arith)

pub parse_method-requires-clause-before : goal.parse_method-requires-clause-before
parse_method-requires-clause-before g c =
    let m = c.in_ok-advance.ensures _ _ c.requires.at in
    let x = c.in_ok-name.ensures _ _ m.at in
    let i = x.further in let j = m.further in let k = m.at.behind in let s = c.cur_start-start.ensures in omega arith

pub returns : goal.returns
returns g c = λ text f a.
    let m = c.in_ok-advance.ensures text f a in
    let x = c.in_ok-name.ensures text f m.at in
    item_by text f c.args.p.now (at Property f) _ c.parse_method.result (starred_only a c.requires.sign.0 c.requires.sign.1 m c.in_ok-name.name.computed x) (c.parse_method.ensures text f c.args.p.now _ a c.cur_start-start.ensures (starred_part a c.requires.sign.0 c.requires.sign.1 m c.in_ok-name.name.computed x))
