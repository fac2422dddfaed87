use Rattle.std.proofs.Common.{arith}
use Rattle.std.proofs.lemmas.Result.{err_from_is_err_and}
use Rattle.parse_shared.proofs.laws_shared.Moving.{standing, stops_so}
use Rattle.parse_shared.proofs.laws_shared.NameKinds.{name_so}
use Rattle.parse_shared.proofs.laws_shared.Nesting.{nests_later, later_room}
use Rattle.laws_patterns.proofs.ObjectPatterns.{no_property, no_shorthand_there}
use Rattle.parse_patterns.proofs.object_pattern.parse_binding_property.Goals as goal

pub parse_named_property-requires-clause-name : goal.parse_named_property-requires-clause-name
parse_named_property-requires-clause-name g c = name_so c.args.p.now c.if-name_stands.true c.name_stands.ensures

pub parse_property_name-requires-clause-nests : goal.parse_property_name-requires-clause-nests
parse_property_name-requires-clause-nests g c = nests_later c.requires.nests (omega arith)

pub returns-in_err-name : goal.returns-in_err-name
returns-in_err-name g c = λ text f a.
    let p = err_from_is_err_and c.from_residual.result c.from_residual.ensures.1 in
    rw (p.1, p.2) (stops_so _ _ _ (λ n. no_property (no_shorthand_there a (name_so c.args.p.now c.if-name_stands.false c.name_stands.ensures)) n) (c.in_err-name.ensures text f a))

pub parse_property_value-requires-clause-at : goal.parse_property_value-requires-clause-at
parse_property_value-requires-clause-at g c = standing (c.in_ok-name.ensures _ _ c.requires.at).at

pub parse_property_value-requires-clause-nests : goal.parse_property_value-requires-clause-nests
parse_property_value-requires-clause-nests g c =
    let x = c.in_ok-name.ensures _ _ c.requires.at in
    let s = later_room (let a = x.further in let b = c.requires.at.behind in omega arith) x.same in
    nests_later c.requires.nests (omega arith)

pub parse_property_value-requires-clause-before : goal.parse_property_value-requires-clause-before
parse_property_value-requires-clause-before g c = let x = (c.in_ok-name.ensures _ _ c.requires.at).further in let s = c.cur_start-start.ensures in omega arith

pub returns : goal.returns
returns g c = λ text f a. c.parse_property_value.ensures text f _ a c.cur_start-start.ensures (c.in_ok-name.ensures text f a) (no_shorthand_there a (name_so c.args.p.now c.if-name_stands.false c.name_stands.ensures))
