use Rattle.std.proofs.Common.{arith}
use Rattle.std.proofs.lemmas.Result.{err_from_is_err_and}
use Rattle.laws_primary.proofs.laws_shared.Moving.{standing, stops_behind}
use Rattle.laws_primary.proofs.laws_shared.Nesting.{later_room, nests_later}
use Rattle.laws_primary.proofs.laws_shared.Verdicts.{grown_then}
use Rattle.laws_primary.proofs.PropertyForms.{accessor_read, no_accessor_named}
use Rattle.parse_primary.proofs.object.parse_accessor.Goals as goal

pub parse_property_name-requires-clause-nests : goal.parse_property_name-requires-clause-nests
parse_property_name-requires-clause-nests g c = nests_later c.requires.nests (omega arith)

pub returns-in_err-name : goal.returns-in_err-name
returns-in_err-name g c = λ text f first a s k e m.
    let p = err_from_is_err_and c.from_residual.result c.from_residual.ensures.1 in
    rw (p.1, p.2) (stops_behind _ _ m.same (λ g. grown_then m.kept g) (λ n. no_accessor_named a e m c.args.form k n) (c.in_err-name.ensures text f m.at))

pub parse_method-requires-clause-at : goal.parse_method-requires-clause-at
parse_method-requires-clause-at g c = standing (c.in_ok-name.ensures _ _ c.requires.at).at

pub parse_method-requires-clause-nests : goal.parse_method-requires-clause-nests
parse_method-requires-clause-nests g c = nests_later c.requires.nests (let x = c.in_ok-name.ensures _ _ c.requires.at in let r = later_room (let i = x.further in let j = c.requires.at.behind in omega arith) x.same in omega arith)

pub parse_method-requires-clause-before : goal.parse_method-requires-clause-before
parse_method-requires-clause-before g c = let x = c.in_ok-name.ensures _ _ c.requires.at in let i = x.further in let j = c.requires.at.behind in let b = c.requires.before in omega arith

pub returns : goal.returns
returns g c = λ text f first a s k e m. accessor_read a e m _ c.parse_method.result c.args.form c.in_ok-name.name s k (c.in_ok-name.ensures text f m.at) c.parse_method.ensures
