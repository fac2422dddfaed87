use Rattle.std.proofs.Common.{arith, refl}
use Rattle.std.proofs.lemmas.Result.{err_from_is_err_and}
use Rattle.laws_classes.proofs.laws_primary.laws_shared.Moving.{standing}
use Rattle.laws_classes.proofs.laws_primary.laws_shared.Nesting.{later_room, nests_later}
use Rattle.laws_classes.proofs.AccessorMembers.{accessor_read, accessor_stops}
use Rattle.parse_classes.proofs.accessor_member.parse_accessor_method.Goals as goal

pub parse_element_name-requires-clause-nests : goal.parse_element_name-requires-clause-nests
parse_element_name-requires-clause-nests g c = nests_later c.requires.nests (omega arith)

pub returns-in_err-name : goal.returns-in_err-name
returns-in_err-name g c = λ text f first p af s a b k e i m.
    let z = err_from_is_err_and c.from_residual.result c.from_residual.ensures.1 in
    rw (z.1, z.2) (accessor_stops c.args.head.is_static af b a e m i c.args.kind _ _ k (c.in_err-name.ensures text f m.at))

pub parse_method-requires-clause-at : goal.parse_method-requires-clause-at
parse_method-requires-clause-at g c = standing (c.in_ok-name.ensures _ _ c.requires.at).whole.at

pub parse_method-requires-clause-nests : goal.parse_method-requires-clause-nests
parse_method-requires-clause-nests g c = nests_later c.requires.nests (
    let x = (c.in_ok-name.ensures _ _ c.requires.at).whole in
    let r = later_room (let i = x.further in let j = c.requires.at.behind in omega arith) x.same in omega arith)

pub parse_method-requires-clause-before : goal.parse_method-requires-clause-before
parse_method-requires-clause-before g c =
    let x = (c.in_ok-name.ensures _ _ c.requires.at).whole in
    let i = x.further in let j = c.requires.at.behind in let b = c.requires.before in omega arith

pub returns : goal.returns
returns g c = λ text f first p af s a b k e i m.
    accessor_read c.args.head.is_static af b a e m i c.args.kind _ c.parse_method.result c.args.head c.in_ok-name.name refl s k (c.in_ok-name.ensures text f m.at) c.parse_method.ensures
