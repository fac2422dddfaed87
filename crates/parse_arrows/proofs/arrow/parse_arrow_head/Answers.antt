use Rattle.std.proofs.Common.{arith}
use Rattle.std.proofs.lemmas.Result.{err_from_is_err_and}
use Rattle.parse_shared.proofs.laws_shared.Moving.{standing}
use Rattle.parse_shared.proofs.laws_shared.Nesting.{later_room, nests_later}
use Rattle.laws_operators.proofs.AsyncHeads.{none_async, plain_found, plain_stops, some_async}
use Rattle.parse_arrows.proofs.arrow.parse_arrow_head.Goals as goal

pub returns-in-Some : goal.returns-in-Some
returns-in-Some g c = some_async c.args.p.now c.parse_async_head.new.p _ _ c.in-Some.is c.in_ok-parameters.ensures

pub parse_plain_head-requires-clause-at : goal.parse_plain_head-requires-clause-at
parse_plain_head-requires-clause-at g c = standing ((none_async c.args.p.now c.parse_async_head.new.p _ c.in_default.is c.in_ok-parameters.ensures).0.at _ _ c.requires.at)

pub parse_plain_head-requires-clause-nests : goal.parse_plain_head-requires-clause-nests
parse_plain_head-requires-clause-nests g c =
    let u = (none_async c.args.p.now c.parse_async_head.new.p _ c.in_default.is c.in_ok-parameters.ensures).0 in
    nests_later c.requires.nests (let v = u.place in later_room (omega arith) u.same)

pub returns-in_err-found : goal.returns-in_err-found
returns-in_err-found g c =
    let p = err_from_is_err_and c.from_residual-in_err-found.result c.from_residual-in_err-found.ensures.1 in
    let n = none_async c.args.p.now c.parse_async_head.new.p _ c.in_default.is c.in_ok-parameters.ensures in
    rw (p.1, p.2) (plain_stops c.requires.at n.0 n.1 _ _ c.in_err-found.ensures)

pub returns : goal.returns
returns g c =
    let n = none_async c.args.p.now c.parse_async_head.new.p _ c.in_default.is c.in_ok-parameters.ensures in
    plain_found c.requires.at n.0 n.1 _ _ _ c.in_ok-found.ensures c.head_of.ensures
