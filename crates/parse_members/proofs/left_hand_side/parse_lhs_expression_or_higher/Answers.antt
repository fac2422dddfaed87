use Rattle.std.proofs.Common.{arith}
use Rattle.std.proofs.lemmas.Result.{err_from_is_err_and}
use Rattle.parse_shared.proofs.laws_shared.Moving.{standing}
use Rattle.parse_shared.proofs.laws_shared.Nesting.{nests_later, later_room}
use Rattle.parse_members.proofs.left_hand_side.parse_lhs_expression_or_higher.Goals as goal

pub returns-in_err-callee : goal.returns-in_err-callee
returns-in_err-callee t c = λ text f a.
    let p = err_from_is_err_and c.from_residual.result c.from_residual.ensures.1 in
    rw (p.1, p.2) (c.in_err-callee.ensures text f a)

pub parse_optional_chain-requires-clause-at : goal.parse_optional_chain-requires-clause-at
parse_optional_chain-requires-clause-at t c = standing (c.in_ok-callee.ensures _ _ c.requires.at).0.at

pub parse_optional_chain-requires-clause-nests : goal.parse_optional_chain-requires-clause-nests
parse_optional_chain-requires-clause-nests t c =
    let y = (c.in_ok-callee.ensures _ _ c.requires.at).0 in
    nests_later c.requires.nests (later_room (let a = y.further in let b = c.requires.at.behind in omega arith) y.same)

pub parse_optional_chain-requires-clause-start : goal.parse_optional_chain-requires-clause-start
parse_optional_chain-requires-clause-start t c = let i = (c.in_ok-callee.ensures _ _ c.requires.at).0.further in let s = c.cur_start-start.ensures in omega arith

pub returns : goal.returns
returns t c = λ text f a.
    let y = c.in_ok-callee.ensures text f a in
    c.parse_optional_chain.ensures text f c.args.p.now a c.cur_start-start.ensures y.0 y.1 y.2
