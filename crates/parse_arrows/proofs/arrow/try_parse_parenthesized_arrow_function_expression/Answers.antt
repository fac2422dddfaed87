use Rattle.std.proofs.Common.{arith}
use Rattle.std.proofs.lemmas.Result.{err_from_is_err_and}
use Rattle.parse_shared.proofs.laws_shared.Moving.{standing}
use Rattle.parse_shared.proofs.laws_shared.Nesting.{later_room, nests_later}
use Rattle.laws_operators.proofs.Arrows.{before_at, before_further, before_same}
use Rattle.laws_operators.proofs.Lists.{list_so}
use Rattle.parse_arrows.proofs.arrow.try_parse_parenthesized_arrow_function_expression.Goals as goal

pub parse_arrow_function_expression-requires-clause-at : goal.parse_arrow_function_expression-requires-clause-at
parse_arrow_function_expression-requires-clause-at g c = standing (before_at _ ((list_so c.args.p.now c.parse_list_head.new.p c.in-Some.is c.in_ok-head.ensures).1 _ _ c.requires.at))

pub parse_arrow_function_expression-requires-clause-nests : goal.parse_arrow_function_expression-requires-clause-nests
parse_arrow_function_expression-requires-clause-nests g c =
    let h = (list_so c.args.p.now c.parse_list_head.new.p c.in-Some.is c.in_ok-head.ensures).1 _ _ c.requires.at in
    nests_later c.requires.nests (later_room (let a = before_further _ h in let b = c.requires.at.behind in omega arith) (before_same _ h))

pub parse_arrow_function_expression-requires-clause-start : goal.parse_arrow_function_expression-requires-clause-start
parse_arrow_function_expression-requires-clause-start g c =
    let h = before_further _ ((list_so c.args.p.now c.parse_list_head.new.p c.in-Some.is c.in_ok-head.ensures).1 _ _ c.requires.at) in
    let s = c.cur_start-start.ensures in omega arith

pub parse_arrow_function_expression-requires-clause-arrow : goal.parse_arrow_function_expression-requires-clause-arrow
parse_arrow_function_expression-requires-clause-arrow g c = (list_so c.args.p.now c.parse_list_head.new.p c.in-Some.is c.in_ok-head.ensures).0

pub returns-in_err-node : goal.returns-in_err-node
returns-in_err-node g c =
    let p = err_from_is_err_and c.from_residual-in_err-node.result c.from_residual-in_err-node.ensures.1 in
    rw (p.1, p.2) (λ text f a. c.in_err-node.ensures.answers text f _ a c.cur_start-start.ensures ((list_so c.args.p.now c.parse_list_head.new.p c.in-Some.is c.in_ok-head.ensures).1 text f a))

pub returns : goal.returns
returns g c = (
  λ text f a. c.in_ok-node.ensures.answers text f _ a c.cur_start-start.ensures ((list_so c.args.p.now c.parse_list_head.new.p c.in-Some.is c.in_ok-head.ensures).1 text f a),
  c.in_ok-node.ensures.kind,
)
