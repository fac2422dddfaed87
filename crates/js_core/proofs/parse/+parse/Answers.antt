use Rattle.std.proofs.Common.{ap, arith}
use Rattle.std.proofs.lemmas.Result.{err_from_is_err_and}
use Rattle.parse_shared.specs.js_cursor.Parsers.{Parser}
use Rattle.parse_shared.proofs.laws_shared.Deeper.{ready_at, ready_deeper, stops_deeper, read_deeper, left_deeper}
use Rattle.js_core.proofs.parse.+parse.Goals as goal

pub enter-requires : goal.enter-requires
enter-requires n c = (ready_at c.args.what c.requires).at

pub parse_nonterminal-requires-clause-at : goal.parse_nonterminal-requires-clause-at
parse_nonterminal-requires-clause-at n c = ready_deeper c.args.what c.requires c.in_ok-enter.ensures.ok.1

pub returns-in_err-node : goal.returns-in_err-node
returns-in_err-node n c =
    let p = err_from_is_err_and c.from_residual-in_err-node.result c.from_residual-in_err-node.ensures.1 in
    rw (p.1, p.2) (stops_deeper _ _ c.args.what c.in_ok-enter.ensures.ok.1 c.in_err-node.ensures)

pub leave-requires-clause-at : goal.leave-requires-clause-at
leave-requires-clause-at n c = (read_deeper _ c.args.what c.requires c.in_ok-enter.ensures.ok.1 c.in_ok-node.ensures).0

pub leave-requires-clause-entered : goal.leave-requires-clause-entered
leave-requires-clause-entered n c = let i = c.in_ok-enter.ensures.ok.1 in let d = (read_deeper _ c.args.what c.requires i c.in_ok-node.ensures).1 in let e = ap (λ (r : Parser). r.depth) i.is in omega arith

pub returns : goal.returns
returns n c = left_deeper _ c.args.what c.in_ok-enter.ensures.ok.1 c.leave.ensures c.in_ok-node.ensures
