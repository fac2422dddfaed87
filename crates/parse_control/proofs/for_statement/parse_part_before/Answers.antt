use Rattle.std.proofs.Common.{arith}
use Rattle.std.proofs.lemmas.Result.{err_from_is_err_and}
use Rattle.parse_shared.proofs.laws_shared.Moving.{stops_so}
use Rattle.laws_statements.proofs.ForHeads.{at_end_so, part_empty, part_some, part_unread}
use Rattle.parse_control.proofs.for_statement.parse_part_before.Goals as goal

pub returns-then-at_end : goal.returns-then-at_end
returns-then-at_end g c = λ text f a. part_empty a c.args.end c.requires.ends (at_end_so c.args.end c.args.p.now c.if-at_end.true c.at_end.ensures)

pub expression-requires : goal.expression-requires
expression-requires g c = c.requires.nests _ _ c.requires.at (omega arith)

pub returns-in_err-part : goal.returns-in_err-part
returns-in_err-part g c =
    let p = err_from_is_err_and c.from_residual.result c.from_residual.ensures.1 in
    rw (p.1, p.2) (λ text f a. stops_so _ _ _ (λ n. part_unread a c.args.end c.requires.ends (at_end_so c.args.end c.args.p.now c.if-at_end.false c.at_end.ensures).0 n) (c.in_err-part.ensures text f a))

pub returns : goal.returns
returns g c = λ text f a. part_some a c.args.end c.requires.ends (at_end_so c.args.end c.args.p.now c.if-at_end.false c.at_end.ensures).0 (c.in_ok-part.ensures text f a)
