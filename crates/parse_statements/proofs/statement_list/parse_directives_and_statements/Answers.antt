use Rattle.std.proofs.Common.{sym, arith, ◌∙◌}
use Rattle.std.proofs.lemmas.Result.{err_from_is_err_and}
use Rattle.parse_shared.proofs.laws_shared.Moving.{standing, stops_behind}
use Rattle.parse_shared.proofs.laws_shared.Nesting.{later_room, nests_later}
use Rattle.parse_shared.proofs.laws_shared.Verdicts.{after}
use Rattle.parse_control.proofs.laws_statements.StatementLists.{goes_on_here, in_lasts, none_left, no_more, one_taken_more, statement_taken, smaller_room}
use Rattle.parse_statements.proofs.statement_list.parse_directives_and_statements.Goals as goal

pub parse_item-requires-clause-at : goal.parse_item-requires-clause-at
parse_item-requires-clause-at t c = standing (c.statements.invariant _ _ c.requires.at).at

pub parse_item-requires-clause-nests : goal.parse_item-requires-clause-nests
parse_item-requires-clause-nests t c = let s = c.statements.invariant _ _ c.requires.at in nests_later c.requires.nests (let r = later_room s.further s.same in omega arith)

pub parse_item-requires-clause-allows_in : goal.parse_item-requires-clause-allows_in
parse_item-requires-clause-allows_in t c = in_lasts (c.statements.invariant _ _ c.requires.at) c.requires.allows_in

pub returns-in_err-item : goal.returns-in_err-item
returns-in_err-item t c =
    let p = err_from_is_err_and c.from_residual-in_err-item.result c.from_residual-in_err-item.ensures.1 in
    let n = goes_on_here c.args.list _ (sym c.at_last.ensures ∙ c.statements-test.true) in
    rw (p.1, p.2) (λ text f a.
    let s = c.statements.invariant text f a in
    stops_behind _ _ s.same (λ g. after s.verdict g) (λ z. none_left s (no_more s.at c.args.list n z)) (c.in_err-item.ensures _ _ s.at))

pub statements-smaller : goal.statements-smaller
statements-smaller t c =
    let s = c.statements.invariant _ _ c.requires.at in
    smaller_room s.at (statement_taken s.at c.args.list (goes_on_here c.args.list _ (sym c.at_last.ensures ∙ c.statements-test.true)) (c.in_ok-item.ensures _ _ s.at))

pub statements-preserved : goal.statements-preserved
statements-preserved t c = λ text f a.
    let s = c.statements.invariant text f a in
    one_taken_more s (statement_taken s.at c.args.list (goes_on_here c.args.list _ (sym c.at_last.ensures ∙ c.statements-test.true)) (c.in_ok-item.ensures _ _ s.at)) c.in_ok-push.ensures.items
