use Rattle.std.proofs.Common.{sym, ◌∙◌}
use Rattle.std.proofs.lemmas.Bool.{false≢true}
use Rattle.std.proofs.lemmas.Result.{err_from_is_err_and}
use Rattle.parse_shared.proofs.laws_shared.Moving.{standing}
use Rattle.parse_shared.proofs.laws_shared.Nesting.{later_room, nests_later}
use Rattle.parse_control.proofs.laws_statements.StatementLists.{in_lasts, smaller_room}
use Rattle.parse_control.proofs.laws_statements.SwitchStatements.{all_taken, begins_here, none_so_far, some_more, some_refused, undue_stops}
use Rattle.parse_statements.proofs.switch_statement.parse_clauses.Goals as goal

pub returns-in_err-expect_clause : goal.returns-in_err-expect_clause
returns-in_err-expect_clause t c =
    let p = err_from_is_err_and c.from_residual.result c.from_residual.ensures.1 in
    rw (p.1, p.2) (λ text f a. undue_stops _ _ _ a (c.in_err-expect_clause.ensures text f a))

pub clauses-init : goal.clauses-init
clauses-init t c = λ text f a. none_so_far a c.in_ok-expect_clause.ensures.0 c.in_ok-expect_clause.ensures.1 c.new-children.ensures.items

pub parse_next_clause-requires-clause-at : goal.parse_next_clause-requires-clause-at
parse_next_clause-requires-clause-at t c = standing (c.clauses.invariant _ _ c.requires.at).taken.at

pub parse_next_clause-requires-clause-nests : goal.parse_next_clause-requires-clause-nests
parse_next_clause-requires-clause-nests t c = let s = (c.clauses.invariant _ _ c.requires.at).taken in nests_later c.requires.nests (later_room s.further s.same)

pub parse_next_clause-requires-clause-allows_in : goal.parse_next_clause-requires-clause-allows_in
parse_next_clause-requires-clause-allows_in t c = in_lasts (c.clauses.invariant _ _ c.requires.at).taken c.requires.allows_in

pub parse_next_clause-requires-clause-begins : goal.parse_next_clause-requires-clause-begins
parse_next_clause-requires-clause-begins t c = begins_here (c.clauses.invariant _ _ c.requires.at) (λ e. false≢true (sym c.clauses-test.true ∙ c.at.ensures.1 e))

pub parse_next_clause-requires-clause-stood : goal.parse_next_clause-requires-clause-stood
parse_next_clause-requires-clause-stood t c = (c.clauses.invariant _ _ c.requires.at).stood

pub returns-in_err-clause : goal.returns-in_err-clause
returns-in_err-clause t c =
    let p = err_from_is_err_and c.from_residual-in_err-clause.result c.from_residual-in_err-clause.ensures.1 in
    rw (p.1, p.2) (λ text f a. let s = c.clauses.invariant text f a in some_refused s _ _ (c.in_err-clause.ensures _ _ s.taken.at))

pub clauses-smaller : goal.clauses-smaller
clauses-smaller t c = let s = c.clauses.invariant _ _ c.requires.at in smaller_room s.taken.at (c.in_ok-clause.ensures.3 _ _ s.taken.at)

pub clauses-preserved : goal.clauses-preserved
clauses-preserved t c = λ text f a. some_more (c.clauses.invariant text f a) c.in_ok-clause.ensures c.in_ok-push.ensures.items

pub returns : goal.returns
returns t c =
    let k = c.at.ensures.0 c.clauses-test.false in
    (k, λ text f a. all_taken c.clauses.defaults (c.clauses.invariant text f a) k)
