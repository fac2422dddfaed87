use Rattle.std.proofs.Common.{sym, ◌∙◌, arith}
use Rattle.std.proofs.lemmas.Bool.{false≢true}
use Rattle.std.proofs.lemmas.Result.{err_from_is_err_and}
use Rattle.parse_shared.proofs.laws_shared.Moving.{standing, stops_behind}
use Rattle.parse_shared.proofs.laws_shared.Nesting.{nests_later, later_room}
use Rattle.parse_shared.proofs.laws_shared.Verdicts.{after}
use Rattle.parse_control.proofs.laws_statements.StatementLists.{in_lasts, none_taken, none_left, none_yet, one_taken_more, statements_follow, smaller_room, opened_statement, opened_directive, as_list, no_such_list}
use Rattle.parse_statements.proofs.statement_list.parse_directives.Goals as goal

pub returns-then-not-has_directives : goal.returns-then-not-has_directives
returns-then-not-has_directives t c = λ text f a. none_yet c.args.list (sym c.has_directives.ensures ∙ c.if-not-has_directives.true) a c.new-items.ensures.items

pub directives-init : goal.directives-init
directives-init t c = λ text f a. none_taken a c.new-items.ensures.items

pub parse_opening-requires-clause-at : goal.parse_opening-requires-clause-at
parse_opening-requires-clause-at t c = standing (c.directives.invariant _ _ c.requires.at).at

pub parse_opening-requires-clause-nests : goal.parse_opening-requires-clause-nests
parse_opening-requires-clause-nests t c = let s = c.directives.invariant _ _ c.requires.at in nests_later c.requires.nests (let r = later_room s.further s.same in omega arith)

pub parse_opening-requires-clause-allows_in : goal.parse_opening-requires-clause-allows_in
parse_opening-requires-clause-allows_in t c = in_lasts (c.directives.invariant _ _ c.requires.at) c.requires.allows_in

pub returns-in_err-item : goal.returns-in_err-item
returns-in_err-item t c =
    let p = err_from_is_err_and c.from_residual.result c.from_residual.ensures.1 in
    rw (p.1, p.2) (λ text f a.
    let s = c.directives.invariant text f a in
    stops_behind _ _ s.same (λ g. after s.verdict g) (λ z. no_such_list c.args.list (sym c.has_directives.ensures ∙ c.if-not-has_directives.false) (none_left s z)) (c.in_err-item.ensures c.args.list _ _ s.at))

pub returns-then-not-is_directive : goal.returns-then-not-is_directive
returns-then-not-is_directive t c = λ text f a.
    let s = c.directives.invariant text f a in
    as_list c.args.list (sym c.has_directives.ensures ∙ c.if-not-has_directives.false) (one_taken_more s (opened_statement _ c.if-not-is_directive.true c.in_ok-item.ensures c.args.list _ _ s.at) c.in_ok-push.ensures.items)

pub directives-smaller : goal.directives-smaller
directives-smaller t c = let s = c.directives.invariant _ _ c.requires.at in smaller_room s.at (opened_directive _ c.if-not-is_directive.false c.in_ok-item.ensures c.args.list _ _ s.at)

pub directives-preserved : goal.directives-preserved
directives-preserved t c = λ text f a. let s = c.directives.invariant text f a in one_taken_more s (opened_directive _ c.if-not-is_directive.false c.in_ok-item.ensures c.args.list _ _ s.at) c.in_ok-push.ensures.items

pub returns : goal.returns
returns t c = λ text f a. as_list c.args.list (sym c.has_directives.ensures ∙ c.if-not-has_directives.false) (statements_follow c.args.list (c.directives.invariant text f a) (λ e. false≢true (sym c.directives-test.false ∙ c.at.ensures.1 e)))
