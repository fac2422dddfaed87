use Rattle.std.proofs.Common.{arith, ◌∙◌}
use Rattle.std.proofs.lemmas.Result.{err_from_is_err_and}
use Rattle.parse_shared.proofs.laws_shared.Moving.{standing}
use Rattle.parse_control.proofs.laws_statements.SwitchStatements.{begins_as, may_note, next_refused, next_taken, next_undue, noted_at}
use Rattle.parse_statements.proofs.switch_statement.parse_next_clause.Goals as goal

pub returns-in_err-clause : goal.returns-in_err-clause
returns-in_err-clause t c =
    let p = err_from_is_err_and c.from_residual.result c.from_residual.ensures.1 in
    let h = begins_as c.args.p.now c.requires.begins c.at-is_default.result c.at-is_default.ensures in
    rw (p.1, p.2) (λ text f a. next_refused c.at-is_default.result a h c.args.defaults _ _ (c.in_err-clause.ensures.read _ h text f a))

pub end_span-span-requires : goal.end_span-span-requires
end_span-span-requires t c =
    let h = begins_as c.args.p.now c.requires.begins c.at-is_default.result c.at-is_default.ensures in
    let x = c.in_ok-clause.ensures.read _ h _ _ c.requires.at in
    let i = x.further in let s = c.cur_start-start.ensures in omega arith

pub note_default-requires-clause-at : goal.note_default-requires-clause-at
note_default-requires-clause-at t c =
    let h = begins_as c.args.p.now c.requires.begins c.at-is_default.result c.at-is_default.ensures in
    (c.in_ok-clause.ensures.read _ h _ _ c.requires.at).at.at

pub note_default-requires-clause-mark : goal.note_default-requires-clause-mark
note_default-requires-clause-mark t c =
    let h = begins_as c.args.p.now c.requires.begins c.at-is_default.result c.at-is_default.ensures in
    may_note c.requires.at h (c.in_ok-clause.ensures.read _ h _ _ c.requires.at) _ (c.end_span-span.ensures.start ∙ c.cur_start-start.ensures) c.end_span-span.ensures.end c.args.defaults c.requires.stood

pub expect_clause-requires : goal.expect_clause-requires
expect_clause-requires t c =
    let h = begins_as c.args.p.now c.requires.begins c.at-is_default.result c.at-is_default.ensures in
    standing (noted_at c.requires.at h (c.in_ok-clause.ensures.read _ h _ _ c.requires.at) c.args.defaults _ _ _ c.in_ok-so_far.ensures)

pub returns-in_err-expect_clause : goal.returns-in_err-expect_clause
returns-in_err-expect_clause t c =
    let p = err_from_is_err_and c.from_residual-in_err-expect_clause.result c.from_residual-in_err-expect_clause.ensures.1 in
    let h = begins_as c.args.p.now c.requires.begins c.at-is_default.result c.at-is_default.ensures in
    rw (p.1, p.2) (λ text f a.
    let x = c.in_ok-clause.ensures.read _ h text f a in
    next_undue a h x c.args.defaults _ _ _ c.in_ok-so_far.ensures _ _ c.in_ok-clause.ensures.ended (c.in_err-expect_clause.ensures text f (noted_at a h x c.args.defaults _ _ _ c.in_ok-so_far.ensures)))

pub returns : goal.returns
returns t c =
    let h = begins_as c.args.p.now c.requires.begins c.at-is_default.result c.at-is_default.ensures in
    next_taken c.at-is_default.result c.requires.at h (c.in_ok-clause.ensures.read _ h) c.args.defaults c.requires.stood _ (c.end_span-span.ensures.start ∙ c.cur_start-start.ensures) c.end_span-span.ensures.end _ _ c.in_ok-so_far.ensures _ c.in_ok-expect_clause.ensures.0 c.in_ok-expect_clause.ensures.1
