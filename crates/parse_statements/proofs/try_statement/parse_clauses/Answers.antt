use Rattle.std.proofs.Common.{◌∙◌, ap, subst, sym}
use Rattle.std.proofs.lemmas.Result.{err_from_is_err_and}
use Rattle.js_base.specs.Contexts.{has_flag, in_flag}
use Rattle.js_base.specs.declared.diagnostic.Diagnostic.{Diagnostic}
use Rattle.js_base.specs.Diagnostics.{class_of}
use Rattle.parse_shared.specs.js_cursor.Places.{IsAt}
use Rattle.parse_shared.proofs.laws_shared.Moving.{standing}
use Rattle.parse_shared.proofs.laws_shared.Nesting.{later_room, nests_later}
use Rattle.parse_control.proofs.laws_statements.TryStatements.{clauses_missing, clauses_read, clauses_refused, handler_refused, handler_state, missing_marked, missing_state}
use Rattle.parse_statements.proofs.try_statement.parse_clauses.Goals as goal

pub returns-in_err-handler : goal.returns-in_err-handler
returns-in_err-handler t c =
    let p = err_from_is_err_and c.from_residual.result c.from_residual.ensures.1 in
    rw (p.1, p.2) (λ text f a. handler_refused a _ _ c.in_err-handler.ensures)

pub parse_finally-requires-clause-at : goal.parse_finally-requires-clause-at
parse_finally-requires-clause-at t c = standing (handler_state c.requires.at c.in_ok-handler.handler c.in_ok-handler.ensures).0

pub parse_finally-requires-clause-nests : goal.parse_finally-requires-clause-nests
parse_finally-requires-clause-nests t c = let x = handler_state c.requires.at c.in_ok-handler.handler c.in_ok-handler.ensures in nests_later c.requires.nests (later_room x.2 x.1)

pub parse_finally-requires-clause-allows_in : goal.parse_finally-requires-clause-allows_in
parse_finally-requires-clause-allows_in t c = ap (has_flag in_flag) (handler_state c.requires.at c.in_ok-handler.handler c.in_ok-handler.ensures).1.ctx ∙ c.requires.allows_in

pub returns-in_err-finalizer : goal.returns-in_err-finalizer
returns-in_err-finalizer t c =
    let p = err_from_is_err_and c.from_residual-in_err-finalizer.result c.from_residual-in_err-finalizer.ensures.1 in
    rw (p.1, p.2) (λ text f a. clauses_refused c.parse_catch.new.p a c.in_ok-handler.handler c.in_ok-handler.ensures _ _ c.in_err-finalizer.ensures)

pub returns-then-not-is_missing : goal.returns-then-not-is_missing
returns-then-not-is_missing t c = λ text f a. clauses_read c.parse_catch.new.p c.parse_finally.new.p a c.in_ok-handler.handler c.in_ok-finalizer.finalizer (sym c.is_missing.ensures ∙ c.if-not-is_missing.true) c.in_ok-handler.ensures c.in_ok-finalizer.ensures

pub error-requires-clause-at : goal.error-requires-clause-at
error-requires-clause-at t c = subst IsAt (sym (missing_state c.args.p.now c.parse_catch.new.p c.parse_finally.new.p c.in_ok-handler.handler c.in_ok-finalizer.finalizer (sym c.is_missing.ensures ∙ c.if-not-is_missing.false) c.in_ok-handler.ensures c.in_ok-finalizer.ensures)) c.requires.at.at

pub error-requires-clause-mark : goal.error-requires-clause-mark
error-requires-clause-mark t c = missing_marked _ c.requires.at (missing_state c.args.p.now c.parse_catch.new.p c.parse_finally.new.p c.in_ok-handler.handler c.in_ok-finalizer.finalizer (sym c.is_missing.ensures ∙ c.if-not-is_missing.false) c.in_ok-handler.ensures c.in_ok-finalizer.ensures) c.requires.edge (c.empty-span.ensures.start ∙ c.prev_token_end-end.ensures) (c.empty-span.ensures.end ∙ c.prev_token_end-end.ensures) c.diagnostic_at-missing.ensures

pub returns : goal.returns
returns t c = λ text f a. clauses_missing c.parse_catch.new.p c.parse_finally.new.p a c.in_ok-handler.handler c.in_ok-finalizer.finalizer (sym c.is_missing.ensures ∙ c.if-not-is_missing.false) c.in_ok-handler.ensures c.in_ok-finalizer.ensures c.in_ok-error.ensures (ap (λ (d : Diagnostic). class_of d.kind) c.diagnostic_at-missing.ensures)
