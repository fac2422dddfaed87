use Rattle.std.proofs.Common.{Bool, ap, arith, inr, refl, subst, sym, ◌∙◌}
use Rattle.std.proofs.lemmas.Bool.{false≢true}
use Rattle.std.proofs.lemmas.Result.{err_from_is_err_and}
use Rattle.js_base.specs.Contexts.{has_flag, in_flag}
use Rattle.js_base.specs.declared.kind.Kind.TheVariants.{Let}
use Rattle.parse_declarations.proofs.HeadDeclarators.{through_so}
use Rattle.parse_shared.specs.laws_shared.Stands.{StandsHere}
use Rattle.parse_shared.proofs.laws_shared.Moving.{standing}
use Rattle.laws_statements.proofs.ForParts.{async_marked, checked_first, expression_alone, head_unread, let_checked, let_marked, marked_behind, target_unread, through_uncut, without_in}
use Rattle.parse_control.proofs.for_parts.parse_head_expression.Goals as goal

pub returns-in_err-expression : goal.returns-in_err-expression
returns-in_err-expression g c =
    let p = err_from_is_err_and c.from_residual.result c.from_residual.ensures.1 in
    rw (p.1, p.2) (λ text f a. let i = without_in a c.requires.no_in in head_unread c.args.is_await a c.requires.none i c.requires.other _ _ (c.in_err-expression.ensures.answers text f a) (c.in_err-expression.ensures.operand text f a i))

pub returns-then-not-goes_through : goal.returns-then-not-goes_through
returns-then-not-goes_through g c = λ text f a.
    let i = without_in a c.requires.no_in in
    expression_alone c.args.is_await a c.requires.none i c.requires.other (c.in_ok-expression.ensures.answers text f a) (c.in_ok-expression.ensures.operand text f a i) (through_so c.sequence.new.p c.if-not-goes_through.true c.goes_through.ensures)

pub head_target-requires-clause-at : goal.head_target-requires-clause-at
head_target-requires-clause-at g c = standing (c.in_ok-expression.ensures.answers _ _ c.requires.at).answer.at

pub head_target-requires-clause-start : goal.head_target-requires-clause-start
head_target-requires-clause-start g c = let x = (c.in_ok-expression.ensures.answers _ _ c.requires.at).answer in let i = x.further in let s = c.cur_start-start.ensures in omega arith

pub head_target-requires-clause-whole : goal.head_target-requires-clause-whole
head_target-requires-clause-whole g c = through_uncut (c.in_ok-expression.ensures.answers _ _ c.requires.at).answer.at (through_so c.sequence.new.p c.if-not-goes_through.false c.goes_through.ensures)

pub head_target-requires-clause-sign : goal.head_target-requires-clause-sign
head_target-requires-clause-sign g c = inr (ap (has_flag in_flag) (c.in_ok-expression.ensures.answers _ _ c.requires.at).answer.same.ctx ∙ c.requires.no_in, through_so c.sequence.new.p c.if-not-goes_through.false c.goes_through.ensures)

pub head_target-requires-clause-read : goal.head_target-requires-clause-read
head_target-requires-clause-read g c = record {
  text = _;
  flags = _;
  first = c.args.p.now;
  begins = c.requires.at;
  no_in = c.requires.no_in;
  begins_with = λ e k. false≢true (sym e ∙ c.at-begins_async.ensures.1 k);
  start_is = c.cur_start-start.ensures;
  kept_is = c.kept_so_far-kept.ensures;
  read = c.in_ok-expression.ensures.answers _ _ c.requires.at;
  operand = c.in_ok-expression.ensures.operand _ _ c.requires.at c.requires.no_in;
}

pub returns-in_err-target : goal.returns-in_err-target
returns-in_err-target g c =
    let p = err_from_is_err_and c.from_residual-in_err-target.result c.from_residual-in_err-target.ensures.1 in
    rw (p.1, p.2) (λ text f a. let i = without_in a c.requires.no_in in let x = c.in_ok-expression.ensures.answers text f a in target_unread c.args.is_await a c.requires.none i c.requires.other x (through_so c.sequence.new.p c.if-not-goes_through.false c.goes_through.ensures) _ _ (c.in_err-target.ensures text f _ a i c.cur_start-start.ensures c.kept_so_far-kept.ensures x (c.in_ok-expression.ensures.operand text f a i)))

pub end_span-span-requires : goal.end_span-span-requires
end_span-span-requires g c =
    let t = c.in_ok-target.ensures _ _ _ c.requires.at c.requires.no_in c.cur_start-start.ensures c.kept_so_far-kept.ensures (c.in_ok-expression.ensures.answers _ _ c.requires.at) (c.in_ok-expression.ensures.operand _ _ c.requires.at c.requires.no_in) in
    let i = t.path.further in let s = c.cur_start-start.ensures in omega arith

pub check_let-requires-clause-at : goal.check_let-requires-clause-at
check_let-requires-clause-at g c = (c.in_ok-target.ensures _ _ _ c.requires.at c.requires.no_in c.cur_start-start.ensures c.kept_so_far-kept.ensures (c.in_ok-expression.ensures.answers _ _ c.requires.at) (c.in_ok-expression.ensures.operand _ _ c.requires.at c.requires.no_in)).path.at.at

pub check_let-requires-clause-mark : goal.check_let-requires-clause-mark
check_let-requires-clause-mark g c = λ e. let_marked c.requires.at (subst (λ (b : Bool). StandsHere c.args.p.now Let b) e c.stands-is_let.ensures) (c.in_ok-target.ensures _ _ _ c.requires.at c.requires.no_in c.cur_start-start.ensures c.kept_so_far-kept.ensures (c.in_ok-expression.ensures.answers _ _ c.requires.at) (c.in_ok-expression.ensures.operand _ _ c.requires.at c.requires.no_in)) _ refl (c.end_span-span.ensures.start ∙ c.cur_start-start.ensures) c.end_span-span.ensures.end

pub check_async-requires-clause-at : goal.check_async-requires-clause-at
check_async-requires-clause-at g c =
    let t = c.in_ok-target.ensures _ _ _ c.requires.at c.requires.no_in c.cur_start-start.ensures c.kept_so_far-kept.ensures (c.in_ok-expression.ensures.answers _ _ c.requires.at) (c.in_ok-expression.ensures.operand _ _ c.requires.at c.requires.no_in) in
    let_checked c.in_ok-check_let.ensures t.path.at.at

pub check_async-requires-clause-mark : goal.check_async-requires-clause-mark
check_async-requires-clause-mark g c =
    let t = c.in_ok-target.ensures _ _ _ c.requires.at c.requires.no_in c.cur_start-start.ensures c.kept_so_far-kept.ensures (c.in_ok-expression.ensures.answers _ _ c.requires.at) (c.in_ok-expression.ensures.operand _ _ c.requires.at c.requires.no_in) in
    marked_behind c.cur_token-first.result _ c.in_ok-check_let.ensures (λ i. async_marked c.requires.at t _ c.cur_token-first.ensures i)

pub returns : goal.returns
returns g c = λ text f a.
    let i = without_in a c.requires.no_in in
    let x = c.in_ok-expression.ensures.answers text f a in
    let t = c.in_ok-target.ensures text f _ a i c.cur_start-start.ensures c.kept_so_far-kept.ensures x (c.in_ok-expression.ensures.operand text f a i) in
    checked_first c.args.is_await a c.requires.none i c.requires.other x t (through_so c.sequence.new.p c.if-not-goes_through.false c.goes_through.ensures) _ c.stands-is_let.ensures _ c.cur_token-first.ensures c.in_ok-check_let.ensures c.in_ok-check_async.ensures
