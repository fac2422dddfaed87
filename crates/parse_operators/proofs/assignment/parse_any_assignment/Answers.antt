use Rattle.laws_operators.proofs.HeadOperands.{head_stopped, operand_unmoved, refused, refused_operand, refused_so, told_none}
use Rattle.std.proofs.Common.{arith, ap, inl, sym, ◌∙◌, length}
use Rattle.std.proofs.lemmas.Bool.{false≢true}
use Rattle.std.proofs.lemmas.Result.{err_from_is_err_and}
use Rattle.std.specs.Prelude.{Ok, Err}
use Rattle.parse_shared.proofs.js_tree.HoldingLemmas.{Holds-below}
use Rattle.js_grammar.specs.Productions.{at, Assignment}
use Rattle.laws_operators.proofs.Arrows.{before_at, before_further, before_same, from_unmoved, none_found, only_operand, some_found}
use Rattle.parse_shared.proofs.laws_shared.Moving.{standing}
use Rattle.parse_shared.proofs.laws_shared.Nesting.{nests_later, later_room}
use Rattle.laws_operators.proofs.Yields.{yield_no_target}
use Rattle.parse_operators.proofs.assignment.parse_any_assignment.Goals as goal

pub parse_arrow_function_expression-requires-clause-at : goal.parse_arrow_function_expression-requires-clause-at
parse_arrow_function_expression-requires-clause-at g c = standing (before_at _ ((some_found _ c.parse_arrow_head.new.p _ _ c.in-Some.is c.in_ok-head.ensures).1 _ _ c.requires.at))

pub parse_arrow_function_expression-requires-clause-nests : goal.parse_arrow_function_expression-requires-clause-nests
parse_arrow_function_expression-requires-clause-nests g c =
    let h = (some_found _ c.parse_arrow_head.new.p _ _ c.in-Some.is c.in_ok-head.ensures).1 _ _ c.requires.at in
    nests_later c.requires.nests (later_room (let a = before_further _ h in let b = c.requires.at.behind in omega arith) (before_same _ h))

pub parse_arrow_function_expression-requires-clause-start : goal.parse_arrow_function_expression-requires-clause-start
parse_arrow_function_expression-requires-clause-start g c = let h = before_further _ ((some_found _ c.parse_arrow_head.new.p _ _ c.in-Some.is c.in_ok-head.ensures).1 _ _ c.requires.at) in let s = c.cur_start-start.ensures in omega arith

pub parse_arrow_function_expression-requires-clause-arrow : goal.parse_arrow_function_expression-requires-clause-arrow
parse_arrow_function_expression-requires-clause-arrow g c = (some_found _ c.parse_arrow_head.new.p _ _ c.in-Some.is c.in_ok-head.ensures).0

pub returns-in-Some-clause-answers : goal.returns-in-Some-clause-answers
returns-in-Some-clause-answers g c = λ text f a. c.parse_arrow_function_expression.ensures.answers text f _ a c.cur_start-start.ensures ((some_found _ c.parse_arrow_head.new.p _ _ c.in-Some.is c.in_ok-head.ensures).1 text f a)

pub parse_assignment_without_arrow-requires-clause-at : goal.parse_assignment_without_arrow-requires-clause-at
parse_assignment_without_arrow-requires-clause-at g c = standing ((none_found _ c.parse_arrow_head.new.p _ c.in_default.is c.in_ok-head.ensures).0.at _ _ c.requires.at)

pub parse_assignment_without_arrow-requires-clause-nests : goal.parse_assignment_without_arrow-requires-clause-nests
parse_assignment_without_arrow-requires-clause-nests g c = nests_later c.requires.nests (let u = (none_found _ c.parse_arrow_head.new.p _ c.in_default.is c.in_ok-head.ensures).0.place in later_room (omega arith) (none_found _ c.parse_arrow_head.new.p _ c.in_default.is c.in_ok-head.ensures).0.same)

pub parse_assignment_without_arrow-requires-clause-operand : goal.parse_assignment_without_arrow-requires-clause-operand
parse_assignment_without_arrow-requires-clause-operand g c = only_operand c.requires.at (λ h. false≢true (sym c.if-begins_yield.false ∙ c.begins_yield.ensures.1 h)) (none_found _ c.parse_arrow_head.new.p _ c.in_default.is c.in_ok-head.ensures).0 (none_found _ c.parse_arrow_head.new.p _ c.in_default.is c.in_ok-head.ensures).1

pub returns-in_err-operand-clause-answers : goal.returns-in_err-operand-clause-answers
returns-in_err-operand-clause-answers g c = λ text f a.
    let p = err_from_is_err_and c.from_residual-in_err-operand.result c.from_residual-in_err-operand.ensures.1 in
    let u = (none_found _ c.parse_arrow_head.new.p _ c.in_default.is c.in_ok-head.ensures).0 in
    rw (p.1, p.2) (from_unmoved text f (at Assignment f) _ (Err _) u (c.in_err-operand.ensures.answers text f (u.at text f a)))

pub is_refused_head-requires : goal.is_refused_head-requires
is_refused_head-requires g c =
    let u = (none_found _ c.parse_arrow_head.new.p _ c.in_default.is c.in_ok-head.ensures).0 in
    Holds-below (c.in_ok-operand.ensures.answers _ _ (u.at _ _ c.requires.at)).holds

pub returns-then-not-is_refused_head-clause-answers : goal.returns-then-not-is_refused_head-clause-answers
returns-then-not-is_refused_head-clause-answers g c = λ text f a.
    let u = (none_found _ c.parse_arrow_head.new.p _ c.in_default.is c.in_ok-head.ensures).0 in
    from_unmoved text f (at Assignment f) _ (Ok _) u (c.in_ok-operand.ensures.answers text f (u.at text f a))

pub parse_arrow_function_expression-requires-2-clause-at : goal.parse_arrow_function_expression-requires-2-clause-at
parse_arrow_function_expression-requires-2-clause-at g c =
    let u = (none_found _ c.parse_arrow_head.new.p _ c.in_default.is c.in_ok-head.ensures).0 in
    standing (c.in_ok-operand.ensures.answers _ _ (u.at _ _ c.requires.at)).answer.at

pub parse_arrow_function_expression-requires-2-clause-nests : goal.parse_arrow_function_expression-requires-2-clause-nests
parse_arrow_function_expression-requires-2-clause-nests g c =
    let u = (none_found _ c.parse_arrow_head.new.p _ c.in_default.is c.in_ok-head.ensures).0 in
    let x = from_unmoved _ _ (at Assignment _) _ (Ok _) u (c.in_ok-operand.ensures.answers _ _ (u.at _ _ c.requires.at)) in
    nests_later c.requires.nests (later_room (let a = x.answer.further in let b = c.requires.at.behind in omega arith) x.answer.same)

pub parse_arrow_function_expression-requires-2-clause-start : goal.parse_arrow_function_expression-requires-2-clause-start
parse_arrow_function_expression-requires-2-clause-start g c =
    let u = (none_found _ c.parse_arrow_head.new.p _ c.in_default.is c.in_ok-head.ensures).0 in
    let x = (c.in_ok-operand.ensures.answers _ _ (u.at _ _ c.requires.at)).answer.further in let b = u.start in let s = c.cur_start-start.ensures in omega arith

pub parse_arrow_function_expression-requires-2-clause-arrow : goal.parse_arrow_function_expression-requires-2-clause-arrow
parse_arrow_function_expression-requires-2-clause-arrow g c = (refused_so _ _ c.parse_assignment_without_arrow.new.p c.if-not-is_refused_head.false c.is_refused_head.ensures).1

pub returns-clause-answers : goal.returns-clause-answers
returns-clause-answers g c = λ text f a.
    let u = (none_found _ c.parse_arrow_head.new.p _ c.in_default.is c.in_ok-head.ensures).0 in
    let x = from_unmoved text f (at Assignment f) _ (Ok _) u (c.in_ok-operand.ensures.answers text f (u.at text f a)) in
    let r = refused_so _ _ c.parse_assignment_without_arrow.new.p c.if-not-is_refused_head.false c.is_refused_head.ensures in
    c.parse_arrow_function_expression-2.ensures.answers text f c.args.p.now a c.cur_start-start.ensures (refused x (λ e. r.0 (e ∙ sym (c.kept_so_far-kept.ensures ∙ ap length u.kept))) r.1 r.2)

pub returns-in_err-head-clause-answers : goal.returns-in_err-head-clause-answers
returns-in_err-head-clause-answers g c = λ text f a. let p = err_from_is_err_and c.from_residual.result c.from_residual.ensures.1 in rw (p.1, p.2) (c.in_err-head.ensures.0 text f a)

pub returns-in_err-head-clause-operand : goal.returns-in_err-head-clause-operand
returns-in_err-head-clause-operand g c = λ text f a i. let p = err_from_is_err_and c.from_residual.result c.from_residual.ensures.1 in rw (p.1, p.2) (head_stopped i c.parse_arrow_head.new.p _ a c.in_err-head.ensures.1)

pub returns-in-Some-clause-operand : goal.returns-in-Some-clause-operand
returns-in-Some-clause-operand g c = λ text f a i. told_none _ _ _ ((some_found _ c.parse_arrow_head.new.p _ _ c.in-Some.is c.in_ok-head.ensures).2 text f a i) c.parse_arrow_function_expression.ensures.node

pub returns-in_err-operand-clause-operand : goal.returns-in_err-operand-clause-operand
returns-in_err-operand-clause-operand g c = λ text f a i.
    let p = err_from_is_err_and c.from_residual-in_err-operand.result c.from_residual-in_err-operand.ensures.1 in
    let u = (none_found _ c.parse_arrow_head.new.p _ c.in_default.is c.in_ok-head.ensures).0 in
    rw (p.1, p.2) (operand_unmoved text f c.parse_assignment_without_arrow.new.p (Err _) u (c.in_err-operand.ensures.operand text f (u.at text f a) i))

pub returns-then-not-is_refused_head-clause-operand : goal.returns-then-not-is_refused_head-clause-operand
returns-then-not-is_refused_head-clause-operand g c = λ text f a i.
    let u = (none_found _ c.parse_arrow_head.new.p _ c.in_default.is c.in_ok-head.ensures).0 in
    operand_unmoved text f _ (Ok _) u (c.in_ok-operand.ensures.operand text f (u.at text f a) i)

pub returns-clause-operand : goal.returns-clause-operand
returns-clause-operand g c = λ text f a i.
    let u = (none_found _ c.parse_arrow_head.new.p _ c.in_default.is c.in_ok-head.ensures).0 in
    let o = operand_unmoved text f _ (Ok _) u (c.in_ok-operand.ensures.operand text f (u.at text f a) i) in
    refused_operand i _ _ o (refused_so _ _ c.parse_assignment_without_arrow.new.p c.if-not-is_refused_head.false c.is_refused_head.ensures).1 c.parse_arrow_function_expression-2.ensures.node

pub parse_yield_expression-requires-clause-word : goal.parse_yield_expression-requires-clause-word
parse_yield_expression-requires-clause-word g c = c.begins_yield.ensures.0 c.if-begins_yield.true

pub returns-then-begins_yield-clause-operand : goal.returns-then-begins_yield-clause-operand
returns-then-begins_yield-clause-operand g c = λ text f a i. told_none _ _ _ (inl (yield_no_target a (c.begins_yield.ensures.0 c.if-begins_yield.true))) c.parse_yield_expression.ensures.node
