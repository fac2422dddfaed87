use Rattle.std.proofs.Common.{◌∙◌, sym, arith}
use Rattle.std.proofs.lemmas.Result.{err_from_is_err_and}
use Rattle.laws_operators.proofs.CoalesceOperands.{operands_init, short_answer, sign_whole, right_room, same_so, grown_so, right_none, start_before, checked, left_held, left_stood, mixed_marked_so, mixed_stops, made_pair, operands_step, smaller}
use Rattle.laws_operators.proofs.Coalescing.{no_short}
use Rattle.parse_shared.proofs.laws_shared.Moving.{standing, stops_so, stops_behind}
use Rattle.parse_shared.proofs.laws_shared.Nesting.{nests_later}
use Rattle.laws_operators.proofs.Refusals.{stood}
use Rattle.std.proofs.lemmas.Bool.{false≢true}
use Rattle.parse_operators.proofs.operators.parse_binary_expression_or_higher.Goals as goal

pub returns-in_err-left : goal.returns-in_err-left
returns-in_err-left g c = λ text f a. let p = err_from_is_err_and c.from_residual.result c.from_residual.ensures.1 in rw (p.1, p.2) (stops_so _ _ _ (λ z. no_short f z) (c.in_err-left.ensures text f a))

pub operands-init : goal.operands-init
operands-init g c = λ text f a. operands_init (c.in_ok-left.ensures text f a)

pub advance-requires-clause-at : goal.advance-requires-clause-at
advance-requires-clause-at g c = standing (c.operands.invariant _ _ c.requires.at).at

pub advance-requires-clause-whole : goal.advance-requires-clause-whole
advance-requires-clause-whole g c = sign_whole (c.operands.invariant _ _ c.requires.at).at (c.at.ensures.0 c.operands-test.true)

pub parse_operators-requires-in-operands-clause-at : goal.parse_operators-requires-in-operands-clause-at
parse_operators-requires-in-operands-clause-at g c = standing (c.in_ok-advance.ensures _ _ (c.operands.invariant _ _ c.requires.at).at).at

pub parse_operators-requires-in-operands-clause-nests : goal.parse_operators-requires-in-operands-clause-nests
parse_operators-requires-in-operands-clause-nests g c =
    let s = c.operands.invariant _ _ c.requires.at in
    let r = right_room s (c.at.ensures.0 c.operands-test.true) (c.in_ok-advance.ensures _ _ s.at) c.requires.at in
    nests_later c.requires.nests (omega arith)

pub returns-in_err-right : goal.returns-in_err-right
returns-in_err-right g c = λ text f a.
    let p = err_from_is_err_and c.from_residual-in_err-right.result c.from_residual-in_err-right.ensures.1 in
    let s = c.operands.invariant text f a in
    let k = c.at.ensures.0 c.operands-test.true in
    let m = c.in_ok-advance.ensures _ _ s.at in
    (rw (p.1, p.2) (stops_behind _ _ (same_so s k m) (λ h. grown_so s k m h) (λ z. right_none s k m z) (c.in_err-right.ensures _ _ m.at)))

pub has_or_and-mixed-requires-clause-left : goal.has_or_and-mixed-requires-clause-left
has_or_and-mixed-requires-clause-left g c =
    let s = c.operands.invariant _ _ c.requires.at in
    let m = c.in_ok-advance.ensures _ _ s.at in
    left_stood s (c.at.ensures.0 c.operands-test.true) m (c.in_ok-right.ensures _ _ m.at)

pub has_or_and-mixed-requires-clause-right : goal.has_or_and-mixed-requires-clause-right
has_or_and-mixed-requires-clause-right g c = stood (c.in_ok-right.ensures _ _ (c.in_ok-advance.ensures _ _ (c.operands.invariant _ _ c.requires.at).at).at)

pub check_mixed-requires-clause-at : goal.check_mixed-requires-clause-at
check_mixed-requires-clause-at g c = standing (c.in_ok-right.ensures _ _ (c.in_ok-advance.ensures _ _ (c.operands.invariant _ _ c.requires.at).at).at).answer.at

pub check_mixed-requires-clause-start : goal.check_mixed-requires-clause-start
check_mixed-requires-clause-start g c =
    let s = c.operands.invariant _ _ c.requires.at in
    let m = c.in_ok-advance.ensures _ _ s.at in
    let i = start_before s (c.at.ensures.0 c.operands-test.true) m (c.in_ok-right.ensures _ _ m.at) in
    let j = c.cur_start-start.ensures in omega arith

pub check_mixed-requires-clause-mark : goal.check_mixed-requires-clause-mark
check_mixed-requires-clause-mark g c =
    let s = c.operands.invariant _ _ c.requires.at in
    let k = c.at.ensures.0 c.operands-test.true in
    let m = c.in_ok-advance.ensures _ _ s.at in
    let x = c.in_ok-right.ensures _ _ m.at in
    let e = c.has_or_and-mixed.ensures _ _ _ _ _ _ _ _ (left_held s k m x) x.holds in
    mixed_marked_so s k m x c.requires.at e c.cur_start-start.ensures c.kept_so_far-found.ensures

pub returns-in_err-check_mixed : goal.returns-in_err-check_mixed
returns-in_err-check_mixed g c = λ text f a.
    let p = err_from_is_err_and c.from_residual-in_err-check_mixed.result c.from_residual-in_err-check_mixed.ensures.1 in
    let s = c.operands.invariant text f a in
    let k = c.at.ensures.0 c.operands-test.true in
    let m = c.in_ok-advance.ensures _ _ s.at in
    let x = c.in_ok-right.ensures _ _ m.at in
    let e = c.has_or_and-mixed.ensures _ _ _ _ _ _ _ _ (left_held s k m x) x.holds in
    (rw (p.1, p.2) (mixed_stops s k m x c.cur_start-start.result c.kept_so_far-found.result _ _ e c.in_err-check_mixed.ensures))

pub make_coalesce-requires : goal.make_coalesce-requires
make_coalesce-requires g c =
    let s = c.operands.invariant _ _ c.requires.at in
    let k = c.at.ensures.0 c.operands-test.true in
    let m = c.in_ok-advance.ensures _ _ s.at in
    let x = c.in_ok-right.ensures _ _ m.at in
    let e = c.has_or_and-mixed.ensures _ _ _ _ _ _ _ _ (left_held s k m x) x.holds in
    let d = checked s k m x c.requires.at e c.kept_so_far-found.ensures c.in_ok-check_mixed.ensures in
    let h = d.place in let i = start_before s k m x in let j = c.cur_start-start.ensures in omega arith

pub operands-smaller : goal.operands-smaller
operands-smaller g c =
    let s = c.operands.invariant _ _ c.requires.at in
    let k = c.at.ensures.0 c.operands-test.true in
    let m = c.in_ok-advance.ensures _ _ s.at in
    let x = c.in_ok-right.ensures _ _ m.at in
    let e = c.has_or_and-mixed.ensures _ _ _ _ _ _ _ _ (left_held s k m x) x.holds in
    let d = checked s k m x c.requires.at e c.kept_so_far-found.ensures c.in_ok-check_mixed.ensures in
    smaller s k m x d c.in_ok-left-2.ensures

pub operands-preserved : goal.operands-preserved
operands-preserved g c = λ text f a.
    let s = c.operands.invariant text f a in
    let k = c.at.ensures.0 c.operands-test.true in
    let m = c.in_ok-advance.ensures _ _ s.at in
    let x = c.in_ok-right.ensures _ _ m.at in
    let e = c.has_or_and-mixed.ensures _ _ _ _ _ _ _ _ (left_held s k m x) x.holds in
    let d = checked s k m x a e c.kept_so_far-found.ensures c.in_ok-check_mixed.ensures in
    operands_step s k m x d (made_pair s k m x d c.cur_start-start.ensures c.in_ok-left-2.ensures)

pub returns : goal.returns
returns g c = λ text f a. short_answer (c.operands.invariant text f a) (λ k. false≢true (sym c.operands-test.false ∙ c.at.ensures.1 k))
