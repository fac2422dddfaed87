use Rattle.std.proofs.Common.{◌∙◌, sym, ap, arith}
use Rattle.std.proofs.lemmas.Bool.{false≢true}
use Rattle.std.proofs.lemmas.Result.{err_from_is_err_and}
use Rattle.laws_operators.proofs.Exponents.{power_alone, power_none, base_marked, base_checked, exponent_fails, power_answers, still_star, star_whole}
use Rattle.laws_operators.specs.Exponents.{begins_by_unary}
use Rattle.js_grammar.specs.Productions.{Flags}
use Rattle.parse_shared.proofs.laws_shared.Moving.{standing, stops_so, stops_behind, same_both}
use Rattle.parse_shared.proofs.laws_shared.Nesting.{nested_room, later_room}
use Rattle.parse_shared.proofs.laws_shared.Verdicts.{after, grown_then}
use Rattle.parse_operators.proofs.operators.parse_exponentiation_expression.Goals as goal

pub returns-in_err-base : goal.returns-in_err-base
returns-in_err-base t c = λ text f a. let p = err_from_is_err_and c.from_residual.result c.from_residual.ensures.1 in rw (p.1, p.2) (stops_so _ _ _ (λ z. power_none text f _ z) (c.in_err-base.ensures text f a))

pub returns-then-not-at : goal.returns-then-not-at
returns-then-not-at t c = λ text f a. power_alone (c.in_ok-base.ensures text f a) (λ k. false≢true (sym c.if-not-at.true ∙ c.at.ensures.1 k))

pub check_base-requires-clause-at : goal.check_base-requires-clause-at
check_base-requires-clause-at t c = (c.in_ok-base.ensures _ _ c.requires.at).answer.at.at

pub check_base-requires-clause-start : goal.check_base-requires-clause-start
check_base-requires-clause-start t c = let i = (c.in_ok-base.ensures _ _ c.requires.at).answer.further in let j = c.cur_start-start.ensures in omega arith

pub check_base-requires-clause-mark : goal.check_base-requires-clause-mark
check_base-requires-clause-mark t c = λ u v. rw (c.cur_start-start.ensures) (base_marked c.requires.at (c.in_ok-base.ensures _ _ c.requires.at) (c.at.ensures.0 c.if-not-at.false) (sym c.begins_unary-is_unary.ensures ∙ u) (sym c.kept_so_far-found.ensures ∙ v))

pub advance-requires-clause-at : goal.advance-requires-clause-at
advance-requires-clause-at t c = standing (base_checked c.requires.at (c.in_ok-base.ensures _ _ c.requires.at) (c.at.ensures.0 c.if-not-at.false) c.begins_unary-is_unary.ensures c.kept_so_far-found.ensures c.in_ok-check_base.ensures).answer.at

pub advance-requires-clause-whole : goal.advance-requires-clause-whole
advance-requires-clause-whole t c = star_whole (base_checked c.requires.at (c.in_ok-base.ensures _ _ c.requires.at) (c.at.ensures.0 c.if-not-at.false) c.begins_unary-is_unary.ensures c.kept_so_far-found.ensures c.in_ok-check_base.ensures).answer.at (still_star c.in_ok-check_base.ensures (c.at.ensures.0 c.if-not-at.false))

pub exponentiation-requires : goal.exponentiation-requires
exponentiation-requires t c =
    let b = (base_checked c.requires.at (c.in_ok-base.ensures _ _ c.requires.at) (c.at.ensures.0 c.if-not-at.false) c.begins_unary-is_unary.ensures c.kept_so_far-found.ensures c.in_ok-check_base.ensures).answer in
    let m = c.in_ok-advance.ensures _ _ b.at in
    c.requires.nests _ _ (standing m.at) (let r = nested_room b.at m in let s = later_room (let i = b.further in let j = c.requires.at.behind in omega arith) b.same in omega arith)

pub returns-in_err-exponent : goal.returns-in_err-exponent
returns-in_err-exponent t c = λ text f a.
    let p = err_from_is_err_and c.from_residual-in_err-exponent.result c.from_residual-in_err-exponent.ensures.1 in
    let x = c.in_ok-base.ensures text f a in
    let k = c.at.ensures.0 c.if-not-at.false in
    let b = base_checked a x k (c.begins_unary-is_unary.ensures ∙ ap (λ (g : Flags). begins_by_unary g.awaits c.args.p.now.token.kind) a.flags_are) c.kept_so_far-found.ensures c.in_ok-check_base.ensures in
    let m = c.in_ok-advance.ensures text f b.answer.at in
    rw (p.1, p.2) (stops_behind _ _ (same_both b.answer.same m.same) (λ g. after b.answer.verdict (grown_then m.kept g)) (λ n. exponent_fails x.answer k b.answer (still_star c.in_ok-check_base.ensures k) m n) (c.in_err-exponent.ensures text f m.at))

pub end_span-span-requires : goal.end_span-span-requires
end_span-span-requires t c =
    let b = (base_checked c.requires.at (c.in_ok-base.ensures _ _ c.requires.at) (c.at.ensures.0 c.if-not-at.false) c.begins_unary-is_unary.ensures c.kept_so_far-found.ensures c.in_ok-check_base.ensures).answer in
    let m = c.in_ok-advance.ensures _ _ b.at in
    let y = (c.in_ok-exponent.ensures _ _ m.at).answer in
    let i = b.further in let j = b.at.behind in let k = m.further in let l = m.at.behind in let n = y.further in let s = c.cur_start-start.ensures in omega arith

pub returns : goal.returns
returns t c = λ text f a.
    let x = c.in_ok-base.ensures text f a in
    let k = c.at.ensures.0 c.if-not-at.false in
    let b = base_checked a x k (c.begins_unary-is_unary.ensures ∙ ap (λ (g : Flags). begins_by_unary g.awaits c.args.p.now.token.kind) a.flags_are) c.kept_so_far-found.ensures c.in_ok-check_base.ensures in
    let m = c.in_ok-advance.ensures text f b.answer.at in
    power_answers _ a x k b (still_star c.in_ok-check_base.ensures k) m (c.in_ok-exponent.ensures text f m.at) (c.end_span-span.ensures.start ∙ c.cur_start-start.ensures) c.end_span-span.ensures.end c.in_ok-node.ensures
