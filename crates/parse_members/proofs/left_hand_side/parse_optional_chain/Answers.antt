use Rattle.std.proofs.Common.{◌∙◌}
use Rattle.js_base.specs.declared.kind.Kind.TheVariants.{QuestionDot}
use Rattle.std.proofs.lemmas.Result.{err_from_is_err_and}
use Rattle.parse_primary.proofs.laws_primary.Members.{chain_begun, chain_done, chain_first_stops, chain_less, chain_on, chain_stops, goes_on_so, lhs_callee, next_chain, stands_so, start_loop}
use Rattle.parse_primary.specs.laws_primary.declared.forms.LinkBase.TheVariants as base
use Rattle.parse_shared.proofs.laws_shared.Nesting.{nests_later}
use Rattle.parse_members.proofs.left_hand_side.parse_optional_chain.Goals as goal

pub returns-then-not-stands : goal.returns-then-not-stands
returns-then-not-stands t c = λ text f o a e x n m. lhs_callee x n m (stands_so c.args.p.now QuestionDot c.if-not-stands.true c.stands.ensures)

pub parse_optional_link-requires-clause-sign : goal.parse_optional_link-requires-clause-sign
parse_optional_link-requires-clause-sign t c = stands_so c.args.p.now QuestionDot c.if-not-stands.false c.stands.ensures

pub returns-in_err-left : goal.returns-in_err-left
returns-in_err-left t c = λ text f o a e x n m.
    let p = err_from_is_err_and c.from_residual.result c.from_residual.ensures.1 in
    rw (p.1, p.2) (chain_first_stops a x (stands_so c.args.p.now QuestionDot c.if-not-stands.false c.stands.ensures) _ _ (c.in_err-left.ensures text f x.at))

pub links-init : goal.links-init
links-init t c = next_chain (start_loop c.requires.at c.requires.start) c.in_ok-left.ensures (λ text f o a e x. chain_begun a x (stands_so c.args.p.now QuestionDot c.if-not-stands.false c.stands.ensures) e (c.in_ok-left.ensures text f x.at))

pub parse_chain_link-requires-clause-at : goal.parse_chain_link-requires-clause-at
parse_chain_link-requires-clause-at t c = c.links.invariant.at

pub parse_chain_link-requires-clause-nests : goal.parse_chain_link-requires-clause-nests
parse_chain_link-requires-clause-nests t c = nests_later c.requires.nests c.links.invariant.later

pub parse_chain_link-requires-clause-start : goal.parse_chain_link-requires-clause-start
parse_chain_link-requires-clause-start t c = c.links.invariant.before

pub parse_chain_link-requires-clause-link : goal.parse_chain_link-requires-clause-link
parse_chain_link-requires-clause-link t c = goes_on_so c.links.p base.Chain c.links-test.true c.goes_on.ensures

pub returns-in_err-left-2 : goal.returns-in_err-left-2
returns-in_err-left-2 t c = λ text f o a e x n m.
    let p = err_from_is_err_and c.from_residual-in_err-left-2.result c.from_residual-in_err-left-2.ensures.1 in
    let z = c.links.invariant.goes text f o a e x in
    rw (p.1, p.2) (chain_stops z _ _ (goes_on_so c.links.p base.Chain c.links-test.true c.goes_on.ensures) (c.in_err-left-2.ensures text f z.at))

pub links-smaller : goal.links-smaller
links-smaller t c = chain_less c.links.invariant.at (c.in_ok-left-2.ensures _ _ c.links.invariant.at)

pub links-preserved : goal.links-preserved
links-preserved t c = next_chain c.links.invariant c.in_ok-left-2.ensures (λ text f o a e x. let z = c.links.invariant.goes text f o a e x in chain_on z e (c.in_ok-left-2.ensures text f z.at))

pub returns : goal.returns
returns t c = λ text f o a e x n m. chain_done a (c.links.invariant.goes text f o a e x) (goes_on_so c.links.p base.Chain c.links-test.false c.goes_on.ensures) (c.end_span-span.ensures.start ∙ e) c.end_span-span.ensures.end c.in_ok-chain.ensures
