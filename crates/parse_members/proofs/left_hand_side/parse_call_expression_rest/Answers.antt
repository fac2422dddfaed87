use Rattle.js_base.specs.declared.kind.Kind.TheVariants.{LParen}
use Rattle.std.proofs.lemmas.Result.{err_from_is_err_and}
use Rattle.parse_primary.proofs.laws_primary.Members.{call_first, call_first_stops, call_sign, head_closed, next_loop, stands_so, start_loop}
use Rattle.parse_shared.proofs.laws_shared.Nesting.{nests_later}
use Rattle.parse_members.proofs.left_hand_side.parse_call_expression_rest.Goals as goal

pub returns-then-not-stands : goal.returns-then-not-stands
returns-then-not-stands t c = λ text f o a e i x n. head_closed x i n (stands_so c.args.p.now LParen c.if-not-stands.true c.stands.ensures)

pub parse_link-requires-clause-link : goal.parse_link-requires-clause-link
parse_link-requires-clause-link t c = call_sign (stands_so c.args.p.now LParen c.if-not-stands.false c.stands.ensures)

pub returns-in_err-call : goal.returns-in_err-call
returns-in_err-call t c = λ text f o a e i x n.
    let p = err_from_is_err_and c.from_residual.result c.from_residual.ensures.1 in
    rw (p.1, p.2) (call_first_stops a x i (stands_so c.args.p.now LParen c.if-not-stands.false c.stands.ensures) _ _ (c.in_err-call.ensures text f x.at))

pub parse_call_links-requires-clause-at : goal.parse_call_links-requires-clause-at
parse_call_links-requires-clause-at t c = (next_loop (start_loop c.requires.at c.requires.start) c.in_ok-call.ensures c.requires.start).at

pub parse_call_links-requires-clause-nests : goal.parse_call_links-requires-clause-nests
parse_call_links-requires-clause-nests t c = nests_later c.requires.nests (next_loop (start_loop c.requires.at c.requires.start) c.in_ok-call.ensures c.requires.start).later

pub parse_call_links-requires-clause-start : goal.parse_call_links-requires-clause-start
parse_call_links-requires-clause-start t c = (next_loop (start_loop c.requires.at c.requires.start) c.in_ok-call.ensures c.requires.start).before

pub returns : goal.returns
returns t c = λ text f o a e i x n. c.parse_call_links.ensures text f o e (call_first a x i (stands_so c.args.p.now LParen c.if-not-stands.false c.stands.ensures) e (c.in_ok-call.ensures text f x.at))
