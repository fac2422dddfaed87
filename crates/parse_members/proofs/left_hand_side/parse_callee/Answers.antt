use Rattle.std.proofs.Common.{arith}
use Rattle.std.proofs.lemmas.Result.{err_from_is_err_and}
use Rattle.js_base.specs.declared.kind.Kind.TheVariants.{Import}
use Rattle.parse_primary.proofs.laws_primary.Links.{no_lhs_here}
use Rattle.parse_primary.proofs.laws_primary.Members.{no_import_here, stands_so}
use Rattle.parse_shared.proofs.laws_shared.Moving.{standing, stops_so}
use Rattle.parse_shared.proofs.laws_shared.Nesting.{nests_later, later_room}
use Rattle.parse_members.proofs.left_hand_side.parse_callee.Goals as goal

pub parse_import_callee-requires-clause-word : goal.parse_import_callee-requires-clause-word
parse_import_callee-requires-clause-word t c = stands_so c.args.p.now Import c.if-stands.true c.stands.ensures

pub returns-in_err-member : goal.returns-in_err-member
returns-in_err-member t c = λ text f a.
    let p = err_from_is_err_and c.from_residual.result c.from_residual.ensures.1 in
    rw (p.1, p.2) (stops_so _ _ _ (λ n. no_lhs_here f n (no_import_here a (stands_so c.args.p.now Import c.if-stands.false c.stands.ensures))) (c.in_err-member.ensures text f a))

pub parse_call_expression_rest-requires-clause-at : goal.parse_call_expression_rest-requires-clause-at
parse_call_expression_rest-requires-clause-at t c = standing (c.in_ok-member.ensures _ _ c.requires.at).0.at

pub parse_call_expression_rest-requires-clause-nests : goal.parse_call_expression_rest-requires-clause-nests
parse_call_expression_rest-requires-clause-nests t c =
    let x = (c.in_ok-member.ensures _ _ c.requires.at).0 in
    nests_later c.requires.nests (later_room (let a = x.further in let b = c.requires.at.behind in omega arith) x.same)

pub parse_call_expression_rest-requires-clause-start : goal.parse_call_expression_rest-requires-clause-start
parse_call_expression_rest-requires-clause-start t c = let i = (c.in_ok-member.ensures _ _ c.requires.at).0.further in let s = c.cur_start-start.ensures in omega arith

pub returns : goal.returns
returns t c = λ text f a.
    let x = c.in_ok-member.ensures text f a in
    c.parse_call_expression_rest.ensures text f c.args.p.now a c.cur_start-start.ensures (no_import_here a (stands_so c.args.p.now Import c.if-stands.false c.stands.ensures)) x.0 x.1
