use Rattle.std.proofs.Common.{arith}
use Rattle.std.proofs.lemmas.Result.{err_from_is_err_and}
use Rattle.js_base.specs.declared.kind.Kind.TheVariants.{LParen}
use Rattle.parse_shared.proofs.laws_shared.Moving.{standing}
use Rattle.parse_shared.proofs.laws_shared.Nesting.{nests_later}
use Rattle.parse_primary.proofs.laws_primary.Members.{stands_so, taken_room}
use Rattle.parse_primary.proofs.laws_primary.Supers.{checked_property, node_there, private_marked, super_before, super_headed}
use Rattle.parse_members.proofs.super_word.parse_super_member.Goals as goal

pub returns-in_err-word : goal.returns-in_err-word
returns-in_err-word g c = λ text f a.
    let p = err_from_is_err_and c.from_residual.result c.from_residual.ensures.1 in
    rw (p.1, p.2) (c.in_err-word.ensures text f a)

pub returns-then-stands : goal.returns-then-stands
returns-then-stands g c = λ text f a. super_headed a c.requires.word (c.in_ok-word.ensures text f a) (stands_so c.parse_super.new.p LParen c.if-stands.true c.stands.ensures)

pub parse_super_property-requires-clause-at : goal.parse_super_property-requires-clause-at
parse_super_property-requires-clause-at g c = standing (c.in_ok-word.ensures _ _ c.requires.at).at

pub parse_super_property-requires-clause-nests : goal.parse_super_property-requires-clause-nests
parse_super_property-requires-clause-nests g c = nests_later c.requires.nests (taken_room c.requires.at (c.in_ok-word.ensures _ _ c.requires.at))

pub parse_super_property-requires-clause-start : goal.parse_super_property-requires-clause-start
parse_super_property-requires-clause-start g c = let i = super_before c.requires.at c.requires.word (c.in_ok-word.ensures _ _ c.requires.at) in let e = c.cur_start-start.ensures in omega arith

pub parse_super_property-requires-clause-uncalled : goal.parse_super_property-requires-clause-uncalled
parse_super_property-requires-clause-uncalled g c = stands_so c.parse_super.new.p LParen c.if-stands.false c.stands.ensures

pub returns-in_err-member : goal.returns-in_err-member
returns-in_err-member g c = λ text f a.
    let p = err_from_is_err_and c.from_residual-in_err-member.result c.from_residual-in_err-member.ensures.1 in
    rw (p.1, p.2) (c.in_err-member.ensures text f c.args.p.now a c.requires.word c.cur_start-start.ensures (c.in_ok-word.ensures text f a))

pub check_super_member-requires-clause-at : goal.check_super_member-requires-clause-at
check_super_member-requires-clause-at g c = (c.in_ok-member.ensures _ _ c.args.p.now c.requires.at c.requires.word c.cur_start-start.ensures (c.in_ok-word.ensures _ _ c.requires.at)).0.at.at

pub check_super_member-requires-clause-start : goal.check_super_member-requires-clause-start
check_super_member-requires-clause-start g c =
    let i = (c.in_ok-member.ensures _ _ c.args.p.now c.requires.at c.requires.word c.cur_start-start.ensures (c.in_ok-word.ensures _ _ c.requires.at)).0.further in
    let e = c.cur_start-start.ensures in omega arith

pub check_super_member-requires-clause-made : goal.check_super_member-requires-clause-made
check_super_member-requires-clause-made g c = node_there (c.in_ok-member.ensures _ _ c.args.p.now c.requires.at c.requires.word c.cur_start-start.ensures (c.in_ok-word.ensures _ _ c.requires.at)).0.holds

pub check_super_member-requires-clause-mark : goal.check_super_member-requires-clause-mark
check_super_member-requires-clause-mark g c = λ e. private_marked c.requires.at c.requires.word c.cur_start-start.ensures (c.in_ok-member.ensures _ _ c.args.p.now c.requires.at c.requires.word c.cur_start-start.ensures (c.in_ok-word.ensures _ _ c.requires.at))

pub parse_member_expression_rest-requires-clause-at : goal.parse_member_expression_rest-requires-clause-at
parse_member_expression_rest-requires-clause-at g c = standing (checked_property c.in_ok-check_super_member.ensures (c.in_ok-member.ensures _ _ c.args.p.now c.requires.at c.requires.word c.cur_start-start.ensures (c.in_ok-word.ensures _ _ c.requires.at))).at

pub parse_member_expression_rest-requires-clause-nests : goal.parse_member_expression_rest-requires-clause-nests
parse_member_expression_rest-requires-clause-nests g c = nests_later c.requires.nests (taken_room c.requires.at (checked_property c.in_ok-check_super_member.ensures (c.in_ok-member.ensures _ _ c.args.p.now c.requires.at c.requires.word c.cur_start-start.ensures (c.in_ok-word.ensures _ _ c.requires.at))))

pub parse_member_expression_rest-requires-clause-start : goal.parse_member_expression_rest-requires-clause-start
parse_member_expression_rest-requires-clause-start g c =
    let i = (checked_property c.in_ok-check_super_member.ensures (c.in_ok-member.ensures _ _ c.args.p.now c.requires.at c.requires.word c.cur_start-start.ensures (c.in_ok-word.ensures _ _ c.requires.at))).further in
    let e = c.cur_start-start.ensures in omega arith

pub returns : goal.returns
returns g c = λ text f a. c.parse_member_expression_rest.ensures text f c.args.p.now c.cur_start-start.ensures (checked_property c.in_ok-check_super_member.ensures (c.in_ok-member.ensures text f c.args.p.now a c.requires.word c.cur_start-start.ensures (c.in_ok-word.ensures text f a)))
