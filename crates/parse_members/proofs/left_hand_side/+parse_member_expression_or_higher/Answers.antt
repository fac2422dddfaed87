use Rattle.std.proofs.Common.{◌∙◌, ap, arith, refl}
use Rattle.js_base.specs.declared.kind.Kind.TheVariants.{Dot, Import, New, QuestionDot, LParen, Super}
use Rattle.std.proofs.lemmas.Result.{err_from_is_err_and}
use Rattle.parse_shared.specs.js_cursor.Parsers.{Parser}
use Rattle.parse_shared.specs.laws_shared.Nesting.{room}
use Rattle.parse_shared.proofs.laws_shared.Giving.{gives_up}
use Rattle.parse_primary.proofs.laws_primary.Members.{at_callee, callee_room, entered_stops, member_init, new_arguments_stop, new_same, new_grown, new_refused, new_taken, no_head, stands_so, start_before, taken_room}
use Rattle.parse_primary.proofs.laws_primary.NewTargets.{behind_new}
use Rattle.parse_primary.proofs.laws_primary.Supers.{arguments_at, arguments_before, arguments_checked, arguments_marked, bare_before, bare_checked, bare_marked, callee_node}
use Rattle.parse_shared.proofs.laws_shared.Moving.{deeper, left_at, standing, stops_behind, stops_so}
use Rattle.parse_shared.proofs.laws_shared.Signs.{whole_sign}
use Rattle.parse_shared.proofs.laws_shared.Nesting.{nested_room, nests_later, later_room}
use Rattle.parse_members.proofs.left_hand_side.+parse_member_expression_or_higher.Goals as goal
use Rattle.parse_shared.specs.laws_shared.Classes.{ends_parse}
use Rattle.js_base.specs.Diagnostics.{class_of}
use Rattle.js_base.specs.declared.diagnostic.DiagnosticKind.{DiagnosticKind}

pub parse_new_target-requires-clause-at : goal.parse_new_target-requires-clause-at
parse_new_target-requires-clause-at g t c = standing (c.in_ok-advance.ensures _ _ c.requires.at).at

pub parse_new_target-requires-clause-behind : goal.parse_new_target-requires-clause-behind
parse_new_target-requires-clause-behind g t c = behind_new c.requires.at (stands_so c.args.p.now New c.if-stands.true c.stands.ensures) c.cur_start-start.ensures (c.in_ok-advance.ensures _ _ c.requires.at)

pub parse_new_target-requires-clause-dot : goal.parse_new_target-requires-clause-dot
parse_new_target-requires-clause-dot g t c = stands_so c.advance.new.p Dot c.if-stands-2.true c.stands-then-stands.ensures

pub returns-in_err-target : goal.returns-in_err-target
returns-in_err-target g t c = λ text f a.
    let p = err_from_is_err_and c.from_residual-in_err-target.result c.from_residual-in_err-target.ensures.1 in
    let s = stands_so c.args.p.now New c.if-stands.true c.stands.ensures in
    rw (p.1, p.2) (c.in_err-target.ensures text f c.args.p.now a s c.cur_start-start.ensures (c.in_ok-advance.ensures text f a))

pub parse_member_expression_rest-requires-clause-at : goal.parse_member_expression_rest-requires-clause-at
parse_member_expression_rest-requires-clause-at g t c =
    let s = stands_so c.args.p.now New c.if-stands.true c.stands.ensures in
    standing (c.in_ok-target.ensures _ _ c.args.p.now c.requires.at s c.cur_start-start.ensures (c.in_ok-advance.ensures _ _ c.requires.at)).at

pub parse_member_expression_rest-requires-clause-nests : goal.parse_member_expression_rest-requires-clause-nests
parse_member_expression_rest-requires-clause-nests g t c =
    let s = stands_so c.args.p.now New c.if-stands.true c.stands.ensures in
    nests_later c.requires.nests (taken_room c.requires.at (c.in_ok-target.ensures _ _ c.args.p.now c.requires.at s c.cur_start-start.ensures (c.in_ok-advance.ensures _ _ c.requires.at)))

pub parse_member_expression_rest-requires-clause-start : goal.parse_member_expression_rest-requires-clause-start
parse_member_expression_rest-requires-clause-start g t c =
    let s = stands_so c.args.p.now New c.if-stands.true c.stands.ensures in
    let i = (c.in_ok-target.ensures _ _ c.args.p.now c.requires.at s c.cur_start-start.ensures (c.in_ok-advance.ensures _ _ c.requires.at)).further in
    let e = c.cur_start-start.ensures in omega arith

pub returns-then-stands-2 : goal.returns-then-stands-2
returns-then-stands-2 g t c = λ text f a.
    let s = stands_so c.args.p.now New c.if-stands.true c.stands.ensures in
    c.parse_member_expression_rest.ensures text f c.args.p.now c.cur_start-start.ensures (c.in_ok-target.ensures text f c.args.p.now a s c.cur_start-start.ensures (c.in_ok-advance.ensures text f a))

pub enter-requires : goal.enter-requires
enter-requires g t c = (c.in_ok-advance.ensures _ _ c.requires.at).at.at

pub parse_member_expression_or_higher-requires : goal.parse_member_expression_or_higher-requires
parse_member_expression_or_higher-requires g t c κs ls =
    let m = c.in_ok-advance.ensures _ _ c.requires.at in
    let h = c.in_ok-enter.ensures.ok.1 in
    let r = nested_room c.requires.at m in
    let s = ap room h.is in
    (let e = c.decreases in omega arith, (λ a i. ls.0 a i, (λ a i. ls.1.0 a i, (λ a i. ls.1.1 a i, (standing (deeper m.at h), nests_later c.requires.nests (omega arith))))))

pub returns-in_err-callee : goal.returns-in_err-callee
returns-in_err-callee g t c = λ text f a.
    let p = err_from_is_err_and c.from_residual-in_err-callee.result c.from_residual-in_err-callee.ensures.1 in
    let s = stands_so c.args.p.now New c.if-stands.true c.stands.ensures in
    let m = c.in_ok-advance.ensures text f a in
    let u = stands_so c.advance.new.p Dot c.if-stands-2.false c.stands-then-stands.ensures in
    let h = c.in_ok-enter.ensures.ok.1 in
    rw (p.1, p.2) (entered_stops _ _ a s.0 s.1 m u h (c.in_err-callee.ensures text f (deeper m.at h)))

pub leave-requires-clause-at : goal.leave-requires-clause-at
leave-requires-clause-at g t c = (c.in_ok-callee.ensures _ _ (deeper (c.in_ok-advance.ensures _ _ c.requires.at).at c.in_ok-enter.ensures.ok.1)).0.at.at

pub leave-requires-clause-entered : goal.leave-requires-clause-entered
leave-requires-clause-entered g t c =
    let h = c.in_ok-enter.ensures.ok.1 in
    let d = (c.in_ok-callee.ensures _ _ (deeper (c.in_ok-advance.ensures _ _ c.requires.at).at h)).0.same.depth in
    let e = ap (λ (r : Parser). r.depth) h.is in omega arith

pub returns-then-stands-3 : goal.returns-then-stands-3
returns-then-stands-3 g t c = λ text f a.
    let s = stands_so c.args.p.now New c.if-stands.true c.stands.ensures in
    let m = c.in_ok-advance.ensures text f a in
    let u = stands_so c.advance.new.p Dot c.if-stands-2.false c.stands-then-stands.ensures in
    let h = c.in_ok-enter.ensures.ok.1 in
    let x = c.in_ok-callee.ensures text f (deeper m.at h) in
    stops_behind _ c.refuse_chain.result (new_same a s.0 s.1 m u h c.leave.ensures x) (λ i. new_grown a s.0 s.1 m u h c.leave.ensures x i) (λ z. z)
    (gives_up _ _ _ c.refuse_chain.result (left_at x.0.at c.leave.ensures) c.refuse_chain.ensures (λ d u. ap (λ (k : DiagnosticKind). ends_parse (class_of k)) u.0) (new_refused a s.0 s.1 m u h c.leave.ensures x (stands_so c.leave.new.self QuestionDot c.if-stands-3.true c.stands-then-stands-2.ensures)))

pub end_span-span-requires : goal.end_span-span-requires
end_span-span-requires g t c =
    let s = stands_so c.args.p.now New c.if-stands.true c.stands.ensures in
    let m = c.in_ok-advance.ensures _ _ c.requires.at in
    let u = stands_so c.advance.new.p Dot c.if-stands-2.false c.stands-then-stands.ensures in
    let h = c.in_ok-enter.ensures.ok.1 in
    let b = start_before c.requires.at s.0 s.1 m u h c.leave.ensures (c.in_ok-callee.ensures _ _ (deeper m.at h)) in let i = c.cur_start-start.ensures in omega arith

pub parse_with_arguments-requires-clause-at : goal.parse_with_arguments-requires-clause-at
parse_with_arguments-requires-clause-at g t c =
    let s = stands_so c.args.p.now New c.if-stands.true c.stands.ensures in
    let m = c.in_ok-advance.ensures _ _ c.requires.at in
    let u = stands_so c.advance.new.p Dot c.if-stands-2.false c.stands-then-stands.ensures in
    let h = c.in_ok-enter.ensures.ok.1 in
    standing (at_callee c.requires.at s.0 s.1 m u h c.leave.ensures (c.in_ok-callee.ensures _ _ (deeper m.at h)))

pub parse_with_arguments-requires-clause-nests : goal.parse_with_arguments-requires-clause-nests
parse_with_arguments-requires-clause-nests g t c =
    let s = stands_so c.args.p.now New c.if-stands.true c.stands.ensures in
    let m = c.in_ok-advance.ensures _ _ c.requires.at in
    let u = stands_so c.advance.new.p Dot c.if-stands-2.false c.stands-then-stands.ensures in
    let h = c.in_ok-enter.ensures.ok.1 in
    nests_later c.requires.nests (callee_room c.requires.at s.0 s.1 m u h c.leave.ensures (c.in_ok-callee.ensures _ _ (deeper m.at h)))

pub parse_with_arguments-requires-clause-start : goal.parse_with_arguments-requires-clause-start
parse_with_arguments-requires-clause-start g t c =
    let s = stands_so c.args.p.now New c.if-stands.true c.stands.ensures in
    let m = c.in_ok-advance.ensures _ _ c.requires.at in
    let u = stands_so c.advance.new.p Dot c.if-stands-2.false c.stands-then-stands.ensures in
    let h = c.in_ok-enter.ensures.ok.1 in
    let b = start_before c.requires.at s.0 s.1 m u h c.leave.ensures (c.in_ok-callee.ensures _ _ (deeper m.at h)) in let i = c.cur_start-start.ensures in omega arith

pub parse_with_arguments-requires-clause-open : goal.parse_with_arguments-requires-clause-open
parse_with_arguments-requires-clause-open g t c = (stands_so c.leave.new.self LParen c.if-stands-4.true c.stands-then-stands-3.ensures).0

pub returns-in_err-node : goal.returns-in_err-node
returns-in_err-node g t c = λ text f a.
    let p = err_from_is_err_and c.from_residual-in_err-node.result c.from_residual-in_err-node.ensures.1 in
    let s = stands_so c.args.p.now New c.if-stands.true c.stands.ensures in
    let m = c.in_ok-advance.ensures text f a in
    let u = stands_so c.advance.new.p Dot c.if-stands-2.false c.stands-then-stands.ensures in
    let h = c.in_ok-enter.ensures.ok.1 in
    let x = c.in_ok-callee.ensures text f (deeper m.at h) in
    rw (p.1, p.2) (new_arguments_stop a s.0 s.1 m u h c.leave.ensures x (stands_so c.leave.new.self LParen c.if-stands-4.true c.stands-then-stands-3.ensures) _ _ (c.in_err-node.ensures text f (at_callee a s.0 s.1 m u h c.leave.ensures x)))

pub parse_member_expression_rest-requires-then-stands-4-clause-at : goal.parse_member_expression_rest-requires-then-stands-4-clause-at
parse_member_expression_rest-requires-then-stands-4-clause-at g t c =
    let s = stands_so c.args.p.now New c.if-stands.true c.stands.ensures in
    let m = c.in_ok-advance.ensures _ _ c.requires.at in
    let u = stands_so c.advance.new.p Dot c.if-stands-2.false c.stands-then-stands.ensures in
    let h = c.in_ok-enter.ensures.ok.1 in
    let x = c.in_ok-callee.ensures _ _ (deeper m.at h) in
    standing (arguments_checked c.requires.at s m u h c.leave.ensures x _ c.stands-begins_super.ensures c.is_super_alone-super_alone.ensures (stands_so c.leave.new.self LParen c.if-stands-4.true c.stands-then-stands-3.ensures) c.cur_start-start.ensures c.in_ok-node.ensures c.in_ok-check_new_callee.ensures).at

pub parse_member_expression_rest-requires-then-stands-4-clause-nests : goal.parse_member_expression_rest-requires-then-stands-4-clause-nests
parse_member_expression_rest-requires-then-stands-4-clause-nests g t c =
    let s = stands_so c.args.p.now New c.if-stands.true c.stands.ensures in
    let m = c.in_ok-advance.ensures _ _ c.requires.at in
    let u = stands_so c.advance.new.p Dot c.if-stands-2.false c.stands-then-stands.ensures in
    let h = c.in_ok-enter.ensures.ok.1 in
    let x = c.in_ok-callee.ensures _ _ (deeper m.at h) in
    let y = arguments_checked c.requires.at s m u h c.leave.ensures x _ c.stands-begins_super.ensures c.is_super_alone-super_alone.ensures (stands_so c.leave.new.self LParen c.if-stands-4.true c.stands-then-stands-3.ensures) c.cur_start-start.ensures c.in_ok-node.ensures c.in_ok-check_new_callee.ensures in
    nests_later c.requires.nests (taken_room c.requires.at y)

pub parse_member_expression_rest-requires-then-stands-4-clause-start : goal.parse_member_expression_rest-requires-then-stands-4-clause-start
parse_member_expression_rest-requires-then-stands-4-clause-start g t c =
    let s = stands_so c.args.p.now New c.if-stands.true c.stands.ensures in
    let m = c.in_ok-advance.ensures _ _ c.requires.at in
    let u = stands_so c.advance.new.p Dot c.if-stands-2.false c.stands-then-stands.ensures in
    let h = c.in_ok-enter.ensures.ok.1 in
    let x = c.in_ok-callee.ensures _ _ (deeper m.at h) in
    let i = (arguments_checked c.requires.at s m u h c.leave.ensures x _ c.stands-begins_super.ensures c.is_super_alone-super_alone.ensures (stands_so c.leave.new.self LParen c.if-stands-4.true c.stands-then-stands-3.ensures) c.cur_start-start.ensures c.in_ok-node.ensures c.in_ok-check_new_callee.ensures).further in
    let e = c.cur_start-start.ensures in omega arith

pub returns-then-stands-4 : goal.returns-then-stands-4
returns-then-stands-4 g t c = λ text f a.
    let s = stands_so c.args.p.now New c.if-stands.true c.stands.ensures in
    let m = c.in_ok-advance.ensures text f a in
    let u = stands_so c.advance.new.p Dot c.if-stands-2.false c.stands-then-stands.ensures in
    let h = c.in_ok-enter.ensures.ok.1 in
    let x = c.in_ok-callee.ensures text f (deeper m.at h) in
    c.parse_member_expression_rest-then-stands-4.ensures text f c.args.p.now c.cur_start-start.ensures (arguments_checked a s m u h c.leave.ensures x _ c.stands-begins_super.ensures c.is_super_alone-super_alone.ensures (stands_so c.leave.new.self LParen c.if-stands-4.true c.stands-then-stands-3.ensures) c.cur_start-start.ensures c.in_ok-node.ensures c.in_ok-check_new_callee.ensures)

pub returns-then-stands : goal.returns-then-stands
returns-then-stands g t c = λ text f a.
    let s = stands_so c.args.p.now New c.if-stands.true c.stands.ensures in
    let m = c.in_ok-advance.ensures text f a in
    let u = stands_so c.advance.new.p Dot c.if-stands-2.false c.stands-then-stands.ensures in
    let h = c.in_ok-enter.ensures.ok.1 in
    let x = c.in_ok-callee.ensures text f (deeper m.at h) in
    let y = new_taken a s.0 s.1 m u h c.leave.ensures x (stands_so c.leave.new.self QuestionDot c.if-stands-3.false c.stands-then-stands-2.ensures) (stands_so c.leave.new.self LParen c.if-stands-4.false c.stands-then-stands-3.ensures) (c.end_span-span.ensures.start ∙ c.cur_start-start.ensures) c.end_span-span.ensures.end c.in_ok-node-2.ensures in
    bare_checked a s m u h c.leave.ensures x _ c.stands-begins_super.ensures c.is_super_alone-super_alone.ensures y (ap (λ (z : Parser). z.prev_token_end) c.in_ok-node-2.ensures.stays) c.in_ok-check_new_callee-2.ensures

pub returns-in_err-primary : goal.returns-in_err-primary
returns-in_err-primary g t c = λ text f a.
    let p = err_from_is_err_and c.from_residual-in_err-primary.result c.from_residual-in_err-primary.ensures.1 in
    rw (p.1, p.2) (stops_so _ _ _ (λ n. no_head a (stands_so c.args.p.now New c.if-stands.false c.stands.ensures) (stands_so c.args.p.now Super c.if-stands-5.false c.stands-2.ensures) (stands_so c.args.p.now Import c.if-stands-6.false c.stands-3.ensures) n) (c.in_err-primary.ensures text f a))

pub parse_member_expression_rest-requires-2-clause-at : goal.parse_member_expression_rest-requires-2-clause-at
parse_member_expression_rest-requires-2-clause-at g t c = standing (c.in_ok-primary.ensures _ _ c.requires.at).answer.at

pub parse_member_expression_rest-requires-2-clause-nests : goal.parse_member_expression_rest-requires-2-clause-nests
parse_member_expression_rest-requires-2-clause-nests g t c =
    let x = (c.in_ok-primary.ensures _ _ c.requires.at).answer in
    nests_later c.requires.nests (later_room (let a = x.further in let b = c.requires.at.behind in omega arith) x.same)

pub parse_member_expression_rest-requires-2-clause-start : goal.parse_member_expression_rest-requires-2-clause-start
parse_member_expression_rest-requires-2-clause-start g t c = let i = (c.in_ok-primary.ensures _ _ c.requires.at).answer.further in let s = c.cur_start-start.ensures in omega arith

pub returns : goal.returns
returns g t c = λ text f a. c.parse_member_expression_rest-2.ensures text f c.args.p.now c.cur_start-start.ensures (member_init a (stands_so c.args.p.now New c.if-stands.false c.stands.ensures) (stands_so c.args.p.now Super c.if-stands-5.false c.stands-2.ensures) (stands_so c.args.p.now Import c.if-stands-6.false c.stands-3.ensures) (c.in_ok-primary.ensures text f a))

pub refuse_chain-requires-clause-at : goal.refuse_chain-requires-clause-at
refuse_chain-requires-clause-at g t c =
    let s = stands_so c.args.p.now New c.if-stands.true c.stands.ensures in
    let m = c.in_ok-advance.ensures _ _ c.requires.at in
    let u = stands_so c.advance.new.p Dot c.if-stands-2.false c.stands-then-stands.ensures in
    let h = c.in_ok-enter.ensures.ok.1 in
    standing (at_callee c.requires.at s.0 s.1 m u h c.leave.ensures (c.in_ok-callee.ensures _ _ (deeper m.at h)))

pub refuse_chain-requires-clause-sign : goal.refuse_chain-requires-clause-sign
refuse_chain-requires-clause-sign g t c = stands_so c.leave.new.self QuestionDot c.if-stands-3.true c.stands-then-stands-2.ensures

pub is_super_alone-super_alone-requires : goal.is_super_alone-super_alone-requires
is_super_alone-super_alone-requires g t c =
    let s = stands_so c.args.p.now New c.if-stands.true c.stands.ensures in
    let m = c.in_ok-advance.ensures _ _ c.requires.at in
    let u = stands_so c.advance.new.p Dot c.if-stands-2.false c.stands-then-stands.ensures in
    let h = c.in_ok-enter.ensures.ok.1 in
    callee_node c.requires.at s m u h c.leave.ensures (c.in_ok-callee.ensures _ _ (deeper m.at h))

pub check_new_callee-requires-clause-at : goal.check_new_callee-requires-clause-at
check_new_callee-requires-clause-at g t c =
    let s = stands_so c.args.p.now New c.if-stands.true c.stands.ensures in
    let m = c.in_ok-advance.ensures _ _ c.requires.at in
    let u = stands_so c.advance.new.p Dot c.if-stands-2.false c.stands-then-stands.ensures in
    let h = c.in_ok-enter.ensures.ok.1 in
    let x = c.in_ok-callee.ensures _ _ (deeper m.at h) in
    (arguments_at c.requires.at s m u h c.leave.ensures x _ c.stands-begins_super.ensures c.is_super_alone-super_alone.ensures (stands_so c.leave.new.self LParen c.if-stands-4.true c.stands-then-stands-3.ensures) c.cur_start-start.ensures c.in_ok-node.ensures).at

pub check_new_callee-requires-clause-start : goal.check_new_callee-requires-clause-start
check_new_callee-requires-clause-start g t c =
    let s = stands_so c.args.p.now New c.if-stands.true c.stands.ensures in
    let m = c.in_ok-advance.ensures _ _ c.requires.at in
    let u = stands_so c.advance.new.p Dot c.if-stands-2.false c.stands-then-stands.ensures in
    let h = c.in_ok-enter.ensures.ok.1 in
    let x = c.in_ok-callee.ensures _ _ (deeper m.at h) in
    let i = arguments_before c.requires.at s m u h c.leave.ensures x _ c.stands-begins_super.ensures c.is_super_alone-super_alone.ensures (stands_so c.leave.new.self LParen c.if-stands-4.true c.stands-then-stands-3.ensures) c.cur_start-start.ensures c.in_ok-node.ensures in
    let e = c.cur_start-callee_start.ensures in omega arith

pub check_new_callee-requires-clause-mark : goal.check_new_callee-requires-clause-mark
check_new_callee-requires-clause-mark g t c = λ j.
    let s = stands_so c.args.p.now New c.if-stands.true c.stands.ensures in
    let m = c.in_ok-advance.ensures _ _ c.requires.at in
    let u = stands_so c.advance.new.p Dot c.if-stands-2.false c.stands-then-stands.ensures in
    let h = c.in_ok-enter.ensures.ok.1 in
    let x = c.in_ok-callee.ensures _ _ (deeper m.at h) in
    arguments_marked c.requires.at s m u h c.leave.ensures x _ c.stands-begins_super.ensures c.is_super_alone-super_alone.ensures (stands_so c.leave.new.self LParen c.if-stands-4.true c.stands-then-stands-3.ensures) c.cur_start-start.ensures c.in_ok-node.ensures c.cur_start-callee_start.ensures j

pub check_new_callee-requires-then-stands-clause-at : goal.check_new_callee-requires-then-stands-clause-at
check_new_callee-requires-then-stands-clause-at g t c =
    let s = stands_so c.args.p.now New c.if-stands.true c.stands.ensures in
    let m = c.in_ok-advance.ensures _ _ c.requires.at in
    let u = stands_so c.advance.new.p Dot c.if-stands-2.false c.stands-then-stands.ensures in
    let h = c.in_ok-enter.ensures.ok.1 in
    let x = c.in_ok-callee.ensures _ _ (deeper m.at h) in
    (new_taken c.requires.at s.0 s.1 m u h c.leave.ensures x (stands_so c.leave.new.self QuestionDot c.if-stands-3.false c.stands-then-stands-2.ensures) (stands_so c.leave.new.self LParen c.if-stands-4.false c.stands-then-stands-3.ensures) (c.end_span-span.ensures.start ∙ c.cur_start-start.ensures) c.end_span-span.ensures.end c.in_ok-node-2.ensures).0.at.at

pub check_new_callee-requires-then-stands-clause-start : goal.check_new_callee-requires-then-stands-clause-start
check_new_callee-requires-then-stands-clause-start g t c =
    let s = stands_so c.args.p.now New c.if-stands.true c.stands.ensures in
    let m = c.in_ok-advance.ensures _ _ c.requires.at in
    let u = stands_so c.advance.new.p Dot c.if-stands-2.false c.stands-then-stands.ensures in
    let h = c.in_ok-enter.ensures.ok.1 in
    let x = c.in_ok-callee.ensures _ _ (deeper m.at h) in
    let y = new_taken c.requires.at s.0 s.1 m u h c.leave.ensures x (stands_so c.leave.new.self QuestionDot c.if-stands-3.false c.stands-then-stands-2.ensures) (stands_so c.leave.new.self LParen c.if-stands-4.false c.stands-then-stands-3.ensures) (c.end_span-span.ensures.start ∙ c.cur_start-start.ensures) c.end_span-span.ensures.end c.in_ok-node-2.ensures in
    let i = bare_before c.requires.at s m u h c.leave.ensures x _ c.stands-begins_super.ensures c.is_super_alone-super_alone.ensures y (ap (λ (z : Parser). z.prev_token_end) c.in_ok-node-2.ensures.stays) in
    let e = c.cur_start-callee_start.ensures in omega arith

pub check_new_callee-requires-then-stands-clause-mark : goal.check_new_callee-requires-then-stands-clause-mark
check_new_callee-requires-then-stands-clause-mark g t c = λ j.
    let s = stands_so c.args.p.now New c.if-stands.true c.stands.ensures in
    let m = c.in_ok-advance.ensures _ _ c.requires.at in
    let u = stands_so c.advance.new.p Dot c.if-stands-2.false c.stands-then-stands.ensures in
    let h = c.in_ok-enter.ensures.ok.1 in
    let x = c.in_ok-callee.ensures _ _ (deeper m.at h) in
    let y = new_taken c.requires.at s.0 s.1 m u h c.leave.ensures x (stands_so c.leave.new.self QuestionDot c.if-stands-3.false c.stands-then-stands-2.ensures) (stands_so c.leave.new.self LParen c.if-stands-4.false c.stands-then-stands-3.ensures) (c.end_span-span.ensures.start ∙ c.cur_start-start.ensures) c.end_span-span.ensures.end c.in_ok-node-2.ensures in
    bare_marked c.requires.at s m u h c.leave.ensures x _ c.stands-begins_super.ensures c.is_super_alone-super_alone.ensures y (ap (λ (z : Parser). z.prev_token_end) c.in_ok-node-2.ensures.stays) c.cur_start-callee_start.ensures j

pub advance-requires-clause-whole : goal.advance-requires-clause-whole
advance-requires-clause-whole g t c = whole_sign New c.requires.at (stands_so c.args.p.now New c.if-stands.true c.stands.ensures).0 refl refl

pub parse_super_member-requires-clause-word : goal.parse_super_member-requires-clause-word
parse_super_member-requires-clause-word g t c = stands_so c.args.p.now Super c.if-stands-5.true c.stands-2.ensures

pub parse_import_member-requires-clause-word : goal.parse_import_member-requires-clause-word
parse_import_member-requires-clause-word g t c = stands_so c.args.p.now Import c.if-stands-6.true c.stands-3.ensures
