use Rattle.std.proofs.Common.{arith, refl}
use Rattle.std.proofs.lemmas.Result.{err_from_is_err_and}
use Rattle.js_base.specs.declared.kind.Kind.TheVariants.{Import, LParen}
use Rattle.parse_shared.proofs.laws_shared.Giving.{memory_stops}
use Rattle.parse_shared.proofs.laws_shared.Moving.{standing, stops_so}
use Rattle.parse_shared.proofs.laws_shared.Nesting.{later_room, nested_room, nests_later}
use Rattle.parse_shared.proofs.laws_shared.Signs.{whole_sign}
use Rattle.parse_primary.proofs.laws_primary.ImportCalls.{import_called, import_stops}
use Rattle.parse_primary.proofs.laws_primary.ImportWords.{behind_word, uncalled_word}
use Rattle.parse_primary.proofs.laws_primary.Links.{no_lhs_here}
use Rattle.parse_primary.proofs.laws_primary.Members.{stands_so, taken_room}
use Rattle.parse_members.proofs.import_word.parse_import_callee.Goals as goal

pub returns-in_err-advance : goal.returns-in_err-advance
returns-in_err-advance t c =
    let p = err_from_is_err_and c.from_residual.result c.from_residual.ensures.1 in
    rw (p.1, p.2) (λ text f a. memory_stops _ _ _ _ c.in_err-advance.ensures)

pub advance-requires-clause-whole : goal.advance-requires-clause-whole
advance-requires-clause-whole t c = whole_sign Import c.requires.at c.requires.word.0 refl refl

pub parse_import_call-requires-clause-at : goal.parse_import_call-requires-clause-at
parse_import_call-requires-clause-at t c = standing (c.in_ok-advance.ensures _ _ c.requires.at).at

pub parse_import_call-requires-clause-nests : goal.parse_import_call-requires-clause-nests
parse_import_call-requires-clause-nests t c = nests_later c.requires.nests (let r = nested_room c.requires.at (c.in_ok-advance.ensures _ _ c.requires.at) in omega arith)

pub parse_import_call-requires-clause-behind : goal.parse_import_call-requires-clause-behind
parse_import_call-requires-clause-behind t c = behind_word c.requires.at c.cur_start-start.ensures (c.in_ok-advance.ensures _ _ c.requires.at)

pub parse_import_call-requires-clause-open : goal.parse_import_call-requires-clause-open
parse_import_call-requires-clause-open t c = stands_so c.advance.new.p LParen c.if-stands.true c.stands.ensures

pub returns-in_err-call : goal.returns-in_err-call
returns-in_err-call t c = λ text f a.
    let p = err_from_is_err_and c.from_residual-in_err-call.result c.from_residual-in_err-call.ensures.1 in
    let m = c.in_ok-advance.ensures text f a in
    rw (p.1, p.2) (import_stops a c.requires.word m (stands_so c.advance.new.p LParen c.if-stands.true c.stands.ensures) _ _ (c.in_err-call.ensures text f m.at))

pub parse_call_links-requires-clause-at : goal.parse_call_links-requires-clause-at
parse_call_links-requires-clause-at t c = standing (import_called c.requires.at c.requires.word (c.in_ok-advance.ensures _ _ c.requires.at) (stands_so c.advance.new.p LParen c.if-stands.true c.stands.ensures) c.cur_start-start.ensures c.in_ok-call.ensures).at

pub parse_call_links-requires-clause-nests : goal.parse_call_links-requires-clause-nests
parse_call_links-requires-clause-nests t c = nests_later c.requires.nests (taken_room c.requires.at (import_called c.requires.at c.requires.word (c.in_ok-advance.ensures _ _ c.requires.at) (stands_so c.advance.new.p LParen c.if-stands.true c.stands.ensures) c.cur_start-start.ensures c.in_ok-call.ensures))

pub parse_call_links-requires-clause-start : goal.parse_call_links-requires-clause-start
parse_call_links-requires-clause-start t c =
    let i = (import_called c.requires.at c.requires.word (c.in_ok-advance.ensures _ _ c.requires.at) (stands_so c.advance.new.p LParen c.if-stands.true c.stands.ensures) c.cur_start-start.ensures c.in_ok-call.ensures).further in
    let e = c.cur_start-start.ensures in omega arith

pub returns-then-stands : goal.returns-then-stands
returns-then-stands t c = λ text f a.
    c.parse_call_links.ensures text f c.args.p.now c.cur_start-start.ensures (import_called a c.requires.word (c.in_ok-advance.ensures text f a) (stands_so c.advance.new.p LParen c.if-stands.true c.stands.ensures) c.cur_start-start.ensures c.in_ok-call.ensures)

pub parse_import_meta-requires-clause-at : goal.parse_import_meta-requires-clause-at
parse_import_meta-requires-clause-at t c = standing (c.in_ok-advance.ensures _ _ c.requires.at).at

pub parse_import_meta-requires-clause-behind : goal.parse_import_meta-requires-clause-behind
parse_import_meta-requires-clause-behind t c = behind_word c.requires.at c.cur_start-start.ensures (c.in_ok-advance.ensures _ _ c.requires.at)

pub returns-in_err-meta : goal.returns-in_err-meta
returns-in_err-meta t c = λ text f a.
    let p = err_from_is_err_and c.from_residual-in_err-meta.result c.from_residual-in_err-meta.ensures.1 in
    let m = c.in_ok-advance.ensures text f a in
    rw (p.1, p.2) (stops_so _ _ _ (λ n. no_lhs_here f n (uncalled_word a c.requires.word m (stands_so c.advance.new.p LParen c.if-stands.false c.stands.ensures))) (c.in_err-meta.ensures text f c.args.p.now a c.requires.word c.cur_start-start.ensures m))

pub parse_member_expression_rest-requires-clause-at : goal.parse_member_expression_rest-requires-clause-at
parse_member_expression_rest-requires-clause-at t c = standing (c.in_ok-meta.ensures _ _ c.args.p.now c.requires.at c.requires.word c.cur_start-start.ensures (c.in_ok-advance.ensures _ _ c.requires.at)).at

pub parse_member_expression_rest-requires-clause-nests : goal.parse_member_expression_rest-requires-clause-nests
parse_member_expression_rest-requires-clause-nests t c = nests_later c.requires.nests (taken_room c.requires.at (c.in_ok-meta.ensures _ _ c.args.p.now c.requires.at c.requires.word c.cur_start-start.ensures (c.in_ok-advance.ensures _ _ c.requires.at)))

pub parse_member_expression_rest-requires-clause-start : goal.parse_member_expression_rest-requires-clause-start
parse_member_expression_rest-requires-clause-start t c =
    let i = (c.in_ok-meta.ensures _ _ c.args.p.now c.requires.at c.requires.word c.cur_start-start.ensures (c.in_ok-advance.ensures _ _ c.requires.at)).further in
    let e = c.cur_start-start.ensures in omega arith

pub returns-in_err-member : goal.returns-in_err-member
returns-in_err-member t c = λ text f a.
    let p = err_from_is_err_and c.from_residual-in_err-member.result c.from_residual-in_err-member.ensures.1 in
    let m = c.in_ok-advance.ensures text f a in
    let x = c.in_ok-meta.ensures text f c.args.p.now a c.requires.word c.cur_start-start.ensures m in
    rw (p.1, p.2) (stops_so _ _ _ (λ n. no_lhs_here f n (uncalled_word a c.requires.word m (stands_so c.advance.new.p LParen c.if-stands.false c.stands.ensures))) (c.in_err-member.ensures text f c.args.p.now c.cur_start-start.ensures x))

pub parse_call_expression_rest-requires-clause-at : goal.parse_call_expression_rest-requires-clause-at
parse_call_expression_rest-requires-clause-at t c =
    let x = c.in_ok-meta.ensures _ _ c.args.p.now c.requires.at c.requires.word c.cur_start-start.ensures (c.in_ok-advance.ensures _ _ c.requires.at) in
    standing (c.in_ok-member.ensures _ _ c.args.p.now c.cur_start-start.ensures x).0.at

pub parse_call_expression_rest-requires-clause-nests : goal.parse_call_expression_rest-requires-clause-nests
parse_call_expression_rest-requires-clause-nests t c =
    let x = c.in_ok-meta.ensures _ _ c.args.p.now c.requires.at c.requires.word c.cur_start-start.ensures (c.in_ok-advance.ensures _ _ c.requires.at) in
    nests_later c.requires.nests (taken_room c.requires.at (c.in_ok-member.ensures _ _ c.args.p.now c.cur_start-start.ensures x).0)

pub parse_call_expression_rest-requires-clause-start : goal.parse_call_expression_rest-requires-clause-start
parse_call_expression_rest-requires-clause-start t c =
    let x = c.in_ok-meta.ensures _ _ c.args.p.now c.requires.at c.requires.word c.cur_start-start.ensures (c.in_ok-advance.ensures _ _ c.requires.at) in
    let i = (c.in_ok-member.ensures _ _ c.args.p.now c.cur_start-start.ensures x).0.further in
    let e = c.cur_start-start.ensures in omega arith

pub returns : goal.returns
returns t c = λ text f a.
    let m = c.in_ok-advance.ensures text f a in
    let x = c.in_ok-member.ensures text f c.args.p.now c.cur_start-start.ensures (c.in_ok-meta.ensures text f c.args.p.now a c.requires.word c.cur_start-start.ensures m) in
    c.parse_call_expression_rest.ensures text f c.args.p.now a c.cur_start-start.ensures (uncalled_word a c.requires.word m (stands_so c.advance.new.p LParen c.if-stands.false c.stands.ensures)) x.0 x.1
