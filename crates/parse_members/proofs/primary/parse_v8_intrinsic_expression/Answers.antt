use Rattle.std.proofs.Common.{◌∙◌, sym, ap, arith}
use Rattle.parse_shared.specs.laws_shared.Moves.{unpassable}
use Rattle.std.proofs.lemmas.Result.{err_from_is_err_and}
use Rattle.js_base.specs.declared.kind.Kind.TheVariants.{LParen, RAngle}
use Rattle.js_base.specs.Kinds.{same_kind}
use Rattle.parse_shared.proofs.laws_shared.Giving.{gives_up_here}
use Rattle.parse_shared.proofs.laws_shared.Here.{uncut}
use Rattle.parse_primary.proofs.laws_primary.Intrinsics.{no_v8, v8_same, v8_grown, v8_name_fails, v8_option, v8_outcome, v8_room, v8_start, v8_unopened}
use Rattle.parse_primary.proofs.laws_primary.Members.{stands_so}
use Rattle.parse_shared.proofs.laws_shared.Moving.{standing, stops_behind}
use Rattle.parse_shared.proofs.laws_shared.Nesting.{nests_later}
use Rattle.parse_shared.proofs.laws_shared.Verdicts.{grown_then}
use Rattle.parse_members.proofs.primary.parse_v8_intrinsic_expression.Goals as goal

pub returns-then-not-allows_v8 : goal.returns-then-not-allows_v8
returns-then-not-allows_v8 t c = λ text f a. gives_up_here _ _ c.set_unexpected.result a c.set_unexpected.ensures (no_v8 a c.requires.kind (sym (v8_option a c.allows_v8.ensures) ∙ c.if-not-allows_v8.true))

pub advance-requires-clause-whole : goal.advance-requires-clause-whole
advance-requires-clause-whole t c = (uncut c.requires.at (ap (same_kind RAngle) c.requires.kind), ap unpassable c.requires.kind)

pub parse_identifier_name-requires : goal.parse_identifier_name-requires
parse_identifier_name-requires t c = standing (c.in_ok-advance.ensures _ _ c.requires.at).at

pub returns-in_err-name : goal.returns-in_err-name
returns-in_err-name t c = λ text f a.
    let p = err_from_is_err_and c.from_residual-in_err-name.result c.from_residual-in_err-name.ensures.1 in
    let m = c.in_ok-advance.ensures text f a in
    rw (p.1, p.2) (stops_behind _ _ m.same (λ g. grown_then m.kept g) (λ n. v8_name_fails a c.requires.kind m n) (c.in_err-name.ensures text f m.at))

pub returns-then-not-stands : goal.returns-then-not-stands
returns-then-not-stands t c = λ text f a.
    let m = c.in_ok-advance.ensures text f a in
    let x = c.in_ok-name.ensures text f m.at in
    stops_behind _ c.set_unexpected-then-not-stands.result (v8_same a c.requires.kind m x) (λ g. v8_grown a c.requires.kind m x g) (λ n. n)
    (gives_up_here _ _ c.set_unexpected-then-not-stands.result x.answer.at c.set_unexpected-then-not-stands.ensures (v8_unopened a c.requires.kind m x (stands_so c.parse_identifier_name.new.p LParen c.if-not-stands.true c.stands.ensures)))

pub parse_with_arguments-requires-clause-at : goal.parse_with_arguments-requires-clause-at
parse_with_arguments-requires-clause-at t c = standing (c.in_ok-name.ensures _ _ (c.in_ok-advance.ensures _ _ c.requires.at).at).answer.at

pub parse_with_arguments-requires-clause-nests : goal.parse_with_arguments-requires-clause-nests
parse_with_arguments-requires-clause-nests t c = let m = c.in_ok-advance.ensures _ _ c.requires.at in nests_later c.requires.nests (v8_room c.requires.at c.requires.kind m (c.in_ok-name.ensures _ _ m.at))

pub parse_with_arguments-requires-clause-start : goal.parse_with_arguments-requires-clause-start
parse_with_arguments-requires-clause-start t c = let m = c.in_ok-advance.ensures _ _ c.requires.at in let b = v8_start c.requires.at c.requires.kind m (c.in_ok-name.ensures _ _ m.at) in let s = c.cur_start-start.ensures in omega arith

pub parse_with_arguments-requires-clause-open : goal.parse_with_arguments-requires-clause-open
parse_with_arguments-requires-clause-open t c = (stands_so c.parse_identifier_name.new.p LParen c.if-not-stands.false c.stands.ensures).0

pub returns : goal.returns
returns t c = λ text f a.
    let m = c.in_ok-advance.ensures text f a in
    v8_outcome a c.requires.kind m (c.in_ok-name.ensures text f m.at) _ c.parse_with_arguments.result (sym (v8_option a c.allows_v8.ensures) ∙ c.if-not-allows_v8.false) c.cur_start-start.ensures c.parse_with_arguments.ensures

pub set_unexpected-requires-then-not-stands : goal.set_unexpected-requires-then-not-stands
set_unexpected-requires-then-not-stands t c = (c.in_ok-name.ensures _ _ (c.in_ok-advance.ensures _ _ c.requires.at).at).answer.at.at
