use Rattle.std.proofs.Common.{arith}
use Rattle.std.proofs.lemmas.Result.{err_from_is_err_and}
use Rattle.js_base.specs.declared.kind.Kind.TheVariants.{Dot}
use Rattle.parse_shared.proofs.laws_shared.Moving.{standing}
use Rattle.parse_shared.proofs.laws_shared.NameKinds.{listed_here, name_so, name_whole}
use Rattle.parse_shared.proofs.laws_shared.NodeTexts.{name_word}
use Rattle.parse_primary.proofs.laws_primary.Members.{link_less, next_loop, stands_so, taken_room}
use Rattle.parse_primary.proofs.laws_primary.DecoratorMembers.{names_begun, names_closed, names_linked, names_stops, no_name_stops}
use Rattle.parse_members.proofs.decorator.parse_decorator_member.Goals as goal

pub returns-then-not-name_stands : goal.returns-then-not-name_stands
returns-then-not-name_stands t c = λ text f a. no_name_stops _ c.refuse_form.result a (name_so c.args.p.now c.if-not-name_stands.true c.name_stands.ensures) c.refuse_form.ensures

pub parse_name-requires-clause-whole : goal.parse_name-requires-clause-whole
parse_name-requires-clause-whole t c = name_whole c.requires.at (listed_here c.args.p.now (name_so c.args.p.now c.if-not-name_stands.false c.name_stands.ensures))

pub parse_name-requires-clause-word : goal.parse_name-requires-clause-word
parse_name-requires-clause-word t c = name_word c.args.p.now.token.kind (listed_here c.args.p.now (name_so c.args.p.now c.if-not-name_stands.false c.name_stands.ensures))

pub names-init : goal.names-init
names-init t c =
    let h = name_so c.args.p.now c.if-not-name_stands.false c.name_stands.ensures in
    let x = names_begun c.requires.at h (c.in_ok-left.ensures _ _ c.requires.at) in
    record {
      at = standing x.at;
      before = let j = x.further in let e = c.cur_start-start.ensures in omega arith;
      later = taken_room c.requires.at x;
      goes = (c.cur_start-start.ensures, λ text f a. names_begun a h (c.in_ok-left.ensures text f a));
    }

pub parse_named_link-requires-clause-at : goal.parse_named_link-requires-clause-at
parse_named_link-requires-clause-at t c = c.names.invariant.at

pub parse_named_link-requires-clause-start : goal.parse_named_link-requires-clause-start
parse_named_link-requires-clause-start t c = c.names.invariant.before

pub parse_named_link-requires-clause-sign : goal.parse_named_link-requires-clause-sign
parse_named_link-requires-clause-sign t c = stands_so c.names.p Dot c.names-test.true c.stands.ensures

pub returns-in_err-left-2 : goal.returns-in_err-left-2
returns-in_err-left-2 t c = λ text f a.
    let p = err_from_is_err_and c.from_residual-in_err-left-2.result c.from_residual-in_err-left-2.ensures.1 in
    let z = c.names.invariant.goes.1 text f a in
    rw (p.1, p.2) (names_stops z (stands_so c.names.p Dot c.names-test.true c.stands.ensures) _ _ (c.in_err-left-2.ensures text f z.at))

pub names-smaller : goal.names-smaller
names-smaller t c = link_less c.names.invariant.at (c.in_ok-left-2.ensures _ _ c.names.invariant.at)

pub names-preserved : goal.names-preserved
names-preserved t c = next_loop c.names.invariant c.in_ok-left-2.ensures (c.names.invariant.goes.0, λ text f a. let z = c.names.invariant.goes.1 text f a in names_linked z (stands_so c.names.p Dot c.names-test.true c.stands.ensures) c.names.invariant.goes.0 (c.in_ok-left-2.ensures text f z.at))

pub returns : goal.returns
returns t c = λ text f a. names_closed (c.names.invariant.goes.1 text f a) (stands_so c.names.p Dot c.names-test.false c.stands.ensures)
