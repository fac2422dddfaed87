use Rattle.std.proofs.Common.{arith, refl}
use Rattle.std.proofs.lemmas.Result.{err_from_is_err_and}
use Rattle.js_base.specs.declared.kind.Kind.TheVariants.{In, Of, Semicolon}
use Rattle.parse_primary.proofs.laws_primary.Members.{stands_so}
use Rattle.parse_shared.proofs.laws_shared.Moving.{standing}
use Rattle.parse_shared.proofs.laws_shared.Nesting.{later_room, nested_room, nests_later}
use Rattle.parse_shared.proofs.laws_shared.Expected.{expected}
use Rattle.laws_statements.proofs.ForHeads.{in_stops, in_taken, of_stops, of_taken, second_stops, semicolon_missing, semicolons_taken, test_stops, update_stops}
use Rattle.laws_statements.proofs.WordStatements.{word_here}
use Rattle.parse_control.proofs.for_statement.parse_head_rest.Goals as goal

pub advance-requires-clause-whole : goal.advance-requires-clause-whole
advance-requires-clause-whole g c = word_here In c.requires.at (stands_so c.args.p.now In c.if-stands.true c.stands.ensures) refl

pub expression-requires : goal.expression-requires
expression-requires g c = let m = c.in_ok-advance.ensures _ _ c.requires.at in c.requires.nests _ _ (standing m.at) (nested_room c.requires.at m)

pub returns-in_err-right : goal.returns-in_err-right
returns-in_err-right g c =
    let p = err_from_is_err_and c.from_residual-in_err-right.result c.from_residual-in_err-right.ensures.1 in
    rw (p.1, p.2) (λ text f a. let m = c.in_ok-advance.ensures text f a in in_stops a m (stands_so c.args.p.now In c.if-stands.true c.stands.ensures) _ _ (c.in_err-right.ensures text f m.at))

pub returns-then-stands : goal.returns-then-stands
returns-then-stands g c = λ text f a.
    let m = c.in_ok-advance.ensures text f a in
    in_taken a m c.in_ok-push.ensures.items (stands_so c.args.p.now In c.if-stands.true c.stands.ensures) (c.in_ok-right.ensures text f m.at)

pub assignment-requires : goal.assignment-requires
assignment-requires g c = let m = c.in_ok-advance-2.ensures _ _ c.requires.at in c.requires.nests _ _ (standing m.at) (nested_room c.requires.at m)

pub returns-in_err-right-2 : goal.returns-in_err-right-2
returns-in_err-right-2 g c =
    let p = err_from_is_err_and c.from_residual-in_err-right-2.result c.from_residual-in_err-right-2.ensures.1 in
    rw (p.1, p.2) (λ text f a. let m = c.in_ok-advance-2.ensures text f a in of_stops a m (stands_so c.args.p.now Of c.if-stands-2.true c.stands-2.ensures) _ _ (c.in_err-right-2.ensures text f m.at))

pub returns-then-stands-2 : goal.returns-then-stands-2
returns-then-stands-2 g c = λ text f a.
    let m = c.in_ok-advance-2.ensures text f a in
    of_taken a m c.in_ok-push-2.ensures.items (stands_so c.args.p.now Of c.if-stands-2.true c.stands-2.ensures) (c.in_ok-right-2.ensures text f m.at)

pub returns-in_err-expect : goal.returns-in_err-expect
returns-in_err-expect g c =
    let p = err_from_is_err_and c.from_residual-in_err-expect.result c.from_residual-in_err-expect.ensures.1 in
    rw (p.1, p.2) (λ text f a. semicolon_missing a _ _ (stands_so c.args.p.now In c.if-stands.false c.stands.ensures) (stands_so c.args.p.now Of c.if-stands-2.false c.stands-2.ensures) c.in_err-expect.ensures)

pub parse_part_before-requires-clause-at : goal.parse_part_before-requires-clause-at
parse_part_before-requires-clause-at g c = let i = c.in_ok-expect.ensures in standing (expected c.requires.at Semicolon i.0 i.1 refl refl).at

pub parse_part_before-requires-clause-nests : goal.parse_part_before-requires-clause-nests
parse_part_before-requires-clause-nests g c = let i = c.in_ok-expect.ensures in nests_later c.requires.nests (let r = nested_room c.requires.at (expected c.requires.at Semicolon i.0 i.1 refl refl) in omega arith)

pub returns-in_err-test : goal.returns-in_err-test
returns-in_err-test g c =
    let p = err_from_is_err_and c.from_residual-in_err-test.result c.from_residual-in_err-test.ensures.1 in
    let i = c.in_ok-expect.ensures in
    rw (p.1, p.2) (λ text f a. let m = expected a Semicolon i.0 i.1 refl refl in test_stops a m i.0 _ _ (c.in_err-test.ensures text f m.at))

pub expect-requires-2 : goal.expect-requires-2
expect-requires-2 g c =
    let i = c.in_ok-expect.ensures in
    (c.in_ok-test.ensures _ _ (expected c.requires.at Semicolon i.0 i.1 refl refl).at).at.at

pub returns-in_err-expect-2 : goal.returns-in_err-expect-2
returns-in_err-expect-2 g c =
    let p = err_from_is_err_and c.from_residual-in_err-expect-2.result c.from_residual-in_err-expect-2.ensures.1 in
    let i = c.in_ok-expect.ensures in
    rw (p.1, p.2) (λ text f a.
    let m = expected a Semicolon i.0 i.1 refl refl in
    second_stops a m i.0 (c.in_ok-test.ensures text f m.at) _ _ c.in_err-expect-2.ensures)

pub parse_part_before-requires-2-clause-at : goal.parse_part_before-requires-2-clause-at
parse_part_before-requires-2-clause-at g c =
    let i = c.in_ok-expect.ensures in
    let j = c.in_ok-expect-2.ensures in
    let t = c.in_ok-test.ensures _ _ (expected c.requires.at Semicolon i.0 i.1 refl refl).at in
    standing (expected t.at Semicolon j.0 j.1 refl refl).at

pub parse_part_before-requires-2-clause-nests : goal.parse_part_before-requires-2-clause-nests
parse_part_before-requires-2-clause-nests g c =
    let i = c.in_ok-expect.ensures in
    let j = c.in_ok-expect-2.ensures in
    let m = expected c.requires.at Semicolon i.0 i.1 refl refl in
    let t = c.in_ok-test.ensures _ _ m.at in
    nests_later c.requires.nests (let r = nested_room c.requires.at m in let s = later_room t.forward t.same in let u = nested_room t.at (expected t.at Semicolon j.0 j.1 refl refl) in omega arith)

pub returns-in_err-update : goal.returns-in_err-update
returns-in_err-update g c =
    let p = err_from_is_err_and c.from_residual-in_err-update.result c.from_residual-in_err-update.ensures.1 in
    let i = c.in_ok-expect.ensures in
    let j = c.in_ok-expect-2.ensures in
    rw (p.1, p.2) (λ text f a.
    let m = expected a Semicolon i.0 i.1 refl refl in
    let t = c.in_ok-test.ensures text f m.at in
    let o = expected t.at Semicolon j.0 j.1 refl refl in
    update_stops a m i.0 t j.0 o _ _ (c.in_err-update.ensures text f o.at))

pub returns : goal.returns
returns g c = λ text f a.
    let i = c.in_ok-expect.ensures in
    let j = c.in_ok-expect-2.ensures in
    let m = expected a Semicolon i.0 i.1 refl refl in
    let t = c.in_ok-test.ensures text f m.at in
    let o = expected t.at Semicolon j.0 j.1 refl refl in
    semicolons_taken a m i.0 t j.0 o (c.in_ok-update.ensures text f o.at) c.in_ok-push-3.ensures.items c.in_ok-push-4.ensures.items
