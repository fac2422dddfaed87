use Rattle.std.proofs.Common.{◌≡◌, Bool, Ok, refl, arith, subst}
use Rattle.std.proofs.lemmas.Result.{err_from_is_err_and}
use Rattle.laws_primary.specs.laws_shared.Arguments.{FindsDue}
use Rattle.laws_primary.proofs.ArgumentLists.{closing_moved, closing_stops, due_found, item_less, item_stops, loop_item, loop_start, part_due, part_end, rest_stops}
use Rattle.laws_primary.proofs.laws_shared.Nesting.{nests_later}
use Rattle.parse_primary.proofs.arguments.parse_call_arguments.Goals as goal

pub arguments-init : goal.arguments-init
arguments-init g c = loop_start c.args.spreads _ (let e : c.span-opening.result ≡ c.args.p.now.token.span = search in e) c.requires.at c.requires.open c.in_ok-advance.ensures

pub returns-in_err-due : goal.returns-in_err-due
returns-in_err-due g c =
    let p = err_from_is_err_and c.from_residual-in_err-due.result c.from_residual-in_err-due.ensures.1 in
    rw (p.1, p.2) (λ text f a. let x = c.arguments.invariant.goes text f a in rest_stops c.args.spreads c.arguments.first _ _ x (c.in_err-due.ensures text f x.at c.args.spreads))

pub parse_argument-requires-clause-at : goal.parse_argument-requires-clause-at
parse_argument-requires-clause-at g c = (due_found c.arguments.invariant c.in_ok-due.ensures).0

pub parse_argument-requires-clause-nests : goal.parse_argument-requires-clause-nests
parse_argument-requires-clause-nests g c = nests_later c.requires.nests (let z = (due_found c.arguments.invariant c.in_ok-due.ensures).2 in omega arith)

pub returns-in_err-argument : goal.returns-in_err-argument
returns-in_err-argument g c =
    let p = err_from_is_err_and c.from_residual-in_err-argument.result c.from_residual-in_err-argument.ensures.1 in
    let d = subst (λ (b : Bool). FindsDue c.arguments.first c.arguments.p c.argument_due.new.p (Ok b)) c.if-not-due.false c.in_ok-due.ensures in
    rw (p.1, p.2) (λ text f a. let x = c.arguments.invariant.goes text f a in let u = part_due c.args.spreads x (d text f x.at) in item_stops c.args.spreads _ _ u (c.in_err-argument.ensures text f u.at))

pub arguments-smaller : goal.arguments-smaller
arguments-smaller g c = item_less c.arguments.invariant c.in_ok-due.ensures c.in_ok-argument.ensures

pub arguments-preserved : goal.arguments-preserved
arguments-preserved g c =
    let d = subst (λ (b : Bool). FindsDue c.arguments.first c.arguments.p c.argument_due.new.p (Ok b)) c.if-not-due.false c.in_ok-due.ensures in
    loop_item c.arguments.invariant d c.in_ok-argument.ensures c.in_ok-push.ensures.items

pub expect_closing-requires-clause-at : goal.expect_closing-requires-clause-at
expect_closing-requires-clause-at g c = (due_found c.arguments.invariant c.in_ok-due.ensures).0.at

pub expect_closing-requires-clause-opened : goal.expect_closing-requires-clause-opened
expect_closing-requires-clause-opened g c = (due_found c.arguments.invariant c.in_ok-due.ensures).1

pub returns-in_err-expect_closing : goal.returns-in_err-expect_closing
returns-in_err-expect_closing g c =
    let p = err_from_is_err_and c.from_residual-in_err-expect_closing.result c.from_residual-in_err-expect_closing.ensures.1 in
    rw (p.1, p.2) (λ text f a. closing_stops _ _ _ _ _ _ ((c.in_ok-due.ensures text f (c.arguments.invariant.goes text f a).at).closes c.if-not-due.true) c.in_err-expect_closing.ensures)

pub returns : goal.returns
returns g c = λ text f a.
    let d = subst (λ (b : Bool). FindsDue c.arguments.first c.arguments.p c.argument_due.new.p (Ok b)) c.if-not-due.true c.in_ok-due.ensures in
    let x = c.arguments.invariant.goes text f a in
    let u = part_due c.args.spreads x (d text f x.at) in
    let k = (d text f x.at).closes refl in
    part_end c.args.spreads u k (closing_moved u.at k c.in_ok-expect_closing.ensures.1)
