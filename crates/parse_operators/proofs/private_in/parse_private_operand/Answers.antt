use Rattle.std.proofs.Common.{refl, ◌-◌, arith}
use Rattle.std.proofs.lemmas.Result.{err_from_is_err_and}
use Rattle.js_base.specs.declared.diagnostic.DiagnosticKind.TheVariants.{PrivateInPrivate, UnexpectedPrivateIdentifier}
use Rattle.js_base.specs.declared.kind.Kind.TheVariants.{In}
use Rattle.laws_operators.proofs.PrivateOperands.{allowed_at, misplaced_at, no_in_stops, no_shift, private_stops, right_stops}
use Rattle.parse_shared.proofs.laws_shared.Expected.{expected}
use Rattle.parse_shared.proofs.laws_shared.Moving.{standing}
use Rattle.parse_primary.proofs.laws_primary.Members.{private_taken}
use Rattle.parse_operators.proofs.private_in.parse_private_operand.Goals as goal

pub returns-then-not-takes_comparison : goal.returns-then-not-takes_comparison
returns-then-not-takes_comparison g c = λ text f a. private_stops UnexpectedPrivateIdentifier _ _ c.refuse_private_name.result a refl c.refuse_private_name.ensures (misplaced_at a c.requires.private c.args.least c.requires.low c.requires.high c.takes_comparison.ensures c.if-not-takes_comparison.true)

pub expect-requires : goal.expect-requires
expect-requires g c = (private_taken _ _ _ _ _ c.requires.at c.requires.private c.in_ok-name.ensures).answer.at.at

pub returns-in_err-expect : goal.returns-in_err-expect
returns-in_err-expect g c =
    let p = err_from_is_err_and c.from_residual-in_err-expect.result c.from_residual-in_err-expect.ensures.1 in
    let l = c.requires.low in let h = c.requires.high in
    rw (p.1, p.2) (λ text f a. no_in_stops a c.requires.private (private_taken text f _ _ _ a c.requires.private c.in_ok-name.ensures) (c.args.least - 5) (omega arith) _ _ c.in_err-expect.ensures)

pub refuse_private_name-requires-then-at-clause-at : goal.refuse_private_name-requires-then-at-clause-at
refuse_private_name-requires-then-at-clause-at g c =
    let x = private_taken _ _ _ _ _ c.requires.at c.requires.private c.in_ok-name.ensures in
    let i = c.in_ok-expect.ensures in
    standing (expected x.answer.at In i.0 i.1 refl refl).at

pub returns-then-at : goal.returns-then-at
returns-then-at g c = λ text f a.
    let x = private_taken text f _ _ _ a c.requires.private c.in_ok-name.ensures in
    let i = c.in_ok-expect.ensures in
    let d = expected x.answer.at In i.0 i.1 refl refl in
    let k = c.at.ensures.0 c.if-at.true in
    let l = c.requires.low in let h = c.requires.high in
    right_stops a c.requires.private x i.0 d (c.args.least - 5) (omega arith) _ c.refuse_private_name-then-at.result (private_stops PrivateInPrivate _ _ c.refuse_private_name-then-at.result d.at refl c.refuse_private_name-then-at.ensures (no_shift d.at k))

pub returns : goal.returns
returns g c = λ text f a.
    let x = private_taken text f _ _ _ a c.requires.private c.in_ok-name.ensures in
    let i = c.in_ok-expect.ensures in
    let z = allowed_at a c.requires.private c.args.least c.takes_comparison.ensures c.if-not-takes_comparison.false in
    record { loose = z.0; allowed = z.1; behind = c.parse_private_name.new.p; name = x; word = i.0; passed = expected x.answer.at In i.0 i.1 refl refl }
