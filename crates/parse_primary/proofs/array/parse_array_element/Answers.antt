use Rattle.std.proofs.Common.{[], refl, ap, arith}
use Rattle.laws_primary.specs.laws_shared.Moves.{unpassable}
use Rattle.std.proofs.lemmas.Result.{err_from_is_err_and}
use Rattle.js_base.specs.declared.kind.Kind.TheVariants.{RAngle, Comma}
use Rattle.js_base.specs.Kinds.{same_kind}
use Rattle.laws_primary.proofs.Arrays.{gap_outcome, item_stops, item_taken, step_stops, step_taken}
use Rattle.laws_primary.proofs.laws_shared.Bracketed.{opened_later}
use Rattle.laws_primary.proofs.laws_shared.Here.{uncut}
use Rattle.laws_primary.proofs.laws_shared.Signs.{stands_not}
use Rattle.laws_primary.proofs.Members.{stands_so}
use Rattle.parse_primary.proofs.array.parse_array_element.Goals as goal

pub parse_leaf-requires-clause-whole : goal.parse_leaf-requires-clause-whole
parse_leaf-requires-clause-whole g c = let s = stands_so c.args.p.now Comma c.if-stands.true c.stands.ensures in (uncut c.requires.at (ap (same_kind RAngle) s.0), ap unpassable s.0)

pub returns-then-stands : goal.returns-then-stands
returns-then-stands g c = gap_outcome _ _ c.parse_leaf.result (stands_so c.args.p.now Comma c.if-stands.true c.stands.ensures).0 c.parse_leaf.ensures

pub returns-in_err-element : goal.returns-in_err-element
returns-in_err-element g c =
    let p = err_from_is_err_and c.from_residual.result c.from_residual.ensures.1 in
    rw (p.1, p.2) (λ text f a. item_stops _ _ a (stands_so c.args.p.now Comma c.if-stands.false c.stands.ensures) c.requires.more (c.in_err-element.ensures text f a))

pub delimited_step-requires-clause-at : goal.delimited_step-requires-clause-at
delimited_step-requires-clause-at g c = (c.in_ok-element.ensures _ _ c.requires.at).at.at

pub delimited_step-requires-clause-opened : goal.delimited_step-requires-clause-opened
delimited_step-requires-clause-opened g c = let x = c.in_ok-element.ensures _ _ c.requires.at in opened_later x.same (let i = x.further in let j = c.requires.at.behind in omega arith) c.requires.opened

pub returns-in_err-delimited_step : goal.returns-in_err-delimited_step
returns-in_err-delimited_step g c =
    let p = err_from_is_err_and c.from_residual-in_err-delimited_step.result c.from_residual-in_err-delimited_step.ensures.1 in
    rw (p.1, p.2) (λ text f a. step_stops _ _ _ (item_taken a (stands_not a refl (stands_so c.args.p.now Comma c.if-stands.false c.stands.ensures)) (stands_not a refl c.requires.more) [] (c.in_ok-element.ensures text f a)) c.in_err-delimited_step.ensures)

pub returns : goal.returns
returns g c = λ text f a ids. step_taken c.args.opening _ (item_taken a (stands_not a refl (stands_so c.args.p.now Comma c.if-stands.false c.stands.ensures)) (stands_not a refl c.requires.more) ids (c.in_ok-element.ensures text f a)) c.in_ok-delimited_step.ensures
