use Rattle.std.proofs.Common.{ap, refl, arith, ◌∙◌}
use Rattle.std.proofs.lemmas.Result.{err_from_is_err_and}
use Rattle.js_base.specs.declared.kind.Kind.TheVariants.{RAngle}
use Rattle.js_base.specs.Kinds.{same_kind}
use Rattle.parse_shared.specs.laws_shared.Moves.{unpassable}
use Rattle.parse_shared.proofs.laws_shared.Giving.{memory_stops}
use Rattle.parse_shared.proofs.laws_shared.Here.{uncut}
use Rattle.parse_shared.proofs.laws_shared.Moving.{same_both, standing, stops_behind}
use Rattle.parse_shared.proofs.laws_shared.Nesting.{nested_room}
use Rattle.parse_shared.proofs.laws_shared.Verdicts.{grown_then}
use Rattle.laws_operators.proofs.HeadOperands.{made_no_target}
use Rattle.laws_operators.proofs.Yields.{delegate_answers, delegate_none}
use Rattle.parse_operators.proofs.yield_expression.parse_delegate.Goals as goal

pub advance-requires-clause-whole : goal.advance-requires-clause-whole
advance-requires-clause-whole g c = (uncut c.requires.at (ap (same_kind RAngle) c.requires.star), ap unpassable c.requires.star)

pub returns-in_err-advance-clause-answers : goal.returns-in_err-advance-clause-answers
returns-in_err-advance-clause-answers g c = λ text f first a y m w s. let p = err_from_is_err_and c.from_residual.result c.from_residual.ensures.1 in rw (p.1, p.2) (memory_stops _ _ _ _ c.in_err-advance.ensures)

pub assignment-requires : goal.assignment-requires
assignment-requires g c = let m = c.in_ok-advance.ensures _ _ c.requires.at in c.requires.nests _ _ (standing m.at) (nested_room c.requires.at m)

pub returns-in_err-argument-clause-answers : goal.returns-in_err-argument-clause-answers
returns-in_err-argument-clause-answers g c = λ text f first a y m w s.
    let p = err_from_is_err_and c.from_residual-in_err-argument.result c.from_residual-in_err-argument.ensures.1 in
    let d = c.in_ok-advance.ensures text f m.at in
    rw (p.1, p.2) (stops_behind _ _ (same_both m.same d.same) (λ g. grown_then m.kept (grown_then d.kept g)) (delegate_none a y m w c.requires.star d) (c.in_err-argument.ensures text f d.at))

pub end_span-span-requires : goal.end_span-span-requires
end_span-span-requires g c =
    let d = c.in_ok-advance.ensures _ _ c.requires.at in
    let x = (c.in_ok-argument.ensures _ _ d.at).answer in
    let a = d.further in let b = x.further in let e = d.at.behind in let h = c.requires.at.behind in let s = c.requires.start in omega arith

pub returns-clause-answers : goal.returns-clause-answers
returns-clause-answers g c = λ text f first a y m w s.
    let d = c.in_ok-advance.ensures text f m.at in
    delegate_answers a y m w c.requires.star d _ (c.in_ok-argument.ensures text f d.at) (c.end_span-span.ensures.start ∙ s) c.end_span-span.ensures.end c.in_ok-node.ensures

pub returns-in_err-node-clause-answers : goal.returns-in_err-node-clause-answers
returns-in_err-node-clause-answers g c = λ text f first a y m w s. let p = err_from_is_err_and c.from_residual-in_err-node.result c.from_residual-in_err-node.ensures.1 in rw (p.1, p.2) tt

pub returns-clause-node : goal.returns-clause-node
returns-clause-node g c = made_no_target refl (λ cs. refl) c.in_ok-node.ensures
