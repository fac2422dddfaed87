use Rattle.std.proofs.Common.{◌∙◌, ap, arith}
use Rattle.laws_primary.specs.laws_shared.Moves.{unpassable}
use Rattle.std.proofs.lemmas.Result.{err_from_is_err_and}
use Rattle.js_base.specs.declared.kind.Kind.TheVariants.{RAngle}
use Rattle.js_base.specs.Kinds.{same_kind}
use Rattle.laws_primary.proofs.laws_shared.Here.{uncut}
use Rattle.laws_primary.proofs.laws_shared.Moving.{standing, stops_behind}
use Rattle.laws_primary.proofs.laws_shared.Nesting.{nested_room, nests_later}
use Rattle.laws_primary.proofs.Spreads.{spread_fails, spread_taken}
use Rattle.laws_primary.proofs.laws_shared.Verdicts.{grown_then}
use Rattle.parse_primary.proofs.arguments.parse_spread_element.Goals as goal

pub advance-requires-clause-whole : goal.advance-requires-clause-whole
advance-requires-clause-whole g c = (uncut c.requires.at (ap (same_kind RAngle) c.requires.sign.0), ap unpassable c.requires.sign.0)

pub assignment_with_in-requires-clause-at : goal.assignment_with_in-requires-clause-at
assignment_with_in-requires-clause-at g c = standing (c.in_ok-advance.ensures _ _ c.requires.at).at

pub assignment_with_in-requires-clause-nests : goal.assignment_with_in-requires-clause-nests
assignment_with_in-requires-clause-nests g c = nests_later c.requires.nests (let r = nested_room c.requires.at (c.in_ok-advance.ensures _ _ c.requires.at) in omega arith)

pub returns-in_err-argument : goal.returns-in_err-argument
returns-in_err-argument g c = λ text f a.
    let p = err_from_is_err_and c.from_residual-in_err-argument.result c.from_residual-in_err-argument.ensures.1 in
    let m = c.in_ok-advance.ensures text f a in
    rw (p.1, p.2) (stops_behind _ _ m.same (λ g. grown_then m.kept g) (λ n. spread_fails a c.requires.sign m n) (c.in_err-argument.ensures text f m.at))

pub end_span-span-requires : goal.end_span-span-requires
end_span-span-requires g c =
    let m = c.in_ok-advance.ensures _ _ c.requires.at in
    let x = (c.in_ok-argument.ensures _ _ m.at).answer in
    let i = m.further in let j = m.at.behind in let k = x.further in let s = c.cur_start-start.ensures in omega arith

pub returns : goal.returns
returns g c = λ text f a.
    let m = c.in_ok-advance.ensures text f a in
    spread_taken a c.requires.sign m (c.in_ok-argument.ensures text f m.at) (c.end_span-span.ensures.start ∙ c.cur_start-start.ensures) c.end_span-span.ensures.end c.in_ok-node.ensures
