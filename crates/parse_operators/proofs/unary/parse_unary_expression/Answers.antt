use Rattle.std.proofs.Common.{◌∙◌, refl, arith}
use Rattle.std.proofs.lemmas.Result.{err_from_is_err_and}
use Rattle.parse_shared.proofs.laws_shared.Moving.{standing, stops_behind}
use Rattle.parse_shared.proofs.laws_shared.Nesting.{nested_room}
use Rattle.parse_shared.proofs.laws_shared.Signs.{whole_sign}
use Rattle.parse_shared.proofs.laws_shared.Verdicts.{grown_then}
use Rattle.parse_primary.proofs.laws_primary.Operands.{row_here, unary_passable, unary_outcome, unary_fails}
use Rattle.parse_operators.proofs.unary.parse_unary_expression.Goals as goal

pub unary-requires : goal.unary-requires
unary-requires t c = let m = c.in_ok-advance.ensures _ _ c.requires.at in c.requires.nests _ _ (standing m.at) (nested_room c.requires.at m)

pub returns-in_err-argument : goal.returns-in_err-argument
returns-in_err-argument t c = λ text f a.
    let p = err_from_is_err_and c.from_residual-in_err-argument.result c.from_residual-in_err-argument.ensures.1 in
    let m = c.in_ok-advance.ensures text f a in
    rw (p.1, p.2) (stops_behind _ _ m.same (λ g. grown_then m.kept g) (unary_fails text f _ c.requires.operator _ _ a refl c.requires.plain m) (c.in_err-argument.ensures text f m.at))

pub end_span-span-requires : goal.end_span-span-requires
end_span-span-requires t c =
    let m = c.in_ok-advance.ensures _ _ c.requires.at in
    let x = (c.in_ok-argument.ensures _ _ m.at).answer in
    let a = m.further in let b = x.further in let d = m.at.behind in let s = c.cur_start-start.ensures in omega arith

pub returns : goal.returns
returns t c = λ text f a.
    let m = c.in_ok-advance.ensures text f a in
    unary_outcome _ _ c.requires.operator (row_here c.cur_kind.ensures c.map_unary_operator-operator.ensures.row) a c.requires.plain m (c.in_ok-argument.ensures text f m.at) (c.end_span-span.ensures.start ∙ c.cur_start-start.ensures) c.end_span-span.ensures.end c.in_ok-node.ensures

pub advance-requires-clause-whole : goal.advance-requires-clause-whole
advance-requires-clause-whole t c = let u = unary_passable _ c.requires.operator in whole_sign _ c.requires.at refl u.0 u.1
