use Rattle.std.proofs.Common.{arith, ◌∙◌}
use Rattle.std.proofs.lemmas.Result.{err_from_is_err_and}
use Rattle.laws_primary.proofs.laws_shared.Moving.{stops_so}
use Rattle.laws_primary.proofs.PropertyLists.{no_object, object_answers}
use Rattle.parse_primary.proofs.object.parse_object_expression.Goals as goal

pub returns-in_err-properties : goal.returns-in_err-properties
returns-in_err-properties g c = λ text f a.
    let p = err_from_is_err_and c.from_residual.result c.from_residual.ensures.1 in
    rw (p.1, p.2) (stops_so _ _ _ (λ n. no_object a c.requires.open n) (c.in_err-properties.ensures text f a))

pub end_span-span-requires : goal.end_span-span-requires
end_span-span-requires g c = let i = (c.in_ok-properties.ensures _ _ c.requires.at).further in let s = c.cur_start-start.ensures in omega arith

pub returns : goal.returns
returns g c = λ text f a. object_answers a c.requires.open c.in_ok-properties.ensures (c.end_span-span.ensures.start ∙ c.cur_start-start.ensures) c.end_span-span.ensures.end c.in_ok-node.ensures
