use Rattle.std.proofs.Common.{◌∙◌, arith}
use Rattle.std.proofs.lemmas.Result.{err_from_is_err_and}
use Rattle.laws_patterns.proofs.Bindings.{no_rest_parameter, rest_parameter}
use Rattle.parse_shared.proofs.laws_shared.Moving.{stops_so}
use Rattle.parse_patterns.proofs.parameters.parse_rest_parameter.Goals as goal

pub returns-in_err-rest : goal.returns-in_err-rest
returns-in_err-rest g c = λ text f a.
    let p = err_from_is_err_and c.from_residual.result c.from_residual.ensures.1 in
    rw (p.1, p.2) (stops_so _ _ _ (λ n. no_rest_parameter f n) (c.in_err-rest.ensures text f a))

pub end_span-span-requires : goal.end_span-span-requires
end_span-span-requires g c = let x = (c.in_ok-rest.ensures _ _ c.requires.at).further in let s = c.cur_start-start.ensures in omega arith

pub returns : goal.returns
returns g c = λ text f a. rest_parameter _ a (c.in_ok-rest.ensures text f a) (c.end_span-span.ensures.start ∙ c.cur_start-start.ensures) c.end_span-span.ensures.end c.in_ok-node.ensures
