use Rattle.std.proofs.Common.{◌∙◌, arith}
use Rattle.std.proofs.lemmas.Result.{err_from_is_err_and}
use Rattle.parse_shared.proofs.laws_shared.Moving.{stops_so}
use Rattle.laws_patterns.proofs.Accessors.{kept_so, parameters_marked}
use Rattle.parse_patterns.proofs.method_parameters.parse_told_parameters.Goals as goal

pub returns-in_err-parameters : goal.returns-in_err-parameters
returns-in_err-parameters g c = λ text f a.
    let p = err_from_is_err_and c.from_residual.result c.from_residual.ensures.1 in
    rw (p.1, p.2) (stops_so _ _ _ (λ n. tt) (c.in_err-parameters.ensures text f a))

pub end_span-span-requires : goal.end_span-span-requires
end_span-span-requires g c = let x = (c.in_ok-parameters.ensures _ _ c.requires.at).answer.further in let e = c.cur_start-start.ensures in omega arith

pub error-requires-clause-at : goal.error-requires-clause-at
error-requires-clause-at g c = (c.in_ok-parameters.ensures _ _ c.requires.at).answer.at.at

pub error-requires-clause-mark : goal.error-requires-clause-mark
error-requires-clause-mark g c = parameters_marked c.requires.at c.requires.open (c.in_ok-parameters.ensures _ _ c.requires.at) c.end_span-span.result c.requires.kind c.diagnostic_at.ensures (c.end_span-span.ensures.start ∙ c.cur_start-start.ensures) c.end_span-span.ensures.end

pub returns : goal.returns
returns g c = λ text f a. record { behind = c.parse_formal_parameters.new.p; read = c.in_ok-parameters.ensures text f a; span = c.end_span-span.result; told = kept_so c.end_span-span.result _ _ c.diagnostic_at.ensures c.in_ok-error.ensures }
