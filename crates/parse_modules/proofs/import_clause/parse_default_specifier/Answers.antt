use Rattle.std.proofs.Common.{arith, ◌∙◌}
use Rattle.std.proofs.lemmas.Result.{err_from_is_err_and}
use Rattle.laws_modules.proofs.ImportClauses.{default_answers, default_stops}
use Rattle.parse_modules.proofs.import_clause.parse_default_specifier.Goals as goal

pub returns-in_err-local : goal.returns-in_err-local
returns-in_err-local g c =
    let z = err_from_is_err_and c.from_residual.result c.from_residual.ensures.1 in
    rw (z.1, z.2) (λ text f a. default_stops text f _ _ _ (c.in_err-local.ensures text f a))

pub end_span-span-requires : goal.end_span-span-requires
end_span-span-requires g c =
    let x = c.in_ok-local.ensures _ _ c.requires in
    let i = x.further in let j = c.cur_start-start.ensures in omega arith

pub returns : goal.returns
returns g c = λ text f a. default_answers a (c.in_ok-local.ensures text f a) c.end_span-span.result (c.end_span-span.ensures.start ∙ c.cur_start-start.ensures) c.end_span-span.ensures.end c.in_ok-node.ensures
