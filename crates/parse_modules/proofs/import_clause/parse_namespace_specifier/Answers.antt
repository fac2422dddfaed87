use Rattle.std.proofs.Common.{arith, ◌∙◌}
use Rattle.std.proofs.lemmas.Result.{err_from_is_err_and}
use Rattle.laws_modules.proofs.laws_primary.laws_shared.Moving.{standing}
use Rattle.laws_modules.proofs.ImportClauses.{as_moved, namespace_answers, namespace_start, namespace_stops, no_as}
use Rattle.parse_modules.proofs.import_clause.parse_namespace_specifier.Goals as goal

pub expect-requires : goal.expect-requires
expect-requires g c = (c.in_ok-advance.ensures _ _ c.requires.at).at.at

pub returns-in_err-expect : goal.returns-in_err-expect
returns-in_err-expect g c =
    let z = err_from_is_err_and c.from_residual-in_err-expect.result c.from_residual-in_err-expect.ensures.1 in
    rw (z.1, z.2) (λ text f a. no_as a c.requires.sign (c.in_ok-advance.ensures text f a) _ _ c.in_err-expect.ensures)

pub parse_imported_binding-requires : goal.parse_imported_binding-requires
parse_imported_binding-requires g c = standing (as_moved c.requires.at c.requires.sign (c.in_ok-advance.ensures _ _ c.requires.at) c.in_ok-expect.ensures).at

pub returns-in_err-local : goal.returns-in_err-local
returns-in_err-local g c =
    let z = err_from_is_err_and c.from_residual-in_err-local.result c.from_residual-in_err-local.ensures.1 in
    rw (z.1, z.2) (λ text f a. let m = c.in_ok-advance.ensures text f a in namespace_stops a c.requires.sign m c.in_ok-expect.ensures _ _ (c.in_err-local.ensures text f (as_moved a c.requires.sign m c.in_ok-expect.ensures).at))

pub end_span-span-requires : goal.end_span-span-requires
end_span-span-requires g c =
    let m = c.in_ok-advance.ensures _ _ c.requires.at in
    let i = namespace_start c.requires.at c.requires.sign m c.in_ok-expect.ensures (c.in_ok-local.ensures _ _ (as_moved c.requires.at c.requires.sign m c.in_ok-expect.ensures).at) in
    let j = c.cur_start-start.ensures in
    omega arith

pub returns : goal.returns
returns g c = λ text f a. let m = c.in_ok-advance.ensures text f a in namespace_answers a c.requires.sign m c.in_ok-expect.ensures (c.in_ok-local.ensures text f (as_moved a c.requires.sign m c.in_ok-expect.ensures).at) c.end_span-span.result (c.end_span-span.ensures.start ∙ c.cur_start-start.ensures) c.end_span-span.ensures.end c.in_ok-node.ensures
