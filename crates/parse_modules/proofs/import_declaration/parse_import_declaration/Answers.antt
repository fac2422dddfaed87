use Rattle.std.proofs.Common.{arith}
use Rattle.std.proofs.lemmas.Result.{err_from_is_err_and}
use Rattle.laws_modules.proofs.laws_primary.laws_shared.Moving.{standing}
use Rattle.laws_modules.proofs.laws_primary.DecoratedNodes.{made_kind}
use Rattle.laws_modules.proofs.ImportDeclarations.{import_answers, import_missing, import_moved, imports_at, imports_end, imports_source_stops, imports_start}
use Rattle.parse_modules.proofs.import_declaration.parse_import_declaration.Goals as goal

pub returns-in_err-expect-clause-answer : goal.returns-in_err-expect-clause-answer
returns-in_err-expect-clause-answer g c =
    let z = err_from_is_err_and c.from_residual.result c.from_residual.ensures.1 in
    rw (z.1, z.2) (λ text f a. import_missing _ _ a c.in_err-expect.ensures)

pub parse_imports-requires : goal.parse_imports-requires
parse_imports-requires g c = standing (import_moved c.requires c.in_ok-expect.ensures).at

pub returns-in_err-specifiers-clause-answer : goal.returns-in_err-specifiers-clause-answer
returns-in_err-specifiers-clause-answer g c =
    let z = err_from_is_err_and c.from_residual-in_err-specifiers.result c.from_residual-in_err-specifiers.ensures.1 in
    rw (z.1, z.2) (λ text f a. imports_end a c.in_ok-expect.ensures _ _ c.in_err-specifiers.ensures)

pub parse_source-requires : goal.parse_source-requires
parse_source-requires g c = standing (imports_at c.requires c.in_ok-expect.ensures c.in_ok-specifiers.ensures)

pub returns-in_err-source-clause-answer : goal.returns-in_err-source-clause-answer
returns-in_err-source-clause-answer g c =
    let z = err_from_is_err_and c.from_residual-in_err-source.result c.from_residual-in_err-source.ensures.1 in
    rw (z.1, z.2) (λ text f a. imports_source_stops a c.in_ok-expect.ensures _ _ c.in_ok-specifiers.ensures (λ h b. c.in_err-source.ensures text h b))

pub make_import-requires : goal.make_import-requires
make_import-requires g c =
    let i = imports_start c.requires c.in_ok-expect.ensures c.in_ok-specifiers.ensures c.in_ok-source.ensures in
    let j = c.cur_start-start.ensures in
    record { before = omega arith }

pub returns-clause-answer : goal.returns-clause-answer
returns-clause-answer g c = λ text f a. import_answers a c.in_ok-expect.ensures _ c.at-bare.ensures c.cur_start-start.ensures c.in_ok-specifiers.ensures c.in_ok-source.ensures c.in_ok-node.ensures

pub returns-clause-kind : goal.returns-clause-kind
returns-clause-kind g c = made_kind c.in_ok-node.ensures
