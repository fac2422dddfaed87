use Rattle.std.proofs.Common.{List, Option, subst, sym}
use Rattle.std.proofs.lemmas.Result.{err_from_is_err_and}
use Rattle.laws_modules.specs.laws_primary.js_tree.declared.id.NodeId.{NodeId}
use Rattle.laws_modules.proofs.ImportClauses.{namespace_other, namespace_other_stops}
use Rattle.parse_modules.specs.Prelude.{OthersTaken}
use Rattle.parse_modules.proofs.import_clause.parse_namespace_import.Goals as goal

pub returns-in_err-namespace : goal.returns-in_err-namespace
returns-in_err-namespace g c =
    let z = err_from_is_err_and c.from_residual.result c.from_residual.ensures.1 in
    rw (z.1, z.2) (λ text f a. namespace_other_stops a _ _ c.requires.sign (c.in_err-namespace.ensures text f a))

pub returns : goal.returns
returns g c = subst (λ (js : List (Option NodeId)). OthersTaken c.args.specifiers.items js c.args.p.now c.parse_namespace_specifier.new.p) (sym c.in_ok-push.ensures.items) (λ text f a. namespace_other a c.args.specifiers.items c.requires.sign (c.in_ok-namespace.ensures text f a))
