use Rattle.std.proofs.Common.{◌≡◌, [], ◌∷◌, sym, subst, ◌∙◌}
use Rattle.std.specs.Prelude.{IfOk}
use Rattle.js_grammar.specs.ModuleRecords.{NameSpan}
use Rattle.js_grammar.specs.Modules.{of_export_from, star_entry}
use Rattle.js_record.proofs.visiting.of_export_all.Goals as goal

pub returns-in_default : goal.returns-in_default
returns-in_default c =
    let entries = λ (r : NameSpan). star_entry c.args.statement r c.args.names.items ∷ [] in
    subst (λ o. IfOk c.of_names.result (λ p. p ≡ of_export_from c.args.statement o entries c.args.names.items)) (sym c.in_default.is ∙ c.in_ok-specifier.ensures) c.of_names.ensures
