use Rattle.std.proofs.Common.{◌≡◌, [], None, sym, subst, ◌∙◌}
use Rattle.std.specs.Prelude.{IfOk}
use Rattle.std.specs.List.{flat_map}
use Rattle.js_grammar.specs.ModuleRecords.{NameSpan}
use Rattle.js_grammar.specs.Modules.{of_export_from}
use Rattle.js_record.specs.Shown.{from_shown, name_shown}
use Rattle.js_record.proofs.visiting.of_export_names.Goals as goal

pub returns-in_default : goal.returns-in_default
returns-in_default c =
    let entries = λ (r : NameSpan). flat_map (from_shown c.args.tree.now c.args.source.now c.args.statement r) c.args.specifiers.now in
    subst (λ o. IfOk c.of_names.result (λ p. p ≡ of_export_from c.args.statement o entries (flat_map (name_shown c.args.tree.now c.args.source.now) c.args.specifiers.now))) (sym c.in_default.is ∙ c.in_ok-specifier.ensures)
    (subst (λ ns. IfOk c.of_names.result (λ p. p ≡ of_export_from c.args.statement None (λ _. []) ns)) c.in_ok-bindings.ensures c.of_names.ensures)
