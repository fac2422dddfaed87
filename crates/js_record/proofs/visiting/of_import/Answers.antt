use Rattle.std.proofs.Common.{[], ◌∷◌, ◌++◌, sym, ap, ◌∙◌}
use Rattle.std.specs.List.{flat_map}
use Rattle.js_grammar.specs.ModuleRecords.{NameSpan}
use Rattle.js_grammar.specs.Modules.{of_import}
use Rattle.js_record.specs.Shown.{import_shown}
use Rattle.js_record.proofs.visiting.of_import.Goals as goal

pub returns-in_default : goal.returns-in_default
returns-in_default c =
    c.syntax.ensures
    ∙ ap (λ o. of_import c.args.statement o (λ r. flat_map (import_shown c.args.tree.now c.args.source.now c.args.statement r) c.args.specifiers.now)) (sym c.in_default.is ∙ c.in_ok-specifier.ensures)

pub returns : goal.returns
returns c =
    let entries = λ (r : NameSpan). flat_map (import_shown c.args.tree.now c.args.source.now c.args.statement r) c.args.specifiers.now in
    let part = c.part.view_is ∙ c.syntax-part.ensures in
    let requests = c.in_ok-push.ensures.items ∙ (λ j. (part j).requests ++ c.in_ok-request.ensures j ∷ []) in
    (λ j. record { is_module_syntax = (part j).is_module_syntax; imports = c.in_ok-imports.ensures j; exports = (part j).exports; requests = requests j; bindings = (part j).bindings; skipped_defaults = (part j).skipped_defaults; metas = (part j).metas; dynamic = (part j).dynamic })
    ∙ ap (λ o. of_import c.args.statement o entries) (sym c.in-Some.is ∙ c.in_ok-specifier.ensures)
