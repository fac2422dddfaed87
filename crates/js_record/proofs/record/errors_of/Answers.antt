use Rattle.std.proofs.Common.{ap, subst, ◌∙◌}
use Rattle.js_grammar.specs.ModuleRecords.{Part, errors_of_part}
use Rattle.js_record.specs.Exports.{IsMadeOf}
use Rattle.js_record.proofs.ExportLemmas.{errors_right}
use Rattle.js_record.proofs.record.errors_of.Goals as goal

pub returns : goal.returns
returns c =
    let p = c.part.inside in
    let e = c.in_ok-entries.entries in
    let given : Part = record { is_module_syntax = p.is_module_syntax; imports = p.imports.items; exports = p.exports.items; requests = p.requests.items; bindings = p.bindings.items; skipped_defaults = p.skipped_defaults.items; metas = p.metas.items; dynamic = p.dynamic.items } in
    errors_right given e.imports e.exports c.in_ok-entries.ensures.imports (subst (λ s. IsMadeOf e.exports e.imports given.exports given.bindings s) c.deref.ensures.value c.in_ok-entries.ensures.exports)
    ∙ ap errors_of_part c.part.view_is
