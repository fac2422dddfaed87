use Rattle.std.proofs.Common.{ap, subst, ◌∙◌}
use Rattle.js_grammar.specs.ModuleRecords.{Part, record_of_part, errors_of_part}
use Rattle.js_record.specs.Exports.{IsMadeOf}
use Rattle.js_record.proofs.ExportLemmas.{made_right}
use Rattle.js_record.proofs.record.record_of.Goals as goal

pub returns : goal.returns
returns c =
    let p = c.part.inside in
    let e = c.in_ok-entries.entries in
    let u = c.in_ok-uses.uses in
    let given : Part = record { is_module_syntax = p.is_module_syntax; imports = p.imports.items; exports = p.exports.items; requests = p.requests.items; bindings = p.bindings.items; skipped_defaults = p.skipped_defaults.items; metas = p.metas.items; dynamic = p.dynamic.items } in
    c.assembled.ensures ∙ made_right given e.imports u.requested_modules.entries u.import_metas u.dynamic_imports e.exports
    c.in_ok-entries.ensures.imports (subst (λ s. IsMadeOf e.exports e.imports given.exports given.bindings s) c.deref.ensures.value c.in_ok-entries.ensures.exports) c.in_ok-uses.ensures.requested c.in_ok-uses.ensures.metas c.in_ok-uses.ensures.dynamic
    ∙ ap (λ (q : Part). (record_of_part q, errors_of_part q)) c.part.view_is
