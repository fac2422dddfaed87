use Rattle.std.proofs.Common.{[], ◌∷◌, ◌++◌, ◌<◌, length, get_or, subst, ap, ◌∙◌}
use Rattle.js_grammar.specs.Modules.{declared_entry}
use Rattle.js_record.proofs.RecordLemmas.{mapped_more}
use Rattle.js_record.proofs.visiting.declared_entries.Goals as goal

pub loop-name-preserved : goal.loop-name-preserved
loop-name-preserved c =
    let i = c.loop-name.name-index in
    let x = c.name-item.result in
    let old = c.loop-name.entries.items in
    let same = c.deref-name-items.ensures.value in
    mapped_more (declared_entry c.args.statement c.args.declaration) c.args.names.now.items i x old c.push.new.self.items (subst (λ v. i < length v) same c.loop-name-test.true) (c.name-item.is ∙ ap (λ v. get_or v i x) same) c.loop-name.invariant
    (c.in_ok-push.ensures.items ∙ ap (λ v. old ++ v ∷ []) c.in_ok-declared_entry.ensures)
