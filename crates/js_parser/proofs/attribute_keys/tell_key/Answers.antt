use Rattle.std.proofs.Common.{List, ap, append-nil, sym, ◌++◌, ◌∙◌}
use Rattle.js_base.specs.declared.diagnostic.Diagnostic.{Diagnostic}
use Rattle.js_tree.specs.Nodes.{label, node_at}
use Rattle.js_parser.proofs.ClauseKeys.{told_by, told_with, valueless_told}
use Rattle.js_parser.proofs.attribute_keys.tell_key.Goals as goal

pub returns-in_default-clause-told : goal.returns-in_default-clause-told
returns-in_default-clause-told c before last =
    let k = label (node_at c.args.tree.now c.args.key) in
    sym (ap (λ (v : List Diagnostic). c.args.told.now ++ v) (valueless_told c.args.source.now c.args.last.now.entries before last k (sym c.in_ok-value.ensures ∙ c.in_default.is)) ∙ append-nil c.args.told.now)

pub returns-in_default-2-clause-told : goal.returns-in_default-2-clause-told
returns-in_default-2-clause-told c before last =
    let k = label (node_at c.args.tree.now c.args.key) in
    sym (ap (λ (v : List Diagnostic). c.args.told.now ++ v) (told_by c.args.source.now c.args.last.now.entries before last k c.in-Some.value (sym c.in_ok-value.ensures ∙ c.in-Some.is) c.in_ok-first.field-0 c.in_ok-first.ensures.old ∙ ap (told_with k) c.in_default-2.is) ∙ append-nil c.args.told.now)
