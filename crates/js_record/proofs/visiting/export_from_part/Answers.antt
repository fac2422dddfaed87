use Rattle.js_record.specs.Shown.{IsDeep}
use Rattle.js_record.proofs.ShownLemmas.{all_rest, all_first}
use Rattle.js_record.proofs.visiting.export_from_part.Goals as goal

pub of_export_names-requires-clause-target : goal.of_export_names-requires-clause-target
of_export_names-requires-clause-target c =
    let d = all_first (IsDeep c.args.tree.now c.args.source.now) c.children-slots.result.now c.in-Some.target c.in-Some.ensures (rw c.children-slots.ensures c.requires.deep) in
    (d.0, d.1)

pub of_export_names-requires-clause-deep : goal.of_export_names-requires-clause-deep
of_export_names-requires-clause-deep c =
    let P = IsDeep c.args.tree.now c.args.source.now in
    rw (c.rest-specifiers.ensures, c.rest.ensures, c.children-slots.ensures) (all_rest P _ (all_rest P _ c.requires.deep))
