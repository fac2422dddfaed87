use Rattle.js_record.specs.Shown.{IsNear}
use Rattle.js_record.proofs.ShownLemmas.{all_rest, all_first}
use Rattle.js_record.proofs.visiting.export_all_part.Goals as goal

pub of_export_all-requires : goal.of_export_all-requires
of_export_all-requires c =
    let P = IsNear c.args.tree.now c.args.source.now in
    record { target = all_first P c.rest.result.now c.in-Some.target c.in-Some.ensures (rw (c.rest.ensures, c.children-slots.ensures) (all_rest P _ c.requires.near)) }
