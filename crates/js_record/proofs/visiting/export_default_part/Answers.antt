use Rattle.js_record.specs.Shown.{IsDeep}
use Rattle.js_record.proofs.ShownLemmas.{all_first}
use Rattle.js_record.proofs.visiting.export_default_part.Goals as goal

pub of_export_default-requires : goal.of_export_default-requires
of_export_default-requires c = all_first (IsDeep c.args.tree.now c.args.source.now) c.children.result.now c.in-Some.child c.in-Some.ensures (rw c.children.ensures c.requires.deep)
