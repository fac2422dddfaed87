use Rattle.js_record.specs.Shown.{IsNear}
use Rattle.js_record.proofs.ShownLemmas.{all_rest}
use Rattle.js_record.proofs.reading.second_name.Goals as goal

pub first_name-requires : goal.first_name-requires
first_name-requires c = rw c.rest.ensures (all_rest (IsNear c.args.tree.now c.args.source.now) c.args.slots.now c.requires)
