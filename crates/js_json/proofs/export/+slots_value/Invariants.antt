use Rattle.std.proofs.Common.{◌*◌}
use Rattle.js_json.proofs.Values.{Made}
use Rattle.js_json.proofs.export.+slots_value.Given as goal

abbrev pub decreases-slots_value : goal.decreases-slots_value
decreases-slots_value l = l.levels

abbrev pub invariant-loop-slot : goal.invariant-loop-slot
invariant-loop-slot l = Made l.source l.tree l.slots l.slot-index l.values.items (2 * l.levels)
