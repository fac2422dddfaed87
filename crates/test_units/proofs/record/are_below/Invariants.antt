use Rattle.std.proofs.Common.{ℕ, ◌<◌, None, get_or}
use Rattle.js_record.specs.Checked.{IsUnder}
use Rattle.test_units.proofs.record.are_below.Given as goal

-- those of the slots so far
abbrev pub invariant-loop-slot : goal.invariant-loop-slot
invariant-loop-slot l = (k : ℕ) → k < l.slot-index → IsUnder l.id.0 (get_or l.slots k None)
