use Rattle.std.proofs.Common.{◌≡◌, ◌≤◌, ◌-◌, ◌++◌, drop, length}
use Rattle.js_record.specs.Walked.{forward}
use Rattle.js_record.proofs.walking.push_slots.Given as goal

-- the children in the slots so far were put there
abbrev pub invariant-loop-i : goal.invariant-loop-i
invariant-loop-i l = record { within : l.i ≤ length l.slots; pushed : l.stack.items ++ forward l.below (drop l.i l.slots) ≡ l.initial.stack.items ++ forward l.below l.slots }

abbrev pub decreases-loop-i : goal.decreases-loop-i
decreases-loop-i l = length l.slots - l.i
