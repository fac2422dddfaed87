use Rattle.std.proofs.Common.{◌<◌, ◌≤◌, ℕ, get_or, length}
use Rattle.js_record.specs.Walked.{end_at, none}
use Rattle.js_record.proofs.walking.place_of.Given as goal

-- those behind end before it
abbrev pub invariant-loop-at : goal.invariant-loop-at
invariant-loop-at l = record { within : l.at ≤ length l.found.items; behind : (i : ℕ) → l.at ≤ i → i < length l.found.items → end_at l.tree (get_or l.found.items i none) < l.end }

abbrev pub decreases-loop-at : goal.decreases-loop-at
decreases-loop-at l = l.at
