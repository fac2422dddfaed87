use Rattle.std.proofs.Common.{ℕ, ◌<◌}
use Rattle.js_record.specs.Checked.{IsSound}
use Rattle.test_units.proofs.record.are_read.Given as goal

-- the nodes so far
abbrev pub invariant-loop-i : goal.invariant-loop-i
invariant-loop-i l = (n : ℕ) → n < l.i → IsSound l.tree l.source n
