use Rattle.std.proofs.Common.{ℕ, ◌≤◌, ◌-◌}
use Rattle.std.specs.Prelude.{IsSome}
use Rattle.js_cursor.specs.Recorded.{found}
use Rattle.js_cursor.proofs.history.first_from.Given as goal

abbrev pub invariant-loop-place : goal.invariant-loop-place
invariant-loop-place g l = (l.floor ≤ l.from) × ((q : ℕ) → l.floor ≤ q → IsSome (found l.values q) → l.from ≤ q)

abbrev pub decreases-loop-place : goal.decreases-loop-place
decreases-loop-place g l = 4294967296 - l.from
