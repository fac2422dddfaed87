use Rattle.std.proofs.Common.{◌≡◌, drop}
use Rattle.js_record.specs.Distinct.{names_of, no_two}
use Rattle.js_record.proofs.distinct.are_distinct.Given as goal

-- what is left to look at has the answer
abbrev pub invariant-loop-i : goal.invariant-loop-i
invariant-loop-i l = no_two (names_of l.entries) ≡ no_two (names_of (drop l.i l.entries))
