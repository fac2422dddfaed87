use Rattle.std.proofs.Common.{◌≡◌, drop}
use Rattle.js_record.specs.Distinct.{names_of, none_shared}
use Rattle.js_record.proofs.distinct.are_apart.Given as goal

-- what is left to look at has the answer
abbrev pub invariant-loop-i : goal.invariant-loop-i
invariant-loop-i l = none_shared (names_of l.entries) (names_of l.others) ≡ none_shared (names_of (drop l.i l.entries)) (names_of l.others)
