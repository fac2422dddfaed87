use Rattle.std.proofs.Common.{◌≡◌, drop}
use Rattle.std.specs.Prelude.{bytes_eq}
use Rattle.std.specs.List.{list_any}
use Rattle.js_record.specs.Distinct.{names_of}
use Rattle.js_record.proofs.distinct.is_asked.Given as goal

-- what is left to look at has the answer
abbrev pub invariant-loop-i : goal.invariant-loop-i
invariant-loop-i l = list_any (bytes_eq l.name) (names_of (drop l.start l.entries)) ≡ list_any (bytes_eq l.name) (names_of (drop l.i l.entries))
