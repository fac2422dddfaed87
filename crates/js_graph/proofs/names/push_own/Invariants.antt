use Rattle.std.proofs.Common.{◌≡◌, ◌++◌, take}
use Rattle.js_graph.specs.Collecting.{exported_by}
use Rattle.js_graph.proofs.names.push_own.Given as goal

-- the names of the entries so far are added
abbrev pub invariant-loop-i : goal.invariant-loop-i
invariant-loop-i l = l.names ≡ l.initial.names ++ exported_by (take l.i l.entries)
