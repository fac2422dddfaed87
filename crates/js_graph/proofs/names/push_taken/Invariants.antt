use Rattle.std.proofs.Common.{◌≡◌, ◌++◌, take}
use Rattle.std.specs.Prelude.{filter}
use Rattle.js_graph.specs.Collecting.{exported_by}
use Rattle.js_graph.specs.Names.{is_taken}
use Rattle.js_graph.proofs.names.push_taken.Given as goal

-- the names of the entries so far are added
abbrev pub invariant-loop-i : goal.invariant-loop-i
invariant-loop-i l = l.names.items ≡ l.initial.names.items ++ filter (is_taken l.first) (exported_by (take l.i l.entries))
