use Rattle.std.proofs.Common.{◌≡◌, ◌++◌, take}
use Rattle.js_graph.proofs.names.push_all.Given as goal

-- the names so far are added
abbrev pub invariant-loop-name : goal.invariant-loop-name
invariant-loop-name l = l.names ≡ l.initial.names ++ take l.name-index l.others.items
