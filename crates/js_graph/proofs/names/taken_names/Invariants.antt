use Rattle.std.proofs.Common.{◌≡◌, take}
use Rattle.js_graph.specs.Collecting.{taken_from}
use Rattle.js_graph.proofs.names.taken_names.Given as goal

-- the names of the modules so far are added
abbrev pub invariant-loop-number : goal.invariant-loop-number
invariant-loop-number l = l.names.items ≡ taken_from l.modules.items l.first (take l.number-index l.numbers)
