use Rattle.std.proofs.Common.{◌≡◌, drop}
use Rattle.js_graph.specs.Modules.{are_linked}
use Rattle.js_graph.proofs.module.are_linked.Given as goal

-- what is left to look at has the answer
abbrev pub invariant-loop-module : goal.invariant-loop-module
invariant-loop-module l = are_linked l.modules.items ≡ are_linked (drop l.module-index l.modules.items)
