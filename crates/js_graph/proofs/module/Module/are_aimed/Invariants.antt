use Rattle.std.proofs.Common.{◌≡◌, drop}
use Rattle.std.specs.List.{list_all}
use Rattle.js_graph.specs.Modules.{is_aimed}
use Rattle.js_graph.proofs.module.Module.are_aimed.Given as goal

-- what is left to look at has the answer
abbrev pub invariant-loop-i : goal.invariant-loop-i
invariant-loop-i l = list_all (is_aimed l.self) l.entries ≡ list_all (is_aimed l.self) (drop l.i l.entries)
