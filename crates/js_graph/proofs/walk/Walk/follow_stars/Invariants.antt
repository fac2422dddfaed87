use Rattle.std.proofs.Common.{◌≡◌, take}
use Rattle.std.specs.List.{flat_map}
use Rattle.js_graph.specs.Following.{entered}
use Rattle.js_graph.specs.Leads.{by_star}
use Rattle.js_graph.proofs.walk.Walk.follow_stars.Given as goal

-- the targets of the entries before are reached
abbrev pub invariant-loop-i : goal.invariant-loop-i
invariant-loop-i l = record {
  reached : l.self.reached.keys ≡ entered l.initial.self.reached.keys (flat_map (by_star l.asked l.name) (take l.i l.entries));
  found : l.self.found ≡ l.initial.self.found;
}
