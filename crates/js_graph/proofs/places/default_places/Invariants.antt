use Rattle.std.proofs.Common.{take}
use Rattle.js_graph.specs.Places.{AreDefaults}
use Rattle.js_graph.proofs.places.default_places.Given as goal

-- the set has the places of the default imports so far
abbrev pub invariant-loop-i : goal.invariant-loop-i
invariant-loop-i l = AreDefaults l.defaults.keys (take l.i l.imports)
