use Rattle.std.proofs.Common.{take}
use Rattle.js_graph.specs.Places.{ArePlaces}
use Rattle.js_graph.proofs.places.export_places.Given as goal

-- the map has the places of the entries so far
abbrev pub invariant-loop-i : goal.invariant-loop-i
invariant-loop-i l = ArePlaces l.places.entries (take l.i l.entries)
