use Rattle.std.proofs.Common.{◌≡◌, take}
use Rattle.std.specs.Prelude.{nat_eq}
use Rattle.std.specs.List.{flat_map}
use Rattle.indexmap.specs.IndexSet.{insert_all}
use Rattle.js_record.specs.part_visits.Options.{places_of}
use Rattle.js_graph.specs.Modules.{target_by}
use Rattle.js_graph.proofs.names.reach_stars.Given as goal

-- the targets of the entries before are reached
abbrev pub invariant-loop-i : goal.invariant-loop-i
invariant-loop-i l = l.reached.keys ≡ insert_all nat_eq l.initial.reached.keys (flat_map (λ ee. places_of (target_by l.asked ee.module_request)) (take l.i l.entries))
