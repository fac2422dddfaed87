use Rattle.std.proofs.Common.{◌≡◌, take}
use Rattle.std.specs.List.{flat_map}
use Rattle.js_record.specs.Shown.{name_shown}
use Rattle.js_record.proofs.visiting.exported_names.Given as goal

-- those of the slots so far
abbrev pub invariant-loop-slot : goal.invariant-loop-slot
invariant-loop-slot l = l.names.items ≡ flat_map (name_shown l.tree l.source) (take l.slot-index l.slots)
